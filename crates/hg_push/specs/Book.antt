-- What a book stands for.
use Rattle.std.specs.Prelude.{ℕ, Bool, true, ◌≡◌, ◌&&◌, ◌+◌, ◌<◌, ◌++◌, map, nat_le, nat_lt, List, [], ◌∷◌}
use Rattle.std.specs.Prelude.{if◌then◌else◌}
use Rattle.std.specs.List.{AllByRecursion}
use Rattle.hg_parts.specs.declared.item.Item.{Item}
use Rattle.hg_push.specs.declared.row.State.TheVariants.{Open}
use Rattle.hg_push.specs.declared.row.Row.{Row}
use Rattle.hg_push.specs.History.{History, Running, serial, parts, outcome, IsHistory}
use Rattle.hg_push.specs.Rows.{row_of, RowTells}

-- A repository, the numbers of the done pushes, the numbers that are opened, and a row for each push whose
-- reply was not taken.
pub record Book (A R D E : Type 0) : Type 0 where
  pub repo : R
  pub journal : List ℕ
  pub first_push : ℕ
  pub next : ℕ
  pub limit : ℕ
  pub rows : List (Row D E A)

-- a number that was given: from the first one, and below the next
abbrev pub is_between : ℕ → ℕ → ℕ → Bool
is_between first next p = nat_le first p && nat_lt p next

-- the push was opened
abbrev pub is_opened : {A R D E : Type 0} → Book A R D E → ℕ → Bool
is_opened b p = is_between b.first_push b.next p

-- The book holds the history h over a first repository.
pub record HoldsHistory {A R D E : Type 0} (run : Running A R D E) (first : R) (h : History A)
    (b : Book A R D E) : Type 0 where
  pub state : serial run first h ≡ record { repo = b.repo; journal = b.journal }
  pub legal : IsHistory h
  pub opened : AllByRecursion (λ x. is_opened b x.item.push ≡ true) h
  pub rows : (p : ℕ) → is_opened b p ≡ true → RowTells (parts p h) (outcome run first p h) (row_of p b.rows)

-- each of these numbers is opened, and they rise
abbrev pub AreNumbers : (ℕ → Bool) → List ℕ → Type 0
AreNumbers opened [] = Unit {0}
AreNumbers opened (p ∷ ps) = (opened p ≡ true) × AllByRecursion (λ q. p < q) ps × AreNumbers opened ps

-- each row is of an opened push, and they stand in the order of their numbers
abbrev pub AreRows : {A D E : Type 0} → (ℕ → Bool) → List (Row D E A) → Type 0
AreRows opened rows = AreNumbers opened (map (λ r. r.push) rows)

-- the history after an item: an item of a push that was never opened is in none
abbrev pub stepped : {A R D E : Type 0} → Book A R D E → Item A → Bool → History A → History A
stepped b item refused h = if is_opened b item.push then record { item = item; refused = refused } ∷ h else h

-- the next push is opened: it has a row with nothing staged
abbrev pub Opens : {A R D E : Type 0} → Book A R D E → ℕ → Book A R D E → Type 0
Opens old p new =
    (p ≡ old.next)
    × (new ≡ record old { next = old.next + 1; rows = old.rows ++ record { push = p; state = Open [] } ∷ [] })

-- the same pushes are opened, and the same of them have rows
pub record IsSameOpenings {A R D E : Type 0} (old new : Book A R D E) : Type 0 where
  pub first_push : new.first_push ≡ old.first_push
  pub next : new.next ≡ old.next
  pub limit : new.limit ≡ old.limit
  pub pushes : map (λ r. r.push) new.rows ≡ map (λ r. r.push) old.rows
