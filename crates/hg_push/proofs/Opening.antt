-- What a book holds after it opened a push.
use Rattle.std.proofs.Common.{ℕ, Bool, true, false, ◌≡◌, ◌==◌, ◌||◌, ◌<◌, ◌+◌, ◌≤◌, List, [], ◌∷◌, ◌++◌, refl}
use Rattle.std.proofs.Common.{sym, ◌∙◌, ap, subst, arith, Option, Some, None, map, length, length-append}
use Rattle.std.specs.Option.{option_or}
use Rattle.std.specs.List.{AllByRecursion, count_by}
use Rattle.std.proofs.lemmas.Bool.Decides.{nat_tests}
use Rattle.std.proofs.lemmas.List.Folds.{find-append}
use Rattle.std.proofs.lemmas.List.Sums.{count_by-le-length}
use Rattle.hg_parts.specs.declared.item.Taken.{Taken}
use Rattle.hg_push.specs.declared.row.Row.{Row}
use Rattle.hg_push.specs.declared.row.State.{State}
use Rattle.hg_push.specs.declared.row.State.TheVariants.{Open}
use Rattle.hg_push.specs.History.{History, Running, is_of, parts, outcome}
use Rattle.hg_push.specs.Rows.{row_of, is_open, RowTells}
use Rattle.hg_push.specs.Book.{Book, HoldsHistory, AreRows, AreNumbers, is_between, is_opened, Opens}
use Rattle.hg_push.proofs.Finding.{row_opened}
use Rattle.hg_push.proofs.Trims.{either_way}

fresh_step : {A : Type 0} (opened : ℕ → Bool) (p : ℕ) (x : Taken A) → opened p ≡ false
    → opened x.item.push ≡ true → is_of p x ≡ false
fresh_step opened p x new old =
    either_way (is_of p x) (λ t. let e : x.item.push ≡ p = grind (arith, nat_tests) in
    let h : opened x.item.push ≡ opened p = ap opened e in cc) (λ f. f)

-- a push that is not opened has no part and no outcome
fresh_parts : {A : Type 0} (opened : ℕ → Bool) (p : ℕ) (h : History A) → opened p ≡ false
    → AllByRecursion (λ x. opened x.item.push ≡ true) h → parts p h ≡ []
fresh_parts opened p [] new all = refl
fresh_parts opened p (x ∷ h) new all = let other = fresh_step opened p x new all.0 in
    rw other (fresh_parts opened p h new all.1)

pub fresh_outcome : {A R D E : Type 0} (run : Running A R D E) (first : R) (opened : ℕ → Bool) (p : ℕ)
    (h : History A) → opened p ≡ false → AllByRecursion (λ x. opened x.item.push ≡ true) h
    → outcome run first p h ≡ None
fresh_outcome run first opened p [] new all = refl
fresh_outcome run first opened p (x ∷ h) new all = let other = fresh_step opened p x new all.0 in
    rw other (fresh_outcome run first opened p h new all.1)

more_opened : {A : Type 0} (f g : ℕ → Bool) → ((p : ℕ) → f p ≡ true → g p ≡ true) → (h : History A)
    → AllByRecursion (λ x. f x.item.push ≡ true) h → AllByRecursion (λ x. g x.item.push ≡ true) h
more_opened f g more [] all = tt
more_opened f g more (x ∷ h) all = (more x.item.push all.0, more_opened f g more h all.1)

no_row : {A D E : Type 0} (opened : ℕ → Bool) (p : ℕ) (rows : List (Row D E A)) (row : Option (Row D E A))
    → AreRows opened rows → opened p ≡ false → row_of p rows ≡ row → row ≡ None
no_row opened p rows None are new is = refl
no_row opened p rows (Some r) are new is = let h = row_opened opened p rows r are is in cc

pair : {S T : Type 0} {a b : S} {c d : T} → a ≡ b → c ≡ d → ◌≡◌ {A = S × T} (a, c) (b, d)
pair e f = cc

or_none : {T : Type 0} (o : Option T) → option_or o None ≡ o
or_none None = refl
or_none (Some x) = refl

next_opened : (first next p : ℕ) → first ≤ next
    → is_between first (next + 1) p ≡ (is_between first next p || (p == next))
next_opened first next p order = grind (arith, nat_tests)

not_yet : (first next : ℕ) → is_between first next next ≡ false
not_yet first next = grind (arith, nat_tests)

pub holds_opened : {A R D E : Type 0} (run : Running A R D E) (first : R) (h : History A)
    (b new : Book A R D E) → b.first_push ≤ b.next → AreRows (is_between b.first_push b.next) b.rows
    → Opens b b.next new → HoldsHistory run first h b → HoldsHistory run first h new
holds_opened {A} {R} {D} {E} run first h b new order are opens holds =
    let row : Row D E A = record { push = b.next; state = Open [] } in
    let grown : Book A R D E = record b { next = b.next + 1; rows = b.rows ++ row ∷ [] } in
    let fresh : is_opened b b.next ≡ false = not_yet b.first_push b.next in
    let none : row_of b.next b.rows ≡ None = no_row (is_between b.first_push b.next) b.next b.rows _ are fresh
    refl in
    let own : (b.next == b.next) ≡ true = grind (arith, nat_tests) in
    subst (HoldsHistory run first h) (sym opens.1) (record {
      state = holds.state;
      legal = holds.legal;
      opened = more_opened (is_opened b) (is_opened grown) (λ p q. next_opened b.first_push b.next p order
          ∙ rw q) h holds.opened;
      rows = λ p q.
          either_way (p == b.next)
          (λ t.
          let e : p ≡ b.next = grind (arith, nat_tests) in
          let P : ℕ → Type 0 = λ n. RowTells (parts n h) (outcome run first n h)
          (row_of n (b.rows ++ row ∷ [])) in
          let here : row_of b.next (b.rows ++ row ∷ []) ≡ Some row = find-append (λ r. r.push
          == b.next) b.rows (row ∷ []) ∙ rw (none, own) in
          subst P (sym e) (rw (
            fresh_parts (is_opened b) b.next h fresh holds.opened,
            fresh_outcome run first (is_opened b) b.next h fresh holds.opened,
            here,
          ) (refl, tt)))
          (λ f.
          let was : is_opened b p ≡ true = either_way (is_opened b p) (λ y. y)
          (λ n. let z = sym (next_opened b.first_push b.next p order) ∙ q in
          let w : false ≡ true = rw (n, f) at z in cc) in
          let away : (b.next == p) ≡ false = grind (arith, nat_tests) in
          let same : row_of p (b.rows ++ row ∷ []) ≡ row_of p b.rows = find-append (λ r. r.push == p) b.rows
          (row ∷ []) ∙ rw away (or_none (row_of p b.rows)) in
          rw same (holds.rows p was));
    })

-- the number that was opened is opened
pub next_is_opened : (first next : ℕ) → first ≤ next → is_between first (next + 1) next ≡ true
next_is_opened first next order = grind (arith, nat_tests)

-- ---- the rows after one more

all_last : (n : ℕ) (ps : List ℕ) (m : ℕ) → n < m → AllByRecursion (λ q. n < q) ps
    → AllByRecursion (λ q. n < q) (ps ++ m ∷ [])
all_last n [] m less all = (less, tt)
all_last n (p ∷ ps) m less all = (all.0, all_last n ps m less all.1)

numbers_last : (f g : ℕ → Bool) (ps : List ℕ) (n : ℕ) → ((p : ℕ) → f p ≡ true → g p ≡ true)
    → ((p : ℕ) → f p ≡ true → p < n) → g n ≡ true → AreNumbers f ps → AreNumbers g (ps ++ n ∷ [])
numbers_last f g [] n more less now are = (now, tt, tt)
numbers_last f g (p ∷ ps) n more less now are =
    (more p are.0, all_last p ps n (less p are.0) are.1, numbers_last f g ps n more less now are.2)

below_next : (first next p : ℕ) → is_between first next p ≡ true → p < next
below_next first next p opened = grind (arith, nat_tests)

pushes_append : {A D E : Type 0} (rows : List (Row D E A)) (r : Row D E A)
    → map (λ x. x.push) (rows ++ r ∷ []) ≡ map (λ x. x.push) rows ++ r.push ∷ []
pushes_append [] r = refl
pushes_append (x ∷ rows) r = ap (λ ns. x.push ∷ ns) (pushes_append rows r)

pub rows_last : {A D E : Type 0} (first next : ℕ) (rows : List (Row D E A)) (r : Row D E A) → first ≤ next
    → r.push ≡ next → AreRows (is_between first next) rows
    → AreRows (is_between first (next + 1)) (rows ++ r ∷ [])
rows_last first next rows r order own are =
    let now : is_between first (next + 1) r.push ≡ true = rw own (grind (arith, nat_tests)) in
    subst (AreNumbers (is_between first (next + 1))) (sym (pushes_append rows r))
    (numbers_last (is_between first next) (is_between first (next + 1)) (map (λ x. x.push) rows) r.push
    (λ p q. next_opened first next p order ∙ rw q) (λ p q. rw own (below_next first next p q)) now are)

pub room_last : {A D E : Type 0} (rows new : List (Row D E A)) (r : Row D E A) (len cap places : ℕ)
    → new ≡ rows ++ r ∷ [] → places ≡ length rows + 1 → len + places ≤ cap
    → len + count_by (λ r. is_open r.state) new ≤ cap
room_last rows new r len cap places same count room =
    rw same (omega (
      arith,
      count_by-le-length (λ r. is_open r.state) (rows ++ r ∷ []),
      length-append rows (r ∷ []),
    ))

same_row : {A D E : Type 0} (r : Row D E A) (push : ℕ) (state : State D E A) → r.push ≡ push → r.state ≡ state
    → r ≡ record { push = push; state = state }
same_row {A} {D} {E} r push state p s =
    ap (λ (t : ℕ × State D E A). record { push = t.0; state = t.1 }) (pair p s)

same_book : {A R D E : Type 0} (new : Book A R D E) (repo : R) (journal : List ℕ) (first next limit : ℕ)
    (rows : List (Row D E A)) → new.repo ≡ repo → new.journal ≡ journal → new.first_push ≡ first
    → new.next ≡ next → new.limit ≡ limit → new.rows ≡ rows
    → new ≡ record {
      repo = repo;
      journal = journal;
      first_push = first;
      next = next;
      limit = limit;
      rows = rows;
    }
same_book {A} {R} {D} {E} new repo journal first next limit rows a b c d e f =
    ap (λ (t : (R × List ℕ) × ((ℕ × ℕ) × (ℕ × List (Row D E A)))).
    record {
      repo = t.0.0;
      journal = t.0.1;
      first_push = t.1.0.0;
      next = t.1.0.1;
      limit = t.1.1.0;
      rows = t.1.1.1;
    })
    (pair (pair a b) (pair (pair c d) (pair e f)))

pub opens_from : {A R D E : Type 0} (b new : Book A R D E) (r : Row D E A) → new.repo ≡ b.repo
    → new.journal ≡ b.journal → new.first_push ≡ b.first_push → new.next ≡ b.next + 1 → new.limit ≡ b.limit
    → r.push ≡ b.next → r.state ≡ Open [] → new.rows ≡ b.rows ++ r ∷ [] → Opens b b.next new
opens_from {A} {R} {D} {E} b new r repo journal first next limit push state rows =
    let row : r ≡ record { push = b.next; state = Open [] } = same_row r b.next (Open []) push state in (
      refl,
      same_book new b.repo b.journal b.first_push (b.next + 1) b.limit _ repo journal first next limit
          (rows ∙ ap (λ x. b.rows ++ x ∷ []) row),
    )
