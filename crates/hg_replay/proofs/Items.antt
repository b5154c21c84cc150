-- The items of one push, and what a book makes of them.
use Rattle.std.proofs.Common.{ℕ, Bool, true, ◌≡◌, ◌==◌, ◌<◌, ◌+◌, ◌^◌, append_assoc, List, [], ◌∷◌, ◌++◌}
use Rattle.std.proofs.Common.{refl, sym, ◌∙◌, ap, subst, arith, length, Option, Some, None, map}
use Rattle.std.specs.Prelude.{◌↔◌, IsSome, IfSome}
use Rattle.hg_push.specs.declared.row.State.TheVariants.{Open}
use Rattle.std.proofs.lemmas.Bool.Decides.{nat_tests}
use Rattle.std.proofs.lemmas.List.{append-nil, length-append}
use Rattle.hg_types.specs.declared.part.Part.{Part}
use Rattle.hg_parts.specs.declared.item.Item.{Item}
use Rattle.hg_parts.specs.declared.item.What.TheVariants.{Part as a_part}
use Rattle.hg_repo.specs.declared.done.Done.{Done}
use Rattle.hg_parts.specs.declared.refusal.Refusal.{Refusal}
use Rattle.hg_push.specs.declared.outcome.Outcome.{Outcome}
use Rattle.hg_push.specs.declared.row.Row.{Row}
use Rattle.hg_push.specs.History.{History, is_closed, is_mark, outcome}
use Rattle.hg_push.specs.Book.{HoldsHistory, IsSameOpenings, Opens, is_opened, stepped}
use Rattle.hg_push.specs.Reply.{CanBeTold}
use Rattle.hg_push.specs.Rows.{row_of, rows_without}
use Rattle.hg_push.specs.Run.{BookOf, RepositoryOf, run_push}
use Rattle.hg_connection.specs.declared.bundle_end.BundleEnd.{BundleEnd}
use Rattle.hg_connection.specs.declared.bundle_end.BundleEnd.TheVariants.{Whole, Fault, InputEnded, ReadFailed}
use Rattle.hg_parts.specs.declared.item.What.{What}
use Rattle.hg_parts.specs.declared.item.Taken.{Taken}
use Rattle.hg_connection.specs.Receiving.{mark_of, part_items, push_items}
use Rattle.hg_connection.proofs.ReceivingLemmas.{items_more}
use Rattle.hg_replay.specs.Taking.{HasTaken, IsIdle, PushLeaves}

-- a step of the book, as its contract tells it
pub record Steps {A : Type 0} (b new : BookOf A) (item : Item A) (refused : Bool) : Type 0 where
  pub pushes : IsSameOpenings b new
  pub holds : (first : RepositoryOf A) (h : History A) → HoldsHistory run_push first h b
      → HoldsHistory run_push first (stepped b item refused h) new

still_opened : {A : Type 0} (b new : BookOf A) (p : ℕ) → IsSameOpenings b new → is_opened b p ≡ true
    → is_opened new p ≡ true
still_opened b new p same opened = rw (same.first_push, same.next) opened

its_step : {A : Type 0} (b : BookOf A) (item : Item A) (refused : Bool) (push : ℕ) (h : History A)
    → item.push ≡ push → is_opened b push ≡ true
    → stepped b item refused h ≡ record { item = item; refused = refused } ∷ h
its_step b item refused push h of_it opened =
    let own : is_opened b item.push ≡ true = ap (λ n. is_opened b n) of_it ∙ opened in rw own refl

pub has_stepped : {A : Type 0} (first : RepositoryOf A) (before : History A) (push : ℕ) (b new : BookOf A)
    (items : List (Item A)) (item : Item A) (refused : Bool) → item.push ≡ push → Steps b new item refused
    → HasTaken first before push b items → HasTaken first before push new (items ++ item ∷ [])
has_stepped {A} first before push b new items item refused of_it s t = record {
  places = record { item = item; refused = refused } ∷ t.places;
  items_are = ap (λ (l : List (Item A)). l ++ item ∷ []) t.items_are;
  holds = subst (λ (h : History A). HoldsHistory run_push first h new)
      (its_step b item refused push (t.places ++ before) of_it t.opened)
      (s.holds first (t.places ++ before) t.holds);
  opened = still_opened b new push s.pushes t.opened;
  rows = s.pushes.pushes ∙ t.rows;
}

-- the law `closed_pushes_have_ended`
abbrev pub ClosedAreEnded : Type 0 → Type 0
ClosedAreEnded A = (first : RepositoryOf A) (p : ℕ) (h : History A)
    → (is_closed p h ≡ true) ↔ IsSome (outcome run_push first p h)

-- the book took the mark of a push
pub record Closes {A : Type 0} (first : RepositoryOf A) (before : History A) (push : ℕ) (book : BookOf A)
    (items : List (Item A)) : Type 0 where
  pub taken : HasTaken first before push book items
  pub ended : IsSome (outcome run_push first push (taken.places ++ before))
  pub row : IsSome (row_of push book.rows)

mark_closes : {A : Type 0} (push : ℕ) (x : Taken A) (before : History A) → x.item.push ≡ push
    → is_mark x.item.what ≡ true → is_closed push (x ∷ before) ≡ true
mark_closes push x before of_it mark = grind (arith, nat_tests, of_it, mark)

has_row : {A D E : Type 0} (push : ℕ) (rows : List (Row D E A)) → map (λ r. r.push) rows ≡ push ∷ []
    → IsSome (row_of push rows)
has_row push [] is = cc
has_row push (row ∷ rows) is = let own : (row.push == push) ≡ true = grind (arith, nat_tests, is) in
    rw own refl

pub mark_stepped : {A : Type 0} → ClosedAreEnded A
    → (first : RepositoryOf A) (before : History A) (push : ℕ) (b new : BookOf A) (items : List (Item A))
    (item : Item A) (refused : Bool) → item.push ≡ push
    → is_mark item.what ≡ true → Steps b new item refused → HasTaken first before push b items
    → Closes first before push new (items ++ item ∷ [])
unfolding has_stepped
mark_stepped {A} law first before push b new items item refused of_it mark s t = record {
  taken = has_stepped first before push b new items item refused of_it s t;
  ended = (law first push (record { item = item; refused = refused } ∷ (t.places ++ before))).0
      (mark_closes push (record { item = item; refused = refused }) (t.places ++ before) of_it mark);
  row = has_row push new.rows (s.pushes.pushes ∙ t.rows);
}

-- a reply that a book hands out
pub record HandsOut {A : Type 0} (push : ℕ) (book new : BookOf A)
    (reply : Option (Outcome (Done A) (Refusal A))) : Type 0 where
  pub answer : (first : RepositoryOf A) (h : History A) → HoldsHistory run_push first h book
      → IsSome (row_of push book.rows) → reply ≡ outcome run_push first push h
  pub told : IfSome reply CanBeTold
  pub some : IfSome reply (λ _. new ≡ record book { rows = rows_without push book.rows })
  pub holds : (first : RepositoryOf A) (h : History A) → HoldsHistory run_push first h book
      → HoldsHistory run_push first h new

none_left : {A D E : Type 0} (push : ℕ) (rows : List (Row D E A)) → map (λ r. r.push) rows ≡ push ∷ []
    → rows_without push rows ≡ []
none_left push [] is = refl
none_left push (row ∷ []) is = let own : (row.push == push) ≡ true = grind (arith, nat_tests, is) in
    rw own refl
none_left push (row ∷ other ∷ rows) is = absurd cc

-- what a book that took the mark hands out
pub ends_so : {A : Type 0} (first : RepositoryOf A) (before : History A) (push : ℕ) (book new : BookOf A)
    (items : List (Item A)) (reply : Option (Outcome (Done A) (Refusal A)))
    (how : Outcome (Done A) (Refusal A))
    → reply ≡ Some how → HandsOut push book new reply → Closes first before push book items
    → PushLeaves first before push items how new
ends_so first before push book new items reply how is hands c = record {
  ends = record {
    places = c.taken.places;
    items_are = c.taken.items_are;
    legal = c.taken.holds.legal;
    ended = sym (hands.answer first (c.taken.places ++ before) c.taken.holds c.row) ∙ is;
    told = subst (λ o. IfSome o CanBeTold) is hands.told;
  };
  idle = record {
    holds = hands.holds first (c.taken.places ++ before) c.taken.holds;
    rows = ap (λ b. b.rows) (subst
        (λ o. IfSome o (λ _. new ≡ record book { rows = rows_without push book.rows })) is hands.some)
        ∙ none_left push book.rows c.taken.rows;
  };
}

pub has_reply : {A : Type 0} (first : RepositoryOf A) (before : History A) (push : ℕ) (book : BookOf A)
    (items : List (Item A)) (reply : Option (Outcome (Done A) (Refusal A))) → reply ≡ None
    → ((first : RepositoryOf A) (h : History A) → HoldsHistory run_push first h book → IsSome (row_of push book.rows)
    → reply ≡ outcome run_push first push h) → Closes first before push book items → ⊥
has_reply {A} first before push book items reply none answer c =
    let e : outcome run_push first push (c.taken.places ++ before) ≡ None = sym
    (answer first (c.taken.places ++ before) c.taken.holds c.row) ∙ none in
    let ended : IsSome (outcome run_push first push (c.taken.places ++ before)) = c.ended in
    let bad : IsSome {T = Outcome (Done A) (Refusal A)} None = subst (λ o. IsSome o) e ended in cc

-- a push was opened in an idle book
pub begins : {A : Type 0} (first : RepositoryOf A) (before : History A) (push : ℕ) (b new : BookOf A)
    → IsIdle first before b → Opens b push new → is_opened new push ≡ true
    → ((first : RepositoryOf A) (h : History A) → HoldsHistory run_push first h b → HoldsHistory run_push first h new)
    → HasTaken first before push new []
begins {A} first before push b new idle opens opened holds = record {
  places = [];
  items_are = refl;
  holds = holds first before idle.holds;
  opened = opened;
  rows = ap (λ (n : BookOf A). map (λ r. r.push) n.rows) opens.1
      ∙ ap (λ (rows : List (Row (Done A) (Refusal A) A)). map (λ r. r.push) (rows
      ++ record { push = push; state = Open [] } ∷ [])) idle.rows;
}

-- so many of the parts were given to the book
pub record HasStepped {A : Type 0} (old b : BookOf A) (push index : ℕ)
    (left parts : List (Part A)) : Type 0 where
  pub given : List (Part A)
  pub spelled : parts ≡ given ++ left
  pub index_is : index ≡ length given
  pub next : b.next ≡ old.next
  pub taken : (first : RepositoryOf A) (before : History A) → HasTaken first before push old []
      → HasTaken first before push b (part_items push 0 given)

pub none_stepped : {A : Type 0} (b : BookOf A) (push : ℕ) (parts : List (Part A))
    → HasStepped b b push 0 parts parts
none_stepped b push parts =
    record { given = []; spelled = refl; index_is = refl; next = refl; taken = λ first before t. t }

pub one_stepped : {A : Type 0} (old b new : BookOf A) (push index : ℕ) (part : Part A) (refused : Bool)
    (ready left parts : List (Part A)) → ready ≡ part ∷ left → HasStepped old b push index ready parts
    → Steps b new (record { push = push; index = index; what = a_part part }) refused
    → HasStepped old new push (index + 1) left parts
one_stepped {A} old b new push index part refused ready left parts is s steps = record {
  given = s.given ++ part ∷ [];
  spelled = s.spelled ∙ ap (λ (l : List (Part A)). s.given ++ l) is
      ∙ sym (append_assoc s.given (part ∷ []) left);
  index_is = omega (arith, s.index_is, length-append s.given (part ∷ []));
  next = steps.pushes.next ∙ s.next;
  taken = λ first before t.
      let from_none : index ≡ 0 + length s.given = omega (arith, s.index_is) in
      let e : part_items push 0 s.given ++ part_items push index (part
      ∷ []) ≡ part_items push 0 (s.given ++ part ∷ []) =
      ap (λ (n : ℕ). part_items push 0 s.given ++ part_items push n (part ∷ [])) from_none
      ∙ sym (items_more push 0 s.given part) in
      subst (HasTaken first before push new) e
      (has_stepped first before push b new (part_items push 0 s.given)
      (record { push = push; index = index; what = a_part part }) refused refl steps
      (s.taken first before t));
}

pub index_below : {A : Type 0} (old b : BookOf A) (push index : ℕ) (part : Part A)
    (ready left parts : List (Part A)) → ready ≡ part ∷ left → HasStepped old b push index ready parts
    → length parts < 2 ^ 32 → index + 1 < 2 ^ 32
index_below {A} old b push index part ready left parts is s few =
    let e : parts ≡ s.given ++ part ∷ left = s.spelled ∙ ap (λ (l : List (Part A)). s.given ++ l) is in
    omega (
      arith,
      ap (λ (l : List (Part A)). length l) e,
      length-append s.given (part ∷ left),
      s.index_is,
      few,
    )

pub all_stepped : {A : Type 0} (old b : BookOf A) (push index : ℕ) (ready parts : List (Part A)) → ready ≡ []
    → HasStepped old b push index ready parts
    → (index ≡ length parts)
    × ((first : RepositoryOf A) (before : History A) → HasTaken first before push old []
    → HasTaken first before push b (part_items push 0 parts))
all_stepped {A} old b push index ready parts none s =
    let e : s.given ≡ parts = sym (s.spelled ∙ ap (λ (l : List (Part A)). s.given ++ l) none
    ∙ append-nil s.given) in (
      s.index_is ∙ ap (λ (l : List (Part A)). length l) e,
      λ first before t. subst (λ (l : List (Part A)). HasTaken first before push b (part_items push 0 l))
          e (s.taken first before t),
    )

marked : (A : Type 0) (ending : BundleEnd) → is_mark (mark_of {A = A} ending) ≡ true
marked A Whole = refl
marked A (Fault fault) = refl
marked A InputEnded = refl
marked A ReadFailed = refl

-- the book was given all parts and the mark
pub whole_push : {A : Type 0} → ClosedAreEnded A
    → (first : RepositoryOf A) (before : History A) (push : ℕ) (b new : BookOf A) (parts : List (Part A))
    (ending : BundleEnd) (index : ℕ) (what : What A) (refused : Bool) → index ≡ length parts
    → what ≡ mark_of ending → Steps b new (record { push = push; index = index; what = what }) refused
    → HasTaken first before push b (part_items push 0 parts)
    → Closes first before push new (push_items push parts (mark_of ending))
whole_push {A} law first before push b new parts ending index what refused counted is s t =
    let with_mark : Steps b new (record { push = push; index = index; what = mark_of ending }) refused = subst
    (λ (w : What A). Steps b new (record { push = push; index = index; what = w }) refused) is s in
    let with_count : Steps b new (record { push = push; index = length parts; what = mark_of ending })
    refused = subst (λ (i : ℕ). Steps b new (record { push = push; index = i; what = mark_of ending })
    refused) counted with_mark in
    mark_stepped law first before push b new (part_items push 0 parts)
    (record { push = push; index = length parts; what = mark_of ending }) refused refl
    (marked A ending) with_count t
