-- What a desk keeps.
use Rattle.std.proofs.Common.{◌≡◌, ◌≢◌, ℕ, ◌+◌, ◌==◌, ◌||◌, not, ◌∷◌, ◌++◌, [], List, Bool, true, false}
use Rattle.std.proofs.Common.{true≢false, Option, Some, None, sym, ap, ◌∙◌, subst, refl, length, map, arith}
use Rattle.std.proofs.Common.{cond, ne_eqb, append_assoc}
use mathlib.Core.List.{IsPrefix}
use Rattle.std.specs.Prelude.{option_to_list, IfNone, IfSome, IsSome, if◌then◌else◌}
use Rattle.std.proofs.lemmas.Bool.Decides.{nat_tests}
use Rattle.atomic_table.specs.Seated.{TableId}
use Rattle.hg_parts.specs.declared.item.Item.{Item}
use Rattle.hg_repo.specs.declared.done.Done.{Done}
use Rattle.hg_parts.specs.declared.refusal.Refusal.{Refusal}
use Rattle.hg_queue.specs.declared.seat.Taker.{Taker}
use Rattle.hg_parts.specs.declared.item.Taken.{Taken}
use Rattle.hg_queue.specs.History.{has, items_of}
use Rattle.hg_queue.specs.declared.view.TakerView.{TakerView}
use Rattle.hg_queue.specs.Seats.{fresh}
use Rattle.hg_queue.specs.Words.{taker_view, history, taken, IsTakerIn}
use Rattle.hg_queue.proofs.CallerLemmas.{items_settle, has_here}
use Rattle.hg_push.specs.declared.outcome.Outcome.{Outcome}
use Rattle.hg_push.specs.declared.row.Row.{Row}
use Rattle.hg_push.specs.declared.row.State.TheVariants.{Open}
use Rattle.hg_push.specs.Book.{HoldsHistory, IsSameOpenings, Opens, is_opened, is_between, stepped}
use Rattle.hg_push.specs.History.{History}
use Rattle.hg_push.specs.Rows.{row_of, rows_without}
use Rattle.hg_push.specs.Run.{BookOf, RepositoryOf, run_push}
use Rattle.hg_serve.specs.Histories.{newest_first}
use Rattle.hg_serve.specs.Desks.{DeskView, rows_of, IsInOrder, IsSameBut}
use Rattle.hg_serve.proofs.Lists.{one_more}

pub history_items : {A : Type 0} (t : Taker A) → items_of (history t) ≡ items_of (taker_view t).settled
    ++ option_to_list (taker_view t).last
history_items t = items_settle (taker_view t).settled (taker_view t).last t.refused

pub taker_named : {A : Type 0} (id name : TableId) (capacity size : ℕ) (t : Taker A) → id ≡ name
    → capacity ≡ size → IsTakerIn id capacity t → IsTakerIn name size t
taker_named id name capacity size t is are =
    subst (λ (y : TableId × ℕ). IsTakerIn y.0 y.1 t) (λ i. (is i, are i))

pub empty_front : {X : Type 0} (xs ys : List X) → length xs ≡ 0 → xs ++ ys ≡ ys
empty_front [] ys e = refl
empty_front (x ∷ xs) ys e = absurd (omega arith)

-- what begins a beginning begins the whole
pub prefix_again : {X : Type 0} (xs ys zs : List X) → IsPrefix xs ys → IsPrefix ys zs → IsPrefix xs zs
prefix_again xs ys zs p q = (p.0 ++ q.0, sym (append_assoc xs p.0 q.0) ∙ (ap (λ l. l ++ q.0) p.1 ∙ q.1))

-- two turns leave what each leaves
pub same_again : {A : Type 0} (a b c : DeskView A) → IsSameBut a b → IsSameBut b c → IsSameBut a c
same_again a b c one two = record {
  rows = two.rows ∙ one.rows;
  next = two.next ∙ one.next;
  limit = two.limit ∙ one.limit;
  kept = two.kept ∙ one.kept;
  noted = two.noted ∙ one.noted;
  joined = two.joined ∙ one.joined;
  awaited = two.awaited ∙ one.awaited;
}

-- a desk at which nothing was taken, over a book that holds nothing
pub in_order_new : {A : Type 0} (id : TableId) (capacity : ℕ) (first repo : RepositoryOf A) (b : BookOf A)
    (t : Taker A)
    → IsTakerIn id capacity t → taker_view t ≡ fresh capacity → history t ≡ [] → repo ≡ first
    → HoldsHistory run_push repo [] b → IsInOrder id capacity first b t None
in_order_new {A} id capacity first repo b t taker view empty named holds = record {
  taker = taker;
  held = subst (λ (r : RepositoryOf A). HoldsHistory run_push r (newest_first (history t)) b) named
      (subst (λ (h : List (Taken A)). HoldsHistory run_push repo (newest_first h) b) (sym empty) holds);
  opened = λ p noted. absurd (true≢false (sym noted ∙ ap (λ (v : TakerView A). has p v.noted) view));
  row = λ p noted joined. absurd (true≢false (sym noted ∙ ap (λ (v : TakerView A). has p v.noted) view));
  spare = λ n none. absurd cc;
}

-- the same pushes are opened
same_opened : {A : Type 0} (b new : BookOf A) (p : ℕ) → IsSameOpenings b new → is_opened new p ≡ is_opened b p
same_opened b new p s = λ i. is_between (s.first_push i) (s.next i) p

-- the order after a change that leaves the numbers, the rows, and what is noted and joined
pub stays : {A : Type 0} (id : TableId) (capacity : ℕ) (first : RepositoryOf A) (b new : BookOf A)
    (t u : Taker A) (kept : Option ℕ)
    → IsSameOpenings b new → IsTakerIn id capacity u → (taker_view u).noted ≡ (taker_view t).noted
    → (taker_view u).joined ≡ (taker_view t).joined → HoldsHistory run_push first (newest_first (history u)) new
    → IsInOrder id capacity first b t kept → IsInOrder id capacity first new u kept
stays id capacity first b new t u kept s taker noted joined held o = record {
  taker = taker;
  held = held;
  opened = λ p is. same_opened b new p s ∙ o.opened p (ap (has p) (sym noted) ∙ is);
  row = λ p is isnt. ap (has p) s.pushes
      ∙ o.row p (ap (has p) (sym noted) ∙ is) (ap (has p) (sym joined) ∙ isnt);
  spare = λ m is. let r = o.spare m is in
      (same_opened b new m s ∙ r.0, ap (has m) noted ∙ r.1, ap (has m) s.pushes ∙ r.2);
}

its_step : {A : Type 0} (b : BookOf A) (x : Item A) (refused : Bool) (h : History A)
    → is_opened b x.push ≡ true → stepped b x refused h ≡ record { item = x; refused = refused } ∷ h
its_step b x refused h own = rw own refl

-- the order after one item more
pub turned : {A : Type 0} (id : TableId) (capacity : ℕ) (first : RepositoryOf A) (b new : BookOf A)
    (t u : Taker A) (kept : Option ℕ) (x : Item A) (refused : Bool)
    → IsSameOpenings b new → ((h : History A) → HoldsHistory run_push first h b
    → HoldsHistory run_push first (stepped b x refused h) new) → has x.push (taker_view t).noted ≡ true
    → IsTakerIn id capacity u → (taker_view u).noted ≡ (taker_view t).noted
    → (taker_view u).joined ≡ (taker_view t).joined → history u ≡ history t ++ taken x refused ∷ []
    → IsInOrder id capacity first b t kept → IsInOrder id capacity first new u kept
turned {A} id capacity first b new t u kept x refused s holds of_noted taker noted joined more o =
    let now : stepped b x refused (newest_first (history t)) ≡ newest_first (history u) = its_step b x refused
    (newest_first (history t)) (o.opened x.push of_noted)
    ∙ sym (ap (λ (h : List (Taken A)). newest_first h) more ∙ one_more (history t) (taken x refused)) in
    stays id capacity first b new t u kept s taker noted joined
    (subst (λ (h : History A). HoldsHistory run_push first h new) now (holds (newest_first (history t)) o.held))
    o

-- ---- openings

has_front : (p : ℕ) (ps qs : List ℕ) → has p ps ≡ true → has p (ps ++ qs) ≡ true
has_front p [] qs e = absurd (true≢false (sym e))
has_front p (q ∷ ps) qs e = go (q == p) e (λ there. has_front p ps qs there)
  where
    go : (b : Bool) → (b || has p ps) ≡ true → (has p ps ≡ true → has p (ps ++ qs) ≡ true)
        → (b || has p (ps ++ qs)) ≡ true
    go true e more = refl
    go false e more = more e

has_end : (p : ℕ) (ps : List ℕ) → has p (ps ++ p ∷ []) ≡ true
has_end p [] = has_here p []
has_end p (q ∷ ps) = go (q == p) (has_end p ps)
  where
    go : (b : Bool) → has p (ps ++ p ∷ []) ≡ true → (b || has p (ps ++ p ∷ [])) ≡ true
    go true e = refl
    go false e = e

map_end : {X Y : Type 0} (f : X → Y) (xs : List X) (x : X) → map f (xs ++ x ∷ []) ≡ map f xs ++ f x ∷ []
map_end f [] x = refl
map_end f (y ∷ ys) x = ap (λ l. f y ∷ l) (map_end f ys x)

pub opens_rows : {A : Type 0} (b new : BookOf A) (n : ℕ) → Opens b n new → rows_of new ≡ rows_of b ++ n ∷ []
opens_rows {A} b new n o = ap (λ (c : BookOf A). rows_of c) o.1
    ∙ map_end (λ (r : Row (Done A) (Refusal A) A). r.push) b.rows (record { push = n; state = Open [] })

between_more : (first next p : ℕ) → is_between first next p ≡ true → is_between first (next + 1) p ≡ true
between_more first next p e = grind (arith, nat_tests, e)

between_not : (first next : ℕ) → is_between first next next ≡ false
between_not first next = grind (arith, nat_tests)

-- the order after an opening, whose number is kept
pub keeps : {A : Type 0} (id : TableId) (capacity : ℕ) (first : RepositoryOf A) (b new : BookOf A)
    (t : Taker A) (kept : Option ℕ) (n : ℕ)
    → Opens b n new → is_opened new n ≡ true → HoldsHistory run_push first (newest_first (history t)) new
    → IsInOrder id capacity first b t kept → IsInOrder id capacity first new t (Some n)
keeps {A} id capacity first b new t kept n opens opened' held o =
    let from : new.first_push ≡ b.first_push = ap (λ (c : BookOf A). c.first_push) opens.1 in
    let to : new.next ≡ b.next + 1 = ap (λ (c : BookOf A). c.next) opens.1 in
    let rows = opens_rows b new n opens in
    let same : (p : ℕ) → is_opened new p ≡ is_between b.first_push (b.next + 1) p = λ p.
    (λ i. is_between (from i) (to i) p) in
    record {
      taker = o.taker;
      held = held;
      opened = λ p is. same p ∙ between_more b.first_push b.next p (o.opened p is);
      row = λ p is isnt. ap (has p) rows ∙ has_front p (rows_of b) (n ∷ []) (o.row p is isnt);
      spare = λ m is. subst (λ (k : ℕ). (is_opened new k ≡ true) × (has k (taker_view t).noted ≡ false)
          × (has k (rows_of new) ≡ true)) (number m is)
          (opened', unnoted, ap (has n) rows ∙ has_end n (rows_of b));
    }
  where
    number : (m : ℕ) → Some n ≡ Some m → n ≡ m
    number m is = cc (is)

    unnoted : has n (taker_view t).noted ≡ false
    unnoted = decide (has n (taker_view t).noted) refl
      where
        decide : (c : Bool) → has n (taker_view t).noted ≡ c → has n (taker_view t).noted ≡ false
        decide false is = is
        decide true is = absurd (true≢false (sym (o.opened n is)
            ∙ (ap (λ k. is_between b.first_push b.next k) opens.0 ∙ between_not b.first_push b.next)))

-- ---- replies

pub find_row : {A : Type 0} (p : ℕ) (rows : List (Row (Done A) (Refusal A) A))
    → has p (map (λ r. r.push) rows) ≡ true → IsSome (row_of p rows)
find_row p [] e = absurd (true≢false (sym e))
find_row {A} p (r ∷ rows) e = go (r.push == p) e (λ there. find_row p rows there)
  where
    go : (b : Bool) → (b || has p (map (λ (q : Row (Done A) (Refusal A) A). q.push) rows)) ≡ true
        → (has p (map (λ (q : Row (Done A) (Refusal A) A). q.push) rows) ≡ true → IsSome (row_of p rows))
        → IsSome (if b then Some r else row_of p rows)
    go true e more = refl
    go false e more = more e

has_without : {A : Type 0} (p q : ℕ) (rows : List (Row (Done A) (Refusal A) A)) → q ≢ p
    → has q (map (λ r. r.push) (rows_without p rows)) ≡ has q (map (λ r. r.push) rows)
has_without p q [] apart = refl
has_without {A} p q (r ∷ rows) apart = go (r.push == p) refl (has_without p q rows apart)
  where
    go : (b : Bool) → (r.push == p) ≡ b
        → has q (map (λ (s : Row (Done A) (Refusal A) A). s.push) (rows_without p rows)) ≡ has q
        (map (λ (s : Row (Done A) (Refusal A) A). s.push) rows)
        → has q (map (λ (s : Row (Done A) (Refusal A) A). s.push)
        (cond (not b) (r ∷ rows_without p rows) (rows_without p rows))) ≡ has q
        (map (λ (s : Row (Done A) (Refusal A) A). s.push) (r ∷ rows))
    go true is more =
        let mine : r.push ≡ p = grind (arith, nat_tests, is) in
        let other : (r.push == q) ≡ false = ne_eqb r.push q (λ (e : r.push ≡ q). apart (sym e ∙ mine)) in
        more ∙ ap (λ (b : Bool). b || has q (map (λ (s : Row (Done A) (Refusal A) A). s.push) rows))
        (sym other)
    go false is more = ap (λ (b : Bool). (r.push == q) || b) more

-- what a reply leaves of a book
pub record Replies {A : Type 0} (push : ℕ) (b new : BookOf A) : Type 0 where
  pub first_push : new.first_push ≡ b.first_push
  pub next : new.next ≡ b.next
  pub rows : (q : ℕ) → q ≢ push → has q (rows_of new) ≡ has q (rows_of b)

pub replies : {A : Type 0} (push : ℕ) (b new : BookOf A) (reply : Option (Outcome (Done A) (Refusal A)))
    → IfNone reply (new ≡ b) → IfSome reply (λ _. new ≡ record b { rows = rows_without push b.rows })
    → Replies push b new
replies {A} push b new None none some = record {
  first_push = ap (λ (c : BookOf A). c.first_push) none;
  next = ap (λ (c : BookOf A). c.next) none;
  rows = λ q apart. ap (λ (c : BookOf A). has q (rows_of c)) none;
}
replies {A} push b new (Some how) none some = record {
  first_push = ap (λ (c : BookOf A). c.first_push) some;
  next = ap (λ (c : BookOf A). c.next) some;
  rows = λ q apart. ap (λ (c : BookOf A). has q (rows_of c)) some ∙ has_without push q b.rows apart;
}

-- the order after the reply of a push that was joined
pub replied : {A : Type 0} (id : TableId) (capacity : ℕ) (first : RepositoryOf A) (push : ℕ)
    (b new : BookOf A) (t : Taker A) (kept : Option ℕ)
    → Replies push b new → HoldsHistory run_push first (newest_first (history t)) new
    → has push (taker_view t).joined ≡ true → has push (taker_view t).noted ≡ true
    → IsInOrder id capacity first b t kept → IsInOrder id capacity first new t kept
replied id capacity first push b new t kept r held joined noted o =
    let same : (p : ℕ) → is_opened new p ≡ is_opened b p = λ p.
    (λ i. is_between (r.first_push i) (r.next i) p) in record {
      taker = o.taker;
      held = held;
      opened = λ p is. same p ∙ o.opened p is;
      row = λ p is isnt. r.rows p
          (λ (s : p ≡ push). true≢false (sym joined
          ∙ (sym (ap (λ (q : ℕ). has q (taker_view t).joined) s) ∙ isnt))) ∙ o.row p is isnt;
      spare = λ n is.
          let s = o.spare n is in (
            same n ∙ s.0,
            s.1,
            r.rows n
                (λ (m : n ≡ push). true≢false (sym noted
                ∙ (sym (ap (λ (q : ℕ). has q (taker_view t).noted) m) ∙ s.1))) ∙ s.2,
          );
    }
