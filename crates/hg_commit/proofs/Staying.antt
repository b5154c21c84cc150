-- The record of a push, as its history goes on.
use Rattle.std.proofs.Common.{ℕ, true, ◌≡◌, ◌<◌, List, [], ◌∷◌, ◌++◌, sym, ◌∙◌, ap, subst}
use Rattle.std.proofs.Common.{arith, length, Option, Some, None, reverse}
use Rattle.std.specs.Prelude.{◌↔◌, IsTrue, IsSome}
use Rattle.std.proofs.lemmas.List.{reverse-append}
use mathlib.Core.List.{IsPrefix}
use Rattle.hg_store.specs.Entries.{Entry}
use Rattle.hg_parts.specs.declared.item.Taken.{Taken}
use Rattle.hg_types.specs.declared.part.Part.{Part}
use Rattle.hg_stream.specs.Frames.{IsBundle}
use Rattle.hg_push.specs.declared.outcome.Outcome.{Outcome}
use Rattle.hg_push.specs.declared.outcome.Outcome.TheVariants.{Done as done_with, Aborted}
use Rattle.hg_push.specs.History.{History, is_closed, outcome, parts, serial}
use Rattle.hg_push.specs.Changed.{is_done}
use Rattle.hg_push.specs.Places.{IsPlace}
use Rattle.hg_push.specs.Run.{RepositoryOf, run_push}
use Rattle.hg_commit.specs.Records.{IsRecordOf, done_in}

done_some : {D E : Type 0} (how : Option (Outcome D E)) → is_done how ≡ true → IsSome how
done_some None is = cc
done_some (Some (done_with done)) is = grind arith
done_some (Some (Aborted reason)) is = cc

-- where one list begins another, what stands in it stands there
front_in : (xs more front : List ℕ) (p : ℕ) (back : List ℕ) → xs ++ more ≡ front ++ p ∷ back
    → length front < length xs → (b : List ℕ) × (xs ≡ front ++ p ∷ b)
front_in [] more front p back is low = absurd (omega (arith, low))
front_in (x ∷ xs) more [] p back is low = let e : x ≡ p = cc in (xs, ap (λ n. n ∷ xs) e)
front_in (x ∷ xs) more (y ∷ front) p back is low =
    let e : x ≡ y = cc in
    let r : xs ++ more ≡ front ++ p ∷ back = cc in
    let inner = front_in xs more front p back r (omega (arith, low)) in
    (inner.0, ap (λ l. x ∷ l) inner.1 ∙ ap (λ n. n ∷ (front ++ p ∷ inner.0)) e)

module _ {A : Type 0}
    (grow : (first : RepositoryOf A) (late before : History A) →
    IsPrefix (serial run_push first before).journal (serial run_push first (late ++ before)).journal)
    (same : (p : ℕ) (late before : History A) → is_closed p before ≡ true →
    parts p (late ++ before) ≡ parts p before)
    (move : (first : RepositoryOf A) (late before : History A) (p place : ℕ) →
    IsPlace run_push first before p place → IsPlace run_push first (late ++ before) p place)
    (done : (first : RepositoryOf A) (h : History A) (p place : ℕ) → IsPlace run_push first h p place →
    is_done (outcome run_push first p h) ≡ true)
    (ends : (first : RepositoryOf A) (p : ℕ) (h : History A) → IsTrue (is_closed p h)
    ↔ IsSome (outcome run_push first p h))
    (first : RepositoryOf A)
  where
    closed : (h : History A) (p place : ℕ) → IsPlace run_push first h p place → is_closed p h ≡ true
    closed h p place at = (ends first p h).1 (done_some (outcome run_push first p h) (done first h p place at))

    pub later : (before after : List (Taken A)) (place : ℕ) (entry : Entry) → IsPrefix before after
        → IsRecordOf first before place entry → IsRecordOf first after place entry
    later before after place entry pre r =
        let is = reverse-append before pre.0 in
        let on : History A = reverse pre.0 in
        let shut = closed (reverse before) r.push place r.at in
        let inner : IsRecordOf first (before ++ pre.0) place entry = record {
          push = r.push;
          at = subst (λ (h : History A). IsPlace run_push first h r.push place) (sym is)
              (move first on (reverse before) r.push place r.at);
          bundle = subst (λ (ps : List (Part A)). IsBundle first.settings.limits entry.bundle ps)
              (sym (ap (parts r.push) is ∙ same r.push on (reverse before) shut)) r.bundle;
        } in
        subst (λ (h : List (Taken A)). IsRecordOf first h place entry) pre.1 inner

    pub earlier : (before after : List (Taken A)) (place : ℕ) (entry : Entry) → IsPrefix before after
        → place < done_in first before → IsRecordOf first after place entry
        → IsRecordOf first before place entry
    earlier before after place entry pre low r =
        let is = ap reverse (sym pre.1) ∙ reverse-append before pre.0 in
        let on : History A = reverse pre.0 in
        let g = grow first on (reverse before) in
        let there : IsPlace run_push first (on ++ reverse before) r.push place =
        subst (λ (h : History A). IsPlace run_push first h r.push place) is r.at in
        let split = front_in (serial run_push first (reverse before)).journal g.0 there.front r.push there.back
        (g.1 ∙ there.spelled) (omega (arith, low, there.count)) in
        let here : IsPlace run_push first (reverse before) r.push place = record {
          front = there.front;
          back = split.0;
          spelled = split.1;
          count = there.count;
        } in
        let shut = closed (reverse before) r.push place here in
        record {
          push = r.push;
          at = here;
          bundle = subst (λ (ps : List (Part A)). IsBundle first.settings.limits entry.bundle ps)
              (ap (parts r.push) is ∙ same r.push on (reverse before) shut) r.bundle;
        }
