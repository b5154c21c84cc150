-- A push that a client saw done is in a journal that is long enough, at the same place and with the same parts.
use Rattle.std.proofs.Common.{ℕ, true, ◌≡◌, ◌<◌, ◌≤◌, List, [], ◌∷◌, ◌++◌, sym, ◌∙◌, ap, subst}
use Rattle.std.proofs.Common.{arith, length, Option, Some, None, reverse}
use Rattle.std.specs.Prelude.{◌↔◌, IsTrue, IsSome}
use Rattle.std.proofs.lemmas.List.{reverse-append}
use mathlib.Core.List.{IsPrefix}
use Rattle.hg_parts.specs.declared.item.Taken.{Taken}
use Rattle.hg_push.specs.declared.outcome.Outcome.{Outcome}
use Rattle.hg_push.specs.declared.outcome.Outcome.TheVariants.{Done as done_with, Aborted}
use Rattle.hg_push.specs.History.{History, is_closed, outcome, parts, serial}
use Rattle.hg_push.specs.Changed.{is_done}
use Rattle.hg_push.specs.Places.{IsPlace}
use Rattle.hg_push.specs.Run.{RepositoryOf, run_push}
use Rattle.hg_serve.specs.Histories.{newest_first}
use Rattle.hg_commit.specs.Records.{done_in}
use Rattle.hg_theorems.specs.Recovering.{IsAmong}

done_some : {D E : Type 0} (how : Option (Outcome D E)) → is_done how ≡ true → IsSome how
done_some None is = cc
done_some (Some (done_with done)) is = grind arith
done_some (Some (Aborted reason)) is = cc

-- where one list begins another, what stands in it stands there
front_in : (xs more front : List ℕ) (p : ℕ) (back : List ℕ) → xs ++ more ≡ front ++ p ∷ back
    → length front < length xs → (b : List ℕ) × (xs ≡ front ++ p ∷ b)
front_in [] more front p back is low = absurd (omega (arith, low))
front_in (x ∷ xs) more [] p back is low = let e : x ≡ p = cc in (xs, ap (λ n. n ∷ xs) e)
front_in (x ∷ xs) more (y ∷ front) p back is low =
    let e : x ≡ y = cc in
    let r : xs ++ more ≡ front ++ p ∷ back = cc in
    let inner = front_in xs more front p back r (omega (arith, low)) in
    (inner.0, ap (λ l. x ∷ l) inner.1 ∙ ap (λ n. n ∷ (front ++ p ∷ inner.0)) e)

-- a history that goes on, with the newest place first
grown : {A : Type 0} (before whole : List (Taken A)) (pre : IsPrefix before whole)
    → newest_first whole ≡ reverse pre.0 ++ newest_first before
grown before whole pre = ap reverse (sym pre.1) ∙ reverse-append before pre.0

module _ {A : Type 0}
    (grow : (first : RepositoryOf A) (late before : History A) →
    IsPrefix (serial run_push first before).journal (serial run_push first (late ++ before)).journal)
    (stay : (p : ℕ) (late before : History A) → is_closed p before ≡ true →
    parts p (late ++ before) ≡ parts p before)
    (move : (first : RepositoryOf A) (late before : History A) (p place : ℕ) →
    IsPlace run_push first before p place → IsPlace run_push first (late ++ before) p place)
    (done : (first : RepositoryOf A) (h : History A) (p place : ℕ) → IsPlace run_push first h p place →
    is_done (outcome run_push first p h) ≡ true)
    (ends : (first : RepositoryOf A) (p : ℕ) (h : History A) → IsTrue (is_closed p h)
    ↔ IsSome (outcome run_push first p h))
    (first : RepositoryOf A)
  where
    pub closed : (h : History A) (p place : ℕ) → IsPlace run_push first h p place → is_closed p h ≡ true
    closed h p place at = (ends first p h).1 (done_some (outcome run_push first p h) (done first h p place at))

    -- it keeps its place, as the history goes on
    later : (before whole : List (Taken A)) (p place : ℕ) → IsPrefix before whole
        → IsPlace run_push first (newest_first before) p place
        → IsPlace run_push first (newest_first whole) p place
    later before whole p place pre at =
        subst (λ (h : History A). IsPlace run_push first h p place) (sym (grown before whole pre))
        (move first (reverse pre.0) (newest_first before) p place at)

    -- and its parts
    same : (before whole : List (Taken A)) (p place : ℕ) → IsPrefix before whole
        → IsPlace run_push first (newest_first before) p place
        → parts p (newest_first whole) ≡ parts p (newest_first before)
    same before whole p place pre at =
        ap (parts p) (grown before whole pre)
        ∙ stay p (reverse pre.0) (newest_first before) (closed (newest_first before) p place at)

    -- it had that place already, where so many pushes were done
    earlier : (before whole : List (Taken A)) (p place : ℕ) → IsPrefix before whole → place < done_in first before
        → IsPlace run_push first (newest_first whole) p place
        → IsPlace run_push first (newest_first before) p place
    earlier before whole p place pre low at =
        let g = grow first (reverse pre.0) (newest_first before) in
        let there : IsPlace run_push first (reverse pre.0 ++ newest_first before) p place =
        subst (λ (h : History A). IsPlace run_push first h p place) (grown before whole pre) at in
        let split = front_in (serial run_push first (newest_first before)).journal g.0 there.front p there.back
        (g.1 ∙ there.spelled) (omega (arith, low, there.count)) in
        record { front = there.front; back = split.0; spelled = split.1; count = there.count }

    pub among : (client witness whole : List (Taken A)) (count p place : ℕ) → IsPrefix client whole
        → IsPrefix witness whole → count ≤ done_in first witness → place < count
        → IsPlace run_push first (newest_first client) p place → IsAmong first client witness count p place
    among client witness whole count p place mine theirs most low at =
        let there = earlier witness whole p place theirs (omega (arith, low, most))
        (later client whole p place mine at) in
        record {
          at = there;
          below = low;
          same = sym (same witness whole p place theirs there) ∙ same client whole p place mine at;
        }
