-- A stream is read in one way: its steps are one run, and it ends in one way at one place.
use Rattle.std.proofs.Common.{◌≡◌, ℕ, List, [], ◌∷◌, ◌++◌, sym, ap, ◌∙◌, append_assoc, subst}
use Rattle.hg_types.specs.declared.limits.Limits.{Limits}
use Rattle.hg_stream.proofs.Runs.{Place, Step, Leads, IsRun, run_bytes, IsPartialAt, Decision, DecidesAt}
use Rattle.hg_stream.proofs.Meanings.{Outcome, Goes, Ends, IsRead, one_outcome, no_outcome}
use Rattle.hg_stream.proofs.Outcomes.{step_read, end_read, partial_none}

-- ---- outcomes

same_place : {A : Type 0} (p q : Place A) → Goes p ≡ Goes q → p ≡ q
same_place p q same = cc

same_decision : (A : Type 0) (d e : Decision) → (let m : Outcome A = Ends d in m) ≡ Ends e → d ≡ e
same_decision A d e same = cc

not_both : {A : Type 0} (p : Place A) (d : Decision) → Goes p ≡ Ends d → ⊥
not_both p d same = cc

-- ---- a step, the steps after it, and what follows them

grouped : (taken more rest : List ℕ) → (taken ++ more) ++ rest ≡ taken ++ (more ++ rest)
grouped taken more rest = append_assoc taken more rest

grouped_on : (taken more rest on : List ℕ) → ((taken ++ more) ++ rest) ++ on ≡ taken ++ ((more ++ rest) ++ on)
grouped_on taken more rest on = ap (λ (t : List ℕ). t ++ on) (append_assoc taken more rest)
    ∙ append_assoc taken (more ++ rest) on

joined_same : (a b c d x y : List ℕ) → a ≡ b → c ++ x ≡ d ++ y → (a ++ c) ++ x ≡ (b ++ d) ++ y
joined_same a b c d x y front rest = append_assoc a c x ∙ ap (λ (t : List ℕ). t ++ (c ++ x)) front
    ∙ ap (λ (t : List ℕ). b ++ t) rest ∙ sym (append_assoc b d y)

-- ---- at one place

end_at : {A : Type 0} (d : Decision) (limits : Limits) (p q : Place A) (x : List ℕ) → p ≡ q
    → DecidesAt d limits q x → IsRead limits p x (Ends d)
end_at d limits p q x same h =
    end_read d limits p x (subst (λ (w : Place _). DecidesAt d limits w x) (sym same) h)

-- two steps with equal bytes in front lead to one place
record IsOneStep {A : Type 0} (a b : Step A) (x y : List ℕ) : Type 0 where
  taken : a.taken ≡ b.taken
  place : b.place ≡ a.place
  rest : x ≡ y

one_step : {A : Type 0} (limits : Limits) (p : Place A) (a b : Step A) (x y : List ℕ)
    → Leads limits p a.taken a.place → Leads limits p b.taken b.place → a.taken ++ x ≡ b.taken ++ y
    → IsOneStep a b x y
one_step limits p a b x y la lb same =
    let both = one_outcome limits p a.taken b.taken x y (Goes a.place) (Goes b.place)
    (step_read limits p a.taken a.place la) (step_read limits p b.taken b.place lb) same in
    record { taken = both.0; place = sym (same_place a.place b.place both.1); rest = both.2 }

-- what decides is not the front of a step
step_not_end : {A : Type 0} (limits : Limits) (p q : Place A) (a : Step A) (x y z : List ℕ) (d : Decision)
    → Leads limits p a.taken a.place → p ≡ q → DecidesAt d limits q y
    → a.taken ++ x ≡ y ++ z → ⊥
step_not_end limits p q a x y z d la is h same =
    not_both a.place d (one_outcome limits p a.taken y x z (Goes a.place) (Ends d)
    (step_read limits p a.taken a.place la) (end_at d limits p q y is h) same).1

-- a step is not the front of what is partial
step_not_partial : {A : Type 0} (limits : Limits) (p q : Place A) (a : Step A) (x y : List ℕ)
    → Leads limits p a.taken a.place → p ≡ q → IsPartialAt limits q y → a.taken ++ x ≡ y → ⊥
step_not_partial limits p q a x y la is h same =
    no_outcome limits p a.taken x y (Goes a.place) (step_read limits p a.taken a.place la)
    (partial_none limits p y (subst (λ (w : Place _). IsPartialAt limits w y) (sym is) h)) same

-- ---- runs

run_from : {A : Type 0} (limits : Limits) (p q : Place A) (steps : List (Step A)) (r : Place A) → p ≡ q
    → IsRun limits p steps r → IsRun limits q steps r
run_from limits p q steps r same h = subst (λ (w : Place _). IsRun limits w steps r) same h

-- Bytes are decided at one place at most, in one way.
pub one_decision : {A : Type 0} (limits : Limits) (p : Place A) (a b : List (Step A)) (q r : Place A)
    (x y s t : List ℕ) (d e : Decision)
    → IsRun limits p a q → IsRun limits p b r → DecidesAt d limits q x → DecidesAt e limits r y
    → (run_bytes a ++ x) ++ s ≡ (run_bytes b ++ y) ++ t → (run_bytes a ++ x ≡ run_bytes b ++ y) × (q ≡ r)
    × (d ≡ e)
one_decision {A} limits p [] [] q r x y s t d e ra rb dx dy same =
    let both = one_outcome limits p x y s t (Ends d) (Ends e) (end_at d limits p q x ra dx)
    (end_at e limits p r y rb dy) same in
    (both.0, sym ra ∙ rb, same_decision A d e both.1)
one_decision limits p [] (k ∷ b) q r x y s t d e ra rb dx dy same =
    absurd (step_not_end limits p q k ((run_bytes b ++ y) ++ t) x s d rb.0 ra dx
    (sym (same ∙ grouped_on k.taken (run_bytes b) y t)))
one_decision limits p (h ∷ a) [] q r x y s t d e ra rb dx dy same =
    absurd (step_not_end limits p r h ((run_bytes a ++ x) ++ s) y t e ra.0 rb dy
    (sym (grouped_on h.taken (run_bytes a) x s) ∙ same))
one_decision limits p (h ∷ a) (k ∷ b) q r x y s t d e ra rb dx dy same =
    let first = one_step limits p h k ((run_bytes a ++ x) ++ s) ((run_bytes b ++ y) ++ t) ra.0 rb.0
    (sym (grouped_on h.taken (run_bytes a) x s) ∙ same ∙ grouped_on k.taken (run_bytes b) y t) in
    let more = one_decision limits h.place a b q r x y s t d e ra.1
    (run_from limits k.place h.place b r first.place rb.1) dx dy first.rest in
    (joined_same h.taken k.taken (run_bytes a) (run_bytes b) x y first.taken more.0, more.1, more.2)

-- After bytes that decide nothing is still read.
pub no_way_back : {A : Type 0} (limits : Limits) (p : Place A) (a b : List (Step A)) (q r : Place A)
    (x y s : List ℕ) (d : Decision)
    → IsRun limits p a q → IsRun limits p b r → DecidesAt d limits q x → IsPartialAt limits r y
    → (run_bytes a ++ x) ++ s ≡ run_bytes b ++ y → ⊥
no_way_back limits p [] [] q r x y s d ra rb dx py same =
    no_outcome limits p x s y (Ends d) (end_at d limits p q x ra dx)
    (partial_none limits p y (subst (λ (w : Place _). IsPartialAt limits w y) (sym rb) py)) same
no_way_back limits p [] (k ∷ b) q r x y s d ra rb dx py same =
    step_not_end limits p q k (run_bytes b ++ y) x s d rb.0 ra dx
    (sym (same ∙ grouped k.taken (run_bytes b) y))
no_way_back limits p (h ∷ a) [] q r x y s d ra rb dx py same =
    step_not_partial limits p r h ((run_bytes a ++ x) ++ s) y ra.0 rb py
    (sym (grouped_on h.taken (run_bytes a) x s) ∙ same)
no_way_back limits p (h ∷ a) (k ∷ b) q r x y s d ra rb dx py same =
    let first = one_step limits p h k ((run_bytes a ++ x) ++ s) (run_bytes b ++ y) ra.0 rb.0
    (sym (grouped_on h.taken (run_bytes a) x s) ∙ same ∙ grouped k.taken (run_bytes b) y) in
    no_way_back limits h.place a b q r x y s d ra.1 (run_from limits k.place h.place b r first.place rb.1) dx
    py first.rest

-- Bytes that are still read are at one place.
pub one_reading : {A : Type 0} (limits : Limits) (p : Place A) (a b : List (Step A)) (q r : Place A)
    (x y : List ℕ)
    → IsRun limits p a q → IsRun limits p b r → IsPartialAt limits q x → IsPartialAt limits r y → run_bytes a
    ++ x ≡ run_bytes b ++ y → q ≡ r
one_reading limits p [] [] q r x y ra rb px py same = sym ra ∙ rb
one_reading limits p [] (k ∷ b) q r x y ra rb px py same =
    absurd (step_not_partial limits p q k (run_bytes b ++ y) x rb.0 ra px
    (sym (same ∙ grouped k.taken (run_bytes b) y)))
one_reading limits p (h ∷ a) [] q r x y ra rb px py same =
    absurd (step_not_partial limits p r h (run_bytes a ++ x) y ra.0 rb py
    (sym (grouped h.taken (run_bytes a) x) ∙ same))
one_reading limits p (h ∷ a) (k ∷ b) q r x y ra rb px py same =
    let first = one_step limits p h k (run_bytes a ++ x) (run_bytes b ++ y) ra.0 rb.0
    (sym (grouped h.taken (run_bytes a) x) ∙ same ∙ grouped k.taken (run_bytes b) y) in
    one_reading limits h.place a b q r x y ra.1 (run_from limits k.place h.place b r first.place rb.1) px py
    first.rest
