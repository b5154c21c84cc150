-- Rows that are advanced one time after another.
use Rattle.std.proofs.Common.{◌≡◌, ℕ, ◌<◌, ◌≤◌, Bool, true, false, cond, ◌||◌, List, [], ◌++◌, length, Option, refl}
use Rattle.std.proofs.Common.{sym, ap, ◌∙◌, inl, inr, arith}
use Rattle.std.proofs.lemmas.Bool.{cases_lt}
use Rattle.std.proofs.lemmas.List.{ext_get_or}
use Rattle.std.proofs.lemmas.List.Folds.{list_any-append}
use Rattle.std.proofs.lemmas.List.FromFn.{length-map-range_with_len, get_or-map-range_with_len}
use Rattle.hg_types.specs.declared.phase.Phase.{Phase}
use Rattle.hg_types.specs.declared.phase.Phase.TheVariants.{Public}
use Rattle.hg_types.specs.Phase.{number_of}
use Rattle.hg_log.specs.Parents.{leads}
use Rattle.hg_phases.specs.Order.{lesser, phase_at}
use Rattle.hg_phases.specs.Phases.{advanced, advanced_at, is_reached}
use Rattle.hg_phases.proofs.Numbers.{lesser_first, lesser_second}

-- ---- one phase

lesser_twice : (t x : Phase) → lesser t (lesser t x) ≡ lesser t x
lesser_twice t x = elim (cases_lt (number_of t) (number_of x)) [
  | inl less ↦
      let first : lesser t x ≡ t = lesser_first t x (omega arith) in
      ap (lesser t) first ∙ lesser_first t t (omega arith) ∙ sym first
  | inr more ↦ ap (lesser t) (lesser_second t x more)
]

-- what becomes of a phase that an advance may lower
abbrev lowers : Bool → Phase → Phase → Phase
lowers reached t x = cond reached (lesser t x) x

lowers_twice : (t x : Phase) (a b : Bool) → lowers b t (lowers a t x) ≡ lowers (a || b) t x
lowers_twice t x true true = lesser_twice t x
lowers_twice t x true false = refl
lowers_twice t x false true = refl
lowers_twice t x false false = refl

-- ---- two phases

-- where t is not above u, the lesser of t decides
lesser_in_order : (t u x : Phase) → number_of t ≤ number_of u → lesser t (lesser u x) ≡ lesser t x
lesser_in_order t u x low = elim (cases_lt (number_of u) (number_of x)) [
  | inl less ↦
      ap (lesser t) (lesser_first u x (omega arith)) ∙ lesser_first t u low
      ∙ sym (lesser_first t x (omega arith))
  | inr more ↦ ap (lesser t) (lesser_second u x more)
]

lesser_least : (t x : Phase) → number_of (lesser t x) ≤ number_of t
lesser_least t x = elim (cases_lt (number_of t) (number_of x)) [
  | inl less ↦ let is = ap number_of (lesser_first t x (omega arith)) in omega arith
  | inr more ↦ let is = ap number_of (lesser_second t x more) in omega arith
]

lesser_behind : (t u x : Phase) → number_of t ≤ number_of u → lesser u (lesser t x) ≡ lesser t x
lesser_behind t u x low =
    lesser_second u (lesser t x) (let least = lesser_least t x in omega arith)

lesser_either : (t u x : Phase) → lesser u (lesser t x) ≡ lesser t (lesser u x)
lesser_either t u x = elim (cases_lt (number_of t) (number_of u)) [
  | inl less ↦ lesser_behind t u x (omega arith) ∙ sym (lesser_in_order t u x (omega arith))
  | inr more ↦ lesser_in_order u t x more ∙ sym (lesser_behind u t x more)
]

lowers_either : (t u x : Phase) (a b : Bool) → lowers b u (lowers a t x) ≡ lowers a t (lowers b u x)
lowers_either t u x true true = lesser_either t u x
lowers_either t u x true false = refl
lowers_either t u x false true = refl
lowers_either t u x false false = refl

-- ---- all rows

module _ (parents : ℕ → Option ℕ × Option ℕ) where
  after_length : (t : Phase) (heads : List ℕ) (phases : List Phase)
      → length (advanced parents t heads phases) ≡ length phases
  unfolding advanced
  after_length t heads phases =
      length-map-range_with_len (advanced_at parents t heads phases) 0 (length phases)

  after_at : (t : Phase) (heads : List ℕ) (phases : List Phase) (r : ℕ) → r < length phases
      → phase_at (advanced parents t heads phases) r
      ≡ lowers (is_reached parents heads r) t (phase_at phases r)
  unfolding advanced
  after_at t heads phases r within =
      get_or-map-range_with_len (advanced_at parents t heads phases) 0 (length phases) r r Public within
      (omega arith)

  both_at : (t u : Phase) (heads others : List ℕ) (phases : List Phase) (r : ℕ) → r < length phases
      → phase_at (advanced parents u others (advanced parents t heads phases)) r
      ≡ lowers (is_reached parents others r) u (lowers (is_reached parents heads r) t (phase_at phases r))
  both_at t u heads others phases r within =
      after_at u others (advanced parents t heads phases) r
      (let same = after_length t heads phases in omega arith)
      ∙ ap (lowers (is_reached parents others r) u) (after_at t heads phases r within)

  -- rows that are advanced twice to one phase are advanced once by the heads of both
  pub advanced_joined : (t : Phase) (heads more : List ℕ) (phases : List Phase)
      → advanced parents t more (advanced parents t heads phases) ≡ advanced parents t (heads ++ more) phases
  advanced_joined t heads more phases =
      let first = after_length t heads phases in
      let second = after_length t more (advanced parents t heads phases) in
      let joined = after_length t (heads ++ more) phases in
      ext_get_or Public (advanced parents t more (advanced parents t heads phases))
      (advanced parents t (heads ++ more) phases) (omega arith)
      (λ r low. let within : r < length phases = omega arith in
      both_at t t heads more phases r within
      ∙ lowers_twice t (phase_at phases r) (is_reached parents heads r) (is_reached parents more r)
      ∙ ap (λ (b : Bool). lowers b t (phase_at phases r))
      (sym (list_any-append (λ head. leads parents r head) heads more))
      ∙ sym (after_at t (heads ++ more) phases r within))

  -- rows are advanced to two phases in either order
  pub advanced_either : (t u : Phase) (heads others : List ℕ) (phases : List Phase)
      → advanced parents u others (advanced parents t heads phases)
      ≡ advanced parents t heads (advanced parents u others phases)
  advanced_either t u heads others phases =
      let first = after_length t heads phases in
      let second = after_length u others (advanced parents t heads phases) in
      let other_first = after_length u others phases in
      let other_second = after_length t heads (advanced parents u others phases) in
      ext_get_or Public (advanced parents u others (advanced parents t heads phases))
      (advanced parents t heads (advanced parents u others phases)) (omega arith)
      (λ r low. let within : r < length phases = omega arith in
      both_at t u heads others phases r within
      ∙ lowers_either t u (phase_at phases r) (is_reached parents heads r) (is_reached parents others r)
      ∙ sym (both_at u t others heads phases r within))

  -- where no row is a head, no row is advanced
  pub advanced_none : (t : Phase) (phases : List Phase) → advanced parents t [] phases ≡ phases
  advanced_none t phases =
      ext_get_or Public (advanced parents t [] phases) phases (after_length t [] phases)
      (λ r low. after_at t [] phases r (let same = after_length t [] phases in omega arith))
