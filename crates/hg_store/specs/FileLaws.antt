-- What holds of each file that is known by its calls.
use Rattle.std.specs.Prelude.{ℕ, ◌≤◌, ◌<◌, List, [], ◌∷◌, ◌++◌, length}
use Rattle.std.proofs.Common.{inl, inr, arith, ap, sym, ◌∙◌, append_assoc}
use Rattle.hg_store.specs.Calls.{Continue, Event, LeftBefore, LeftSince, MayLeave, state_of}

-- the present moment is one of those since an earlier one
pub now_counts : (calls : List Event) (t : ℕ) (left : List ℕ) → t ≤ length calls → MayLeave (state_of calls) left
    → LeftSince calls t left
now_counts calls t left before may = inl may

earlier_is_past : (calls : List Event) (t : ℕ) (left : List ℕ) → LeftBefore calls t left → t < length calls
earlier_is_past [] t left none = absurd none
earlier_is_past (call ∷ earlier) t left some = let le : t ≤ length earlier = some.0 in omega arith

-- and since it there is no other
pub now_alone : (calls : List Event) (left : List ℕ) → LeftSince calls (length calls) left
    → MayLeave (state_of calls) left
now_alone calls left (inl may) = may
now_alone calls left (inr before) =
    let past : length calls < length calls = earlier_is_past calls (length calls) left before in
    absurd (omega (arith, past))

-- more calls after more are more calls
pub more_continue : (first next last : List Event) → Continue first next → Continue next last → Continue first last
more_continue first next last early late = (
  late.0 ++ early.0,
  late.1 ∙ ap (λ (calls : List Event). late.0 ++ calls) early.1 ∙ sym (append_assoc late.0 early.0 first),
)
