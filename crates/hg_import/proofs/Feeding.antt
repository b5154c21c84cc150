-- A reader of bundles that was fed some bytes at once.
use Rattle.std.proofs.Common.{◌≡◌, ◌≢◌, ℕ, List, [], length, take, drop, subst, sym, refl, arith}
use Rattle.std.proofs.Common.{take-append-drop, length-drop, ◌∷◌}
use Rattle.hg_types.specs.declared.limits.Limits.{Limits}
use Rattle.hg_types.specs.declared.part.Part.{Part}
use Rattle.hg_stream.specs.declared.fault.StreamFault.{StreamFault}
use Rattle.hg_stream.specs.declared.fault.StreamFault.TheVariants.{Truncated}
use Rattle.hg_stream.specs.declared.state.State.{State}
use Rattle.hg_stream.specs.declared.state.State.TheVariants.{Ended, Failed, Reading}
use Rattle.hg_stream.specs.declared.unbundler.Unbundler.{Unbundler}
use Rattle.hg_stream.specs.Faults.{StateTells}
use Rattle.hg_stream.specs.Frames.{IsBundle}
use Rattle.hg_stream.specs.Unbundler.{HoldsBundle, limits_of, ready_of, state_of}
use Rattle.hg_import.specs.Pushing.{BeginsWith, ShowsFault}

-- nothing is left behind all bytes
none_left : (count : ℕ) (bytes : List ℕ) → count ≡ length bytes → drop count bytes ≡ []
none_left count bytes all = empty (drop count bytes) (omega (arith, all, length-drop count bytes)) where
  empty : (l : List ℕ) → length l ≡ 0 → l ≡ []
  empty [] none = refl
  empty (first ∷ others) none = absurd (omega (arith, none))

module _ {A : Type 0} (u v : Unbundler A) (bytes : List ℕ) (count : ℕ)
    (holds : HoldsBundle v [] (take count bytes)) (same : limits_of v ≡ limits_of u) where
  told : (state : State) → state_of v ≡ state → StateTells state (limits_of u) (take count bytes) (ready_of v)
  told state is =
      subst (λ (l : Limits). StateTells state l (take count bytes) (ready_of v)) same
      (subst (λ (s : State). StateTells s (limits_of v) (take count bytes) (ready_of v)) is holds.tells)

  -- it has ended: what it took is a bundle
  pub whole_front : state_of v ≡ Ended → IsBundle (limits_of u) (take count bytes) (ready_of v)
  whole_front is = told Ended is

  -- it met a fault in what it took
  pub fault_shown : (fault : StreamFault) → state_of v ≡ Failed fault → fault ≢ Truncated
      → ShowsFault A fault (limits_of u) bytes
  fault_shown fault is goes_on = record {
    front = take count bytes;
    behind = drop count bytes;
    parts = ready_of v;
    spelled = sym (take-append-drop count bytes);
    tells = told (Failed fault) is;
    whole = λ none. absurd (goes_on none);
  }

  -- it took all, and has not ended
  pub truncated_shown : (state : State) → state_of v ≡ state → state ≢ Ended
      → (state ≡ Reading → count ≡ length bytes)
      → ((fault : StreamFault) → state ≢ Failed fault) → ShowsFault A Truncated (limits_of u) bytes
  truncated_shown Ended is not all fails = absurd (not refl)
  truncated_shown (Failed fault) is not all fails = absurd (fails fault refl)
  truncated_shown Reading is not all fails = record {
    front = take count bytes;
    behind = drop count bytes;
    parts = ready_of v;
    spelled = sym (take-append-drop count bytes);
    tells = told Reading is;
    whole = λ none. none_left count bytes (all refl);
  }

-- the bytes begin with their front
pub front_begins : {A : Type 0} (limits own : Limits) (bytes : List ℕ) (count : ℕ) (parts given : List (Part A))
    → limits ≡ own → given ≡ parts → IsBundle limits (take count bytes) parts
    → BeginsWith own bytes (take count bytes) given
front_begins {A} limits own bytes count parts given same_limits same_parts bundle = record {
  behind = drop count bytes;
  spelled = sym (take-append-drop count bytes);
  is = subst (λ (l : Limits). IsBundle l (take count bytes) given) same_limits
      (subst (λ (ps : List (Part A)). IsBundle limits (take count bytes) ps) (sym same_parts) bundle);
}
