-- A reader of bundles that is fed the pieces of a record.
use Rattle.std.proofs.Common.{◌≡◌, ◌≢◌, ◌+◌, ◌<◌, ◌≤◌, ◌∷◌, ◌++◌, ℕ, Bool, List, [], true, false, zero, suc}
use Rattle.std.proofs.Common.{◌⊎◌, inl, inr}
use Rattle.std.proofs.Common.{ap, append-nil, append_assoc, arith, drop, length, length-append, length-drop, refl}
use Rattle.std.proofs.Common.{subst, sym, take, take-append-drop, ◌∙◌}
use Rattle.std.proofs.lemmas.List.{take_at}
use Rattle.std.proofs.Math.Seq.{take-append_seam}
use Rattle.hg_types.specs.declared.part.Part.{Part}
use Rattle.hg_stream.specs.declared.fault.StreamFault.{StreamFault}
use Rattle.hg_stream.specs.declared.fault.StreamFault.TheVariants.{NoMemory, Truncated}
use Rattle.hg_stream.specs.declared.state.State.{State}
use Rattle.hg_stream.specs.declared.state.State.TheVariants.{Ended, Failed, Reading}
use Rattle.hg_stream.specs.declared.unbundler.Unbundler.{Unbundler}
use Rattle.hg_stream.specs.Unbundler.{HoldsBundle, IsStillReading, limits_of, ready_of, state_of}
use Rattle.hg_stream.specs.Laws.{HasOneVerdict}
use Rattle.hg_stream.specs.Frames.{IsBundle}
use Rattle.hg_recovery.specs.Replays.{IsNoBundle, IsUnread}
use Rattle.hg_recovery.specs.Taking.{HasTaken}
use Rattle.hg_recovery.specs.declared.restore.RestoreFault.{RestoreFault}
use Rattle.hg_recovery.specs.declared.restore.RestoreFault.TheVariants.{NoBundle, NoMemory as no_room}
use Rattle.hg_recovery.proofs.Feeding.{early_lem, reading_lem, told_lem, whole_lem}

less_or : (a b : ℕ) → (a < b) ⊎ (b ≤ a)
less_or a zero = inr (omega arith)
less_or zero (suc b) = inl (omega arith)
less_or (suc a) (suc b) = elim (less_or a b) [
  | inl less ↦ inl (omega (arith, less))
  | inr more ↦ inr (omega (arith, more))
]

none_left : (l : List ℕ) → length l ≤ 0 → l ≡ []
none_left [] few = refl
none_left (x ∷ l) few = absurd (omega (arith, few))

-- what was taken and more
spelled_more : (bytes front rest piece : List ℕ) (n : ℕ) → bytes ≡ front ++ rest → rest ≡ []
    → bytes ++ piece ≡ (front ++ take n piece) ++ drop n piece
spelled_more bytes front rest piece n is none =
    ap (λ (l : List ℕ). l ++ piece) (is ∙ ap (λ (l : List ℕ). front ++ l) none ∙ append-nil front)
    ∙ ap (λ (l : List ℕ). front ++ l) (sym (take-append-drop n piece))
    ∙ sym (append_assoc front (take n piece) (drop n piece))

module _ {A : Type 0} (u v : Unbundler A) (was : Bool) (bytes piece : List ℕ) (taken : HasTaken u was bytes) where
  spelled_on : bytes ++ piece ≡ taken.front ++ (taken.rest ++ piece)
  spelled_on = ap (λ (l : List ℕ). l ++ piece) taken.spelled ∙ append_assoc taken.front taken.rest piece

  -- whether bytes came after its end
  not_past : state_of u ≡ Reading → was ≡ true → ⊥
  not_past reads past = let ended = (taken.past past).0 in cc

  -- it took the piece, or what of it stands before its end
  module _ (count : ℕ) (is : Bool) (few : count ≤ length piece) (all : state_of v ≡ Reading → count ≡ length piece)
      (holds : (given : List (Part A)) (before : List ℕ) → HoldsBundle u given before
      → HoldsBundle v given (before ++ take count piece))
      (goes_on : IsStillReading u → (fault : StreamFault) → state_of v ≢ Failed fault)
      (failed : (fault : StreamFault) → state_of u ≡ Failed fault → ⊥)
      (ended : state_of u ≡ Ended → (count ≡ 0) × (v ≡ u))
      (is_past : count < length piece → is ≡ true) (is_still : length piece ≤ count → is ≡ was) where
    reading_on : state_of u ≡ Reading → (s : State) → state_of v ≡ s → HasTaken v is (bytes ++ piece)
    reading_on reads s state_is = record {
      front = taken.front ++ take count piece;
      rest = drop count piece;
      spelled = spelled_more bytes taken.front taken.rest piece count taken.spelled (taken.all reads);
      holds = holds [] taken.front taken.holds;
      all = λ r. none_left (drop count piece) (omega (arith, all r, length-drop count piece));
      past = λ p. (ends p s state_is, some p);
      whole = λ p e. none_left (drop count piece) (omega (arith, length-drop count piece, full p));
      own = goes_on ([], taken.front, taken.holds, reads) Truncated;
    }
      where
        few_of : is ≡ true → count < length piece
        few_of p = elim (less_or count (length piece)) [
          | inl less ↦ less
          | inr more ↦ absurd (not_past reads (sym (is_still more) ∙ p))
        ]

        some : is ≡ true → 0 < length (drop count piece)
        some p = omega (arith, few_of p, length-drop count piece)

        ends : is ≡ true → (t : State) → state_of v ≡ t → state_of v ≡ Ended
        ends p Ended so = so
        ends p Reading so = absurd (omega (arith, all so, few_of p))
        ends p (Failed fault) so = absurd (goes_on ([], taken.front, taken.holds, reads) fault so)

        full : is ≡ false → length piece ≤ count
        full p = elim (less_or count (length piece)) [
          | inl less ↦ let so = is_past less in absurd (cc (so, p))
          | inr more ↦ more
        ]

    ended_on : state_of u ≡ Ended → HasTaken v is (bytes ++ piece)
    ended_on e =
        let none = ended e in
        let same : state_of v ≡ Ended = ap state_of none.1 ∙ e in
        record {
          front = taken.front;
          rest = taken.rest ++ piece;
          spelled = spelled_on;
          holds = subst (λ w. HoldsBundle w [] taken.front) (sym none.1) taken.holds;
          all = λ r. absurd (cc (r, same));
          past = λ p. (same, some p);
          whole = λ p _. rest_none p;
          own = λ f. cc (f, same);
        }
      where
        some : is ≡ true → 0 < length (taken.rest ++ piece)
        some p = elim (less_or 0 (length piece)) [
          | inl more ↦ omega (arith, more, length-append taken.rest piece)
          | inr few_ ↦ omega (
            arith,
            (taken.past (sym (is_still (omega (arith, few_))) ∙ p)).1,
            length-append taken.rest piece,
          )
        ]

        rest_none : is ≡ false → taken.rest ++ piece ≡ []
        rest_none p = elim (less_or 0 (length piece)) [
          | inl more ↦ let so = is_past (omega (arith, more, (ended e).0)) in absurd (cc (so, p))
          | inr few_ ↦ none_left (taken.rest ++ piece) (omega (
            arith,
            few_,
            ap length (taken.whole (sym (is_still (omega (arith, few_))) ∙ p) e),
            length-append taken.rest piece,
          ))
        ]

    took_at : (s : State) → state_of u ≡ s → HasTaken v is (bytes ++ piece)
    took_at Reading reads = reading_on reads (state_of v) refl
    took_at Ended e = ended_on e
    took_at (Failed fault) f = absurd (failed fault f)

    pub took_more : HasTaken v is (bytes ++ piece)
    took_more = took_at (state_of u) refl

  -- it failed, now or before
  module _ (fault : StreamFault)
      (halted : (place : ℕ) × (place ≤ length piece) × ((given : List (Part A)) (before : List ℕ)
      → HoldsBundle u given before → HoldsBundle v given (before ++ take place piece)))
      (fails : state_of v ≡ Failed fault) (not_own : IsStillReading u → fault ≢ Truncated)
      (ended : state_of u ≡ Ended → ⊥) (still : (old : StreamFault) → state_of u ≡ Failed old → v ≡ u) where
    failed_at : (s : State) → state_of u ≡ s → HasTaken v was (bytes ++ piece)
    failed_at Reading reads = record {
      front = taken.front ++ take halted.0 piece;
      rest = drop halted.0 piece;
      spelled = spelled_more bytes taken.front taken.rest piece halted.0 taken.spelled (taken.all reads);
      holds = halted.2 [] taken.front taken.holds;
      all = λ r. absurd (cc (r, fails));
      past = λ p. absurd (not_past reads p);
      whole = λ p e. absurd (cc (e, fails));
      own = λ f. let so : fault ≡ Truncated = cc (f, fails) in
          not_own ([], taken.front, taken.holds, reads) so;
    }
    failed_at Ended e = absurd (ended e)
    failed_at (Failed old) f =
        let same = still old f in
        let so : state_of v ≡ Failed old = ap state_of same ∙ f in
        record {
          front = taken.front;
          rest = taken.rest ++ piece;
          spelled = spelled_on;
          holds = subst (λ w. HoldsBundle w [] taken.front) (sym same) taken.holds;
          all = λ r. absurd (cc (r, so));
          past = λ p. let ended_ = (taken.past p).0 in absurd (cc (ended_, f));
          whole = λ p e. absurd (cc (e, so));
          own = λ t. taken.own (sym (ap state_of same) ∙ t);
        }

    pub failed_more : HasTaken v was (bytes ++ piece)
    failed_more = failed_at (state_of u) refl

-- what a record is that took these bytes
module _ {A : Type 0} (u v : Unbundler A) (same : limits_of v ≡ limits_of u) (is : Bool) (bytes : List ℕ)
    (taken : HasTaken v is bytes) where
  holds_front : HoldsBundle v [] (take (length taken.front) bytes)
  holds_front =
      subst (HoldsBundle v [])
      (sym (ap (take (length taken.front)) taken.spelled ∙ take_at taken.front taken.rest (length taken.front) refl))
      taken.holds

  length_front : length bytes ≡ length taken.front + length taken.rest
  length_front = ap length taken.spelled ∙ length-append taken.front taken.rest

  pub bundle_taken : is ≡ false → state_of v ≡ Ended → IsBundle (limits_of u) bytes (ready_of v)
  bundle_taken none ended =
      whole_lem u v bytes (length taken.front) holds_front
      (omega (arith, length_front, ap length (taken.whole none ended))) ended same

  module _ (verdict : HasOneVerdict A (limits_of u)) where
    pub more_taken : is ≡ true → IsNoBundle A (limits_of u) bytes
    more_taken past =
        let ended = taken.past past in
        early_lem u v verdict same bytes (length taken.front) holds_front ended.0
        (omega (arith, length_front, ended.1))

    pub less_taken : state_of v ≡ Reading → IsNoBundle A (limits_of u) bytes
    less_taken reads =
        reading_lem u v verdict same bytes (length taken.front) holds_front reads
        (omega (arith, length_front, ap length (taken.all reads)))

    pub fault_taken : (fault : StreamFault) → state_of v ≡ Failed fault → (place : ℕ) (told : RestoreFault)
        → (fault ≡ NoMemory → told ≡ no_room) → (fault ≢ NoMemory → told ≡ NoBundle place)
        → IsUnread A told place (limits_of u) bytes
    fault_taken fault failed place told memory other =
        told_lem u v verdict same bytes (length taken.front) holds_front fault failed
        (λ cut. taken.own (failed ∙ ap Failed cut)) place told memory other

-- a vector whose items were written over by the same ones
pub filled : {X : Type 0} (len : ℕ) (new items : List X) → new ≡ items → len ≡ length items
    → take len (new ++ drop (length new) items) ≡ items
filled {X} len new items same long =
    ap (λ (n : ℕ). take n (new ++ drop (length new) items)) (long ∙ ap length (sym same))
    ∙ take-append_seam new (drop (length new) items) ∙ same
