-- A record that is added to a store.
use Rattle.std.proofs.Common.{◌≡◌, ◌<◌, ◌≤◌, ◌+◌, ◌^◌, ℕ, List, [], ◌∷◌, ◌++◌, Result, Ok, Err, length, refl, subst}
use Rattle.std.specs.Prelude.{IfErr, IsErrOf, OnOk}
use Rattle.hg_store.specs.Device.{LeavesOnly}
use Rattle.hg_store.specs.Entries.{Entry}
use Rattle.hg_store.specs.Log.{IsBeforeOrAfter, IsSettled}
use Rattle.hg_store.specs.declared.head.Head.{Head}
use Rattle.hg_store.specs.declared.log.Log.{Log}
use Rattle.hg_store.specs.Records.{frames}
use Rattle.hg_store.specs.declared.device.DeviceError.{DeviceError}
use Rattle.hg_store.specs.declared.device.DeviceError.TheVariants.{Failed, Full, Memory}
use Rattle.hg_store.specs.declared.head.Version.TheVariants.{Second}
use Rattle.hg_import.specs.Imports.{Adds, GivesUp, MayAdd}

module _ {D : Type 0} (seen : D → List ℕ) (may_leave : D → List ℕ → Type 0) (moment : D → ℕ)
    (left_since : D → ℕ → List ℕ → Type 0) (head : Head) (records batch : List Entry) (entry : Entry)
    (old new : Log D) (one : batch ≡ entry ∷ [])
    (any_moment : LeavesOnly moment left_since old.device new.device (IsBeforeOrAfter head records batch)) where
  -- a batch of one record is that record, at any moment
  pub may_add : MayAdd seen may_leave moment left_since head records entry old new
  may_add =
      subst (λ (b : List Entry). LeavesOnly moment left_since old.device new.device
      (IsBeforeOrAfter head records b)) one any_moment

  -- and so where it was acknowledged
  pub adds : {T E : Type 0} (answer : Result T E) → OnOk answer (IsSettled seen may_leave head (records ++ batch) new)
      → OnOk answer (Adds seen may_leave moment left_since head records entry old new)
  adds (Ok done) settled = record {
    settled = subst (λ (b : List Entry). IsSettled seen may_leave head (records ++ b) new) one settled;
    any_moment = may_add;
  }
  adds (Err error) settled = settled

-- it does not give up by itself
pub gives_up : {D T : Type 0} (faults : D → ℕ) (batch : List Entry) (entry : Entry) (old new : Log D)
    → batch ≡ entry ∷ [] → (answer : Result T DeviceError)
    → (IsErrOf answer Failed → faults old.device < faults new.device)
    → (IsErrOf answer Full → 2 ^ 62 ≤ old.end + 1 + length (frames Second old.digest batch))
    → IfErr answer (λ error. GivesUp faults error entry old new)
gives_up faults batch entry old new one (Ok done) failed full = tt
gives_up faults batch entry old new one (Err Failed) failed full = failed refl
gives_up faults batch entry old new one (Err Full) failed full =
    subst (λ (b : List Entry). 2 ^ 62 ≤ old.end + 1 + length (frames Second old.digest b)) one (full refl)
gives_up faults batch entry old new one (Err Memory) failed full = tt
