-- How it ends at a file.
use Rattle.std.proofs.Common.{ℕ, ◌≡◌, List, subst, sym}
use Rattle.hg_types.specs.declared.limits.Limits.{Limits}
use Rattle.hg_parts.specs.declared.refusal.Refusal.{Refusal}
use Rattle.hg_push.specs.declared.outcome.Reason.{Reason}
use Rattle.hg_store.specs.Entries.{Entry}
use Rattle.hg_store.specs.declared.head.Head.{Head}
use Rattle.hg_connection.specs.Devices.{Input}
use Rattle.hg_connection.specs.declared.sending.Sending.TheVariants.{Whole}
use Rattle.hg_import.specs.Imports.{IsNotDone, IsSentSo, IsToldSo, IsUnsent, Place, Stops}
use Rattle.hg_import.specs.Lines.{reason_line}
use Rattle.hg_import.specs.declared.import.ImportStop.{ImportStop}
use Rattle.hg_import.specs.declared.import.ImportStop.TheVariants.{NotDone, StoreFailed, PlaceUnsent, ReasonUnsent}
use Rattle.hg_import.specs.declared.import.ImportStop.TheVariants.{NoMemory}

module _ {A D : Type 0} (seen : D → List ℕ) (may_leave : D → List ℕ → Type 0) (moment : D → ℕ)
    (left_since : D → ℕ → List ℕ → Type 0) (faults : D → ℕ) (says : ℕ → Type 0) (limits : Limits) (head : Head) (records : List Entry)
    (file left : Input) (old new : Place A D) (same : new.repo ≡ old.repo) (unchanged : new.log ≡ old.log) where
  -- the push is not done
  pub stops_undone : (stop : ImportStop A) (reason : Reason (Refusal A)) → IsNotDone reason limits old.repo file left
      → IsToldSo stop reason old.output new.output
      → Stops seen may_leave moment left_since faults says stop limits head records file left old new
  stops_undone (NotDone told) reason why said = (
    record {
      why = subst (λ (r : Reason (Refusal A)). IsNotDone r limits old.repo file left) (sym said.0) why;
      same = same;
      unchanged = unchanged;
    },
    subst (λ (r : Reason (Refusal A)). IsSentSo Whole (reason_line r) old.output new.output) (sym said.0) said.1,
  )
  stops_undone (ReasonUnsent told sending) reason why said = (
    record {
      why = subst (λ (r : Reason (Refusal A)). IsNotDone r limits old.repo file left) (sym said.0) why;
      same = same;
      unchanged = unchanged;
    },
    subst (λ (r : Reason (Refusal A)). IsUnsent sending (reason_line r) old.output new.output) (sym said.0) said.1,
  )
  stops_undone NoMemory reason why said = (same, unchanged, said)
  stops_undone (StoreFailed error) reason why said = absurd said
  stops_undone (PlaceUnsent sending) reason why said = absurd said
