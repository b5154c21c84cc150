-- Which status the program has where it ended before the last file.
use Rattle.std.specs.Prelude.{ℕ, ◌==◌, if◌then◌else◌}
use Rattle.hg_parts.specs.declared.item.CutReason.TheVariants.{ReadFailed, Stream}
use Rattle.hg_parts.specs.declared.refusal.Refusal.{Refusal}
use Rattle.hg_push.specs.declared.outcome.Reason.{Reason}
use Rattle.hg_push.specs.declared.outcome.Reason.TheVariants.{Cut, NoMemory as without_memory}
use Rattle.hg_connection.specs.declared.sending.Sending.{Sending}
use Rattle.hg_connection.specs.declared.sending.Sending.TheVariants.{NoMemory as unsent_without_memory}
use Rattle.hg_store.specs.declared.device.DeviceError.{DeviceError}
use Rattle.hg_store.specs.declared.device.DeviceError.TheVariants.{Memory}
use Rattle.hg_import.specs.declared.import.ImportStop.{ImportStop}
use Rattle.hg_import.specs.declared.import.ImportStop.TheVariants.{NotDone, StoreFailed, PlaceUnsent, ReasonUnsent}
use Rattle.hg_import.specs.declared.import.ImportStop.TheVariants.{NoMemory}

-- 4 where memory was refused, which is stream fault 11 too; 3 where the file failed; and 1 where the push was aborted
abbrev pub reason_status : {A : Type 0} → Reason (Refusal A) → ℕ
reason_status without_memory = 4
reason_status (Cut ReadFailed) = 3
reason_status (Cut (Stream fault)) = if fault == 11 then 4 else 1
reason_status other = 1

-- of a store: 4 where memory was refused, and else 3
abbrev pub store_status : DeviceError → ℕ
store_status Memory = 4
store_status other = 3

-- of the output: 4 where memory was refused, and else 3
abbrev pub unsent_status : Sending → ℕ
unsent_status unsent_without_memory = 4
unsent_status other = 3

-- the status of the program
abbrev pub stop_status : {A : Type 0} → ImportStop A → ℕ
stop_status (NotDone reason) = reason_status reason
stop_status (StoreFailed error) = store_status error
stop_status (PlaceUnsent sending) = unsent_status sending
stop_status (ReasonUnsent reason sending) = unsent_status sending
stop_status NoMemory = 4
