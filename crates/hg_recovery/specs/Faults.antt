-- What is reported of a store that is not opened.
use Rattle.std.specs.Prelude.{ℕ, Option, Some, None}
use Rattle.hg_store.specs.declared.device.DeviceError.TheVariants as device
use Rattle.hg_store.specs.declared.read.ReadFault.TheVariants as read
use Rattle.hg_store.specs.declared.opening.RecoverFault.TheVariants as recover
use Rattle.hg_store.specs.declared.start.StoreFault.TheVariants as start
use Rattle.hg_store.specs.declared.tail.TailFault.TheVariants as tail
use Rattle.hg_recovery.specs.declared.restore.RestoreFault.TheVariants as restore
use Rattle.hg_recovery.specs.declared.opening.OpeningFault.{OpeningFault}
use Rattle.hg_recovery.specs.declared.opening.OpeningFault.TheVariants.{Store, Restore}

-- the status of the program: 4 where memory was refused, and else 3
abbrev pub status_of : OpeningFault → ℕ
status_of (Restore restore.NoMemory) = 4
status_of (Store (start.Recover (recover.Device device.Memory))) = 4
status_of (Store (start.Recover (recover.Read read.NoMemory))) = 4
status_of (Store (start.Recover (recover.Tail tail.NoMemory))) = 4
status_of _ = 3

-- how many pushes are whole, where the store is torn after them
abbrev pub whole_before_torn : OpeningFault → Option ℕ
whole_before_torn (Store (start.Recover (recover.Torn whole))) = Some whole
whole_before_torn _ = None
