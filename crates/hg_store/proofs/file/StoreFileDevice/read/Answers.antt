use Rattle.std.proofs.Common.{[], ◌∷◌}
use Rattle.hg_store.specs.Calls.{gave_up}
use Rattle.hg_store.proofs.file.StoreFileDevice.read.Goals as goal

pub returns-clause-same_file : goal.returns-clause-same_file
returns-clause-same_file g c = (gave_up ∷ [], c.refuse.ensures)
