use Rattle.std.proofs.Common.{[], ◌∷◌, is_ok}
use Rattle.hg_store.specs.Calls.{gave_up, synced}
use Rattle.hg_store.proofs.file.StoreFileDevice.sync.Goals as goal

pub returns-then-self-clause-same_file : goal.returns-then-self-clause-same_file
returns-then-self-clause-same_file g c = (gave_up ∷ [], c.refuse.ensures)

pub returns-clause-same_file : goal.returns-clause-same_file
returns-clause-same_file g c = (synced (is_ok c.sync-answer.result) ∷ [], c.sync-answer.ensures)
