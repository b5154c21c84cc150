use Rattle.std.proofs.Common.{◌≡◌, ◌++◌, take}
use Rattle.hg_phases.specs.code.Tape.{of_saved}
use Rattle.hg_phases.proofs.tape.keep_saved.Given as goal

abbrev pub invariant-loop-change : goal.invariant-loop-change
invariant-loop-change g l =
    l.kept.items ≡ l.initial.kept.items ++ of_saved l.saved (take l.change-index l.changes)
