use Rattle.std.proofs.Common.{◌≡◌, take}
use Rattle.hg_log.specs.Changeset.{Log}
use Rattle.hg_log.proofs.changelog.ChangelogTryClone.try_clone.Given as goal

abbrev pub invariant-loop-rev : goal.invariant-loop-rev
invariant-loop-rev g l = let here : Log = record { rows = take l.rev l.self.rows; limits = l.self.limits } in
    l.copy ≡ here
