use Rattle.std.proofs.Common.{◌≡◌, ◌++◌}
use Rattle.std.specs.List.{flat_map, range_with_len}
use Rattle.std.specs.String.{string_bytes}
use Rattle.hg_repo.specs.Report.{changeset_line}
use Rattle.hg_repo.proofs.report.write_changesets.Given as goal

-- the lines so far are written
abbrev pub invariant-loop-rev : goal.invariant-loop-rev
invariant-loop-rev g l =
    string_bytes l.text ≡ string_bytes l.fn.text ++ flat_map (changeset_line l.repo) (range_with_len 0 l.rev)
