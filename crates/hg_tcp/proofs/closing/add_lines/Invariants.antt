use Rattle.std.proofs.Common.{◌≡◌, ◌++◌, take}
use Rattle.std.specs.List.{flat_map}
use Rattle.hg_repo.specs.Report.{journal_line}
use Rattle.hg_tcp.proofs.closing.add_lines.Given as goal

-- the lines so far are written
abbrev pub invariant-loop-push : goal.invariant-loop-push
invariant-loop-push g l =
    l.text.items ≡ l.fn.text.items ++ flat_map journal_line (take l.push-index l.journal)
