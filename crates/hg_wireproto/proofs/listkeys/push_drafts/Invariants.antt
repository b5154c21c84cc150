use Rattle.std.proofs.Common.{◌≡◌, ◌++◌, map, filter, take}
use Rattle.std.specs.List.{flat_map}
use Rattle.hg_phases.specs.Order.{phase_at}
use Rattle.hg_wireproto.specs.Text.{ended}
use Rattle.hg_wireproto.specs.ListKeys.{draft_line, is_draft}
use Rattle.hg_wireproto.proofs.listkeys.push_drafts.Given as goal

-- the lines of the roots so far
abbrev pub invariant-loop-rev : goal.invariant-loop-rev
invariant-loop-rev g l =
    l.lines.items ≡ l.fn.lines.items ++ flat_map (ended 10) (map (draft_line l.log.rows)
    (filter (λ r. is_draft (phase_at l.phases.current.phases r)) (take l.rev-index l.rev-items)))
