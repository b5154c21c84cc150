use Rattle.std.proofs.Common.{◌≡◌, Some}
use Rattle.std.specs.List.{last_or}
use Rattle.std.specs.Option.{option_map}
use Rattle.hg_wireproto.specs.Branch.{branch_of, branches_in, is_nul, plain_extra}
use Rattle.hg_wireproto.proofs.Pieces.{pieces_of, size_of}
use Rattle.hg_wireproto.proofs.branch.escaped_branch.Given as goal

-- the last so far, and those of the rest
abbrev pub invariant-loop-rest : goal.invariant-loop-rest
invariant-loop-rest l =
    last_or (Some (plain_extra l.found)) (branches_in (pieces_of is_nul (option_map (λ text. text.now) l.rest)))
    ≡ Some (branch_of l.fn.text)

abbrev pub decreases-loop-rest : goal.decreases-loop-rest
decreases-loop-rest l = size_of (option_map (λ text. text.now) l.rest)
