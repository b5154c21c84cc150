use Rattle.std.proofs.Common.{◌≡◌, ◌++◌, ◌+◌, ◌≤◌, ℕ, List, length, vec_len, vec_capacity}
use Rattle.hg_types.specs.declared.part.Part.{Part}
use Rattle.hg_stream.specs.Unbundler.{HoldsBundle, state_of, limits_of, ready_of}
use Rattle.hg_stream.proofs.parts.all_parts.Given as goal

-- those so far, and those that are still to come; there is room for these
abbrev pub invariant-loop-part : goal.invariant-loop-part
invariant-loop-part g l = (l.parts.items ++ ready_of l.bundle ≡ ready_of l.fn.bundle)
    × (vec_len l.parts + length (ready_of l.bundle) ≤ vec_capacity l.parts)
    × ((given : List (Part g.row.A.Denot)) (bytes : List ℕ) → HoldsBundle l.fn.bundle given bytes
    → HoldsBundle l.bundle (given ++ l.parts.items) bytes)
    × (state_of l.bundle ≡ state_of l.fn.bundle) × (limits_of l.bundle ≡ limits_of l.fn.bundle)

abbrev pub decreases-loop-part : goal.decreases-loop-part
decreases-loop-part g l = length (ready_of l.bundle)
