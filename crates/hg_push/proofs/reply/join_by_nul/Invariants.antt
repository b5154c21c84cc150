use Rattle.std.proofs.Common.{◌≡◌, take}
use Rattle.std.specs.List.{join_with_byte}
use Rattle.hg_push.proofs.reply.join_by_nul.Given as goal

-- the names so far are joined
abbrev pub invariant-loop-place : goal.invariant-loop-place
invariant-loop-place g l = l.joined.items ≡ join_with_byte 0 (take l.place l.names)
