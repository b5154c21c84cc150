use Rattle.std.proofs.Common.{◌≡◌, ◌++◌}
use Rattle.hg_wireproto.proofs.copied.add_names.Given as goal

-- the names so far, and those that are left
abbrev pub invariant-loop-name : goal.invariant-loop-name
invariant-loop-name g l = l.fn.names.items ++ l.fn.more.items ≡ l.names.items ++ l.name-iterator.rest.items
