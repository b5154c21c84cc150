use Rattle.std.proofs.Common.{sym, ◌∙◌}
use Rattle.hg_wireproto.proofs.Extras.{key_differs, key_ends}
use Rattle.hg_wireproto.proofs.branch.behind_key.Goals as goal

pub returns-then-is_empty-clause-none : goal.returns-then-is_empty-clause-none
returns-then-is_empty-clause-none c =
    key_ends c.args.extra.now c.args.key.now c.loop-byte.rest.now c.loop-byte.byte-index c.loop-byte-test.true
    (sym c.is_empty.ensures ∙ c.if-is_empty.true) c.loop-byte.invariant

pub returns-then-first-byte-clause-none : goal.returns-then-first-byte-clause-none
returns-then-first-byte-clause-none c =
    key_differs c.args.extra.now c.args.key.now c.loop-byte.rest.now _ c.loop-byte.byte-index _
    c.loop-byte-test.true c.if-first-byte.true c.read_extra-first.ensures.first c.loop-byte.invariant
