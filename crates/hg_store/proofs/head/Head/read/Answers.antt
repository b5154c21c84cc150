use Rattle.std.proofs.Common.{arith}
use Rattle.hg_store.proofs.Heads.{bad_limits, differs_from}
use Rattle.hg_store.proofs.head.Head.read.Goals as goal

pub returns-then-not-is_allowed-clause-refused : goal.returns-then-not-is_allowed-clause-refused
returns-then-not-is_allowed-clause-refused c =
    bad_limits c.args.file.now c.split_at.result.0.now c.split_at.result.1.now c.read_byte-number.result.1.now
    c.read_byte-publishing.result.1.now c.read_byte-number.result.0 c.in-Some.version
    c.read_byte-publishing.result.0 c.split_at.ensures.front c.split_at.ensures.back
    (c.is_same.ensures.0 c.if-not-is_same.false) c.read_byte-number.ensures c.in-Some.ensures.some
    c.read_byte-publishing.ensures c.read_limits.result.0 c.read_limits.result.1.now c.if-publishing-gt1.false
    c.read_limits.ensures.spelled c.read_limits.ensures.fits
    (omega (arith, c.if-file-head_size.false, c.head_size.ensures))
    (differs_from c.is_allowed.result _ c.is_allowed.ensures c.if-not-is_allowed.true)
