use Rattle.std.proofs.Common.{◌∙◌}
use Rattle.hg_store.proofs.Followed.{heading_is}
use Rattle.hg_store.proofs.standby.has_digest.Goals as goal

pub returns : goal.returns
returns c = λ yes.
    heading_is c.args.digest.now c.args.bytes.now c.read_byte-gate.result.1.now c.in-Some.rest.now
    c.split_at.result.0.now c.split_at.result.1.now c.split_at-2.result.0.now c.split_at-2.result.1.now
    c.read_byte-gate.result.0 c.in-Some.numbers c.read_byte-gate.ensures c.if-gate.false
    c.in-Some.ensures.spelled c.in-Some.ensures.numbers c.split_at.ensures.front_len c.split_at.ensures.front
    c.split_at.ensures.back c.split_at-2.ensures.front c.split_at-2.ensures.back (c.is_same.ensures.0 yes ∙ c.as_slice.ensures)
