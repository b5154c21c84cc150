use Rattle.std.proofs.Common.{ap, length, ℕ, List}
use Rattle.hg_status.specs.declared.brought.Group.{Group}
use Rattle.hg_status.proofs.Steps.{payload_kept, payload_done}
use Rattle.hg_status.proofs.brought.read_payload.Goals as goal

pub chunks-preserved : goal.chunks-preserved
chunks-preserved c =
    payload_kept (length c.args.bytes.now) c.chunks._step c.args.counts c.chunks.payload c.in-Some.next
    c.chunks.rest.now c.next-next.result.1.now _ c.next-next.result.0 c.chunks-test.true c.next-next.ensures.payload
    c.in-Some.is c.next-next.ensures.after c.chunks.invariant

pub returns-in_default-clause-count : goal.returns-in_default-clause-count
returns-in_default-clause-count c =
    ap (λ (read : Group × List ℕ). read.0.count)
    (payload_done (length c.args.bytes.now) c.chunks._step c.args.counts c.chunks.payload c.chunks.rest.now
    c.next-next.result.1.now _ c.next-next.result.0 c.chunks-test.true c.next-next.ensures.payload c.in_default.is
    c.next-next.ensures.after c.chunks.invariant)

pub returns-in_default-clause-after : goal.returns-in_default-clause-after
returns-in_default-clause-after c =
    ap (λ (read : Group × List ℕ). read.1)
    (payload_done (length c.args.bytes.now) c.chunks._step c.args.counts c.chunks.payload c.chunks.rest.now
    c.next-next.result.1.now _ c.next-next.result.0 c.chunks-test.true c.next-next.ensures.payload c.in_default.is
    c.next-next.ensures.after c.chunks.invariant)
