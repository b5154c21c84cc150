use Rattle.std.proofs.Common.{[], IfErr, IfOk, subst}
use Rattle.hg_types.specs.declared.limits.Limits.{Limits}
use Rattle.hg_stream.specs.Frames.{IsBundle}
use Rattle.hg_recovery.specs.Replays.{IsUnread}
use Rattle.hg_recovery.proofs.restore.record_parts.Goals as goal

pub returns-clause-ok : goal.returns-clause-ok
returns-clause-ok g c =
    subst (λ (limits : Limits). IfOk c.into_parts.result (λ parts. IsBundle limits c.args.bytes.now parts.items))
    c.new-record.ensures.limits
    (c.into_parts.ensures.ok c.new-record.result c.args.bytes.now
    (c.take.ensures c.new-record.result [] c.new-record.ensures.took))

pub returns-clause-err : goal.returns-clause-err
returns-clause-err g c =
    subst (λ (limits : Limits). IfErr c.into_parts.result (λ fault.
    IsUnread g.row.A.Denot fault c.args.place limits c.args.bytes.now))
    c.new-record.ensures.limits
    (c.into_parts.ensures.err c.new-record.result c.args.bytes.now
    (c.take.ensures c.new-record.result [] c.new-record.ensures.took))
