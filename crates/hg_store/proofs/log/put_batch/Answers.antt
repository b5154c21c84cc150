use Rattle.hg_store.specs.declared.head.Version.TheVariants.{Second}
use Rattle.hg_store.proofs.Frames.{batch_more}
use Rattle.hg_store.proofs.Staying.{each_more}
use Rattle.hg_store.proofs.log.put_batch.Goals as goal

pub loop-record-preserved : goal.loop-record-preserved
loop-record-preserved g c =
    let i = c.loop-record.invariant in
    let more = batch_more Second c.args.before.now c.args.batch.now c.loop-record.record-index
    c.loop-record.out.items c.put.new.out.items c.loop-record.digest c.in_ok-digest.digest
    c.record-item.result c.loop-record-test.true c.record-item.is i.bytes i.digest
    c.in_ok-digest.ensures.record.0 c.in_ok-digest.ensures.record.1
    in record {
      bytes = more.0;
      digest = more.1;
      each = each_more c.args.batch.now c.loop-record.record-index c.record-item.result c.loop-record-test.true
          c.record-item.is i.each c.put.ensures.stamp;
    }
