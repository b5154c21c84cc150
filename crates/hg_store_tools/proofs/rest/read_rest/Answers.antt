use Rattle.std.proofs.Common.{Err, ap, subst}
use Rattle.hg_store_tools.specs.Cutting.{StopsSo}
use Rattle.hg_store_tools.proofs.Cuts.{rest_of, stops_so}
use Rattle.hg_store_tools.proofs.rest.read_rest.Goals as goal

pub returns-clause-stops : goal.returns-clause-stops
returns-clause-stops g c =
    subst (StopsSo c.in-Err-next_record.stop c.args.version c.args.digest.now) c.deref.ensures.value
    (stops_so c.in-Err-next_record.stop c.args.version c.args.digest.now c.deref.result.now
    (λ is. c.in-Err-next_record.ensures.end (ap Err is)) (λ is. c.in-Err-next_record.ensures.torn (ap Err is))
    (λ is. c.in-Err-next_record.ensures.damaged (ap Err is)))

pub returns-clause-bytes : goal.returns-clause-bytes
returns-clause-bytes g c =
    rest_of c.args.end (g.S.StoreBytes.bytes c.args.store.now) (g.R.Read.remaining c.in-Ok.reader)
    c.new-tail.result.items c.read_to_end.new.buf.items c.new-tail.ensures.items c.in-Ok.ensures
    c.in-Ok-read_to_end.ensures.bytes
