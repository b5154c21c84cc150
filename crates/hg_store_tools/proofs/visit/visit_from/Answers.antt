use Rattle.std.proofs.Common.{ap, Err}
use Rattle.std.proofs.lemmas.Result.{IfOk-weaker, MatchResult-weaker}
use Rattle.hg_store_tools.proofs.Visits.{visits_all, visits_cut_off, visits_failed, visits_more, visits_none}
use Rattle.hg_store_tools.proofs.Visits.{visits_unread}
use Rattle.hg_store_tools.proofs.visit.visit_from.Goals as goal

pub loop-place-init : goal.loop-place-init
loop-place-init g c =
    visits_none (g.V.RecordVisit.visits c.args.visit.now) c.version-version.result c.args.begun.now.digest
    (g.R.Read.remaining c.args.reader.now) c.args.first c.args.target.now

pub loop-place-preserved : goal.loop-place-preserved
loop-place-preserved g c =
    visits_more (g.V.RecordVisit.visits c.args.visit.now) c.version-version.result c.args.begun.now.digest c.loop-place.digest
    (g.R.Read.remaining c.args.reader.now) (g.R.Read.remaining c.loop-place.reader) c.args.first c.loop-place.place
    c.args.target.now c.loop-place.target c.loop-place.invariant (g.R.Read.remaining c.read_record.new.reader)
    c.in-Ok.entry c.read_record.new.digest c.visit.new.target c.in-Ok.ensures.record c.in-Ok-visit.ensures.ok

pub returns-in-Err-clause-ok : goal.returns-in-Err-clause-ok
returns-in-Err-clause-ok g c =
    IfOk-weaker c.end_of.result _ _
    (λ ending ends. visits_all (g.V.RecordVisit.visits c.args.visit.now) c.args.begun.now.head c.version-version.result
    c.args.begun.now.digest c.loop-place.digest (g.R.Read.remaining c.args.reader.now)
    (g.R.Read.remaining c.loop-place.reader) (g.R.Read.remaining c.read_record.new.reader) c.args.first c.loop-place.place
    c.args.target.now c.loop-place.target ending c.in-Err.stop c.version-version.ensures c.loop-place.invariant ends
    (λ found is. c.in-Err.ensures.none found (ap Err is))) c.end_of.ensures.ok

pub returns-in-Err-clause-err : goal.returns-in-Err-clause-err
returns-in-Err-clause-err g c =
    MatchResult-weaker c.end_of.result c.end_of.ensures.err (λ _ _. tt)
    (λ fault why. visits_unread (g.V.RecordVisit.visits c.args.visit.now) (g.V.RecordVisit.fails c.args.visit.now)
    c.args.begun.now.head c.version-version.result c.args.begun.now.digest c.loop-place.digest
    (g.R.Read.remaining c.args.reader.now) (g.R.Read.remaining c.loop-place.reader)
    (g.R.Read.remaining c.read_record.new.reader) c.args.first c.loop-place.place c.args.target.now c.loop-place.target fault
    c.in-Err.stop c.version-version.ensures c.loop-place.invariant why (λ found is. c.in-Err.ensures.none found (ap Err is)))

pub returns-in-Err-visit-clause-err : goal.returns-in-Err-visit-clause-err
returns-in-Err-visit-clause-err g c =
    visits_failed (g.V.RecordVisit.visits c.args.visit.now) (g.V.RecordVisit.fails c.args.visit.now)
    c.args.begun.now.head c.version-version.result c.args.begun.now.digest c.loop-place.digest
    (g.R.Read.remaining c.args.reader.now) (g.R.Read.remaining c.loop-place.reader)
    (g.R.Read.remaining c.read_record.new.reader) c.args.first c.loop-place.place c.args.target.now c.loop-place.target
    c.visit.new.target c.in-Err-visit.fault c.in-Ok.entry c.read_record.new.digest c.version-version.ensures
    c.loop-place.invariant c.in-Ok.ensures.record c.in-Err-visit.ensures.err

pub returns-clause-err : goal.returns-clause-err
returns-clause-err g c =
    visits_cut_off (g.V.RecordVisit.visits c.args.visit.now) (g.V.RecordVisit.fails c.args.visit.now)
    c.args.begun.now.head c.version-version.result c.args.begun.now.digest c.loop-place.digest
    (g.R.Read.remaining c.args.reader.now) (g.R.Read.remaining c.loop-place.reader) c.args.first c.loop-place.place
    c.args.target.now c.loop-place.target c.version-version.ensures c.loop-place.invariant
