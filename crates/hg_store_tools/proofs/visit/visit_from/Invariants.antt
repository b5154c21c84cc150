use Rattle.hg_store_tools.proofs.Visits.{HasVisited}
use Rattle.hg_store_tools.proofs.visit.visit_from.Given as goal

-- it was done with the records so far
abbrev pub invariant-loop-place : goal.invariant-loop-place
invariant-loop-place g l =
    HasVisited (g.V.RecordVisit.visits l.visit) l.version l.begun.digest l.digest (g.R.Read.remaining l.fn.reader)
    (g.R.Read.remaining l.reader) l.first l.place l.fn.target l.target
