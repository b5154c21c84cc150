use Rattle.hg_store_tools.proofs.Walks.{Walking}
use Rattle.hg_store_tools.proofs.marks.marks_from.Given as goal

-- the marks so far
abbrev pub invariant-walking : goal.invariant-walking
invariant-walking g l =
    Walking l.version l.start.mark l.until (g.R.Read.remaining l.fn.reader) (g.R.Read.remaining l.reader) l.mark
    l.marks.items
