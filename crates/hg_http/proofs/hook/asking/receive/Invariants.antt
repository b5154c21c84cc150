use Rattle.hg_http.specs.code.HookAnswers.{IsReading}
use Rattle.hg_http.proofs.hook.asking.receive.Given as goal

abbrev pub invariant-reads : goal.invariant-reads
invariant-reads g l = IsReading (g.I.Read.remaining l.fn.reader) (g.I.Read.remaining l.reader) l.answer
