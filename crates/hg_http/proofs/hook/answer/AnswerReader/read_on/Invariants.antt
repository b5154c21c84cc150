use Rattle.std.proofs.Common.{[]}
use Rattle.hg_http.specs.code.HookAnswers.{GoesOn}
use Rattle.hg_http.proofs.hook.answer.AnswerReader.read_on.Given as goal

abbrev pub invariant-events : goal.invariant-events
invariant-events l = GoesOn l.fn.self l.self []
