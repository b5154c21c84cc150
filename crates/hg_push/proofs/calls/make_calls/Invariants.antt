use Rattle.std.proofs.Common.{◌≡◌, ◌++◌, ◌+◌, ◌≤◌, length, vec_len, vec_capacity}
use Rattle.std.specs.Vec.Iter.{into_iter_items, into_iter_len}
use Rattle.hg_push.specs.Calls.{Course, BookFollows}
use Rattle.hg_push.specs.Run.{RepositoryOf, run_push}
use Rattle.hg_push.proofs.Calling.{AnswersSoFar}
use Rattle.hg_push.proofs.calls.make_calls.Given as goal

-- the calls so far are answered, and there is room for the other answers
abbrev pub invariant-loop-call : goal.invariant-loop-call
invariant-loop-call g l = record {
  calls : l.fn.calls.items ≡ l.yielded ++ into_iter_items l.call-iterator;
  left : into_iter_len l.call-iterator ≡ length (into_iter_items l.call-iterator);
  room : vec_len l.answers + length (into_iter_items l.call-iterator) ≤ vec_capacity l.answers;
  answered : (first : RepositoryOf g.row.A.Denot) (c : Course g.row.A.Denot)
      → BookFollows run_push first c l.fn.book → AnswersSoFar run_push first c l.yielded l.answers.items l.book;
}
