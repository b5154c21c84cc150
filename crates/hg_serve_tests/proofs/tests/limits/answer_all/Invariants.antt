use Rattle.std.proofs.Common.{vec_len}
use Rattle.hg_serve_tests.proofs.tests.limits.answer_all.Given as goal

abbrev pub decreases-answering : goal.decreases-answering
decreases-answering g l = vec_len l.senders
