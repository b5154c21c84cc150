use Rattle.std.proofs.Common.{◌≡◌, vec_len}
use Rattle.hg_connection_tests.proofs.receiving.bytes_that_wait.Given as goal

abbrev pub invariant-loop-place : goal.invariant-loop-place
invariant-loop-place g l = vec_len l.bytes ≡ l.place
