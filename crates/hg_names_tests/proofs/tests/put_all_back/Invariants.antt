use Rattle.std.proofs.Common.{◌≤◌, vec_len}
use Rattle.hg_names_tests.proofs.tests.put_all_back.Given as goal

-- there is room for each that is still to come back
abbrev pub invariant-loop-one : goal.invariant-loop-one
invariant-loop-one g l = vec_len l.gone ≤ l.names.room

abbrev pub decreases-loop-one : goal.decreases-loop-one
decreases-loop-one g l = goal.left-loop-one g l
