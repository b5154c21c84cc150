use Rattle.std.proofs.Common.{◌≡◌, ◌<◌, length, vec_len}
use Rattle.std.specs.List.{All}
use Rattle.hg_phases.specs.code.Tape.{undone}
use Rattle.hg_phases.proofs.tape.undo.Given as goal

abbrev pub invariant-back : goal.invariant-back
invariant-back g l = record {
  len : length l.rows ≡ length l.initial.rows;
  within : All (λ change. change.row < length l.initial.rows) l.left.items;
  rest : undone l.left.items l.rows ≡ undone l.initial.left.items l.initial.rows;
}

abbrev pub decreases-back : goal.decreases-back
decreases-back g l = vec_len l.left
