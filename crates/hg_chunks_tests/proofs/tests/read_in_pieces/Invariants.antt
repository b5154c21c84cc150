use Rattle.std.proofs.Common.{◌≡◌, ◌≤◌, length}
use Rattle.hg_chunks.specs.PayloadIn.{Reading, phase_of}
use Rattle.hg_chunks_tests.proofs.tests.read_in_pieces.Given as goal

abbrev pub invariant-loop : goal.invariant-loop
invariant-loop g l = record {
  within : l.taken ≤ length l.bytes;
  reading : phase_of l.payload ≡ Reading;
}
