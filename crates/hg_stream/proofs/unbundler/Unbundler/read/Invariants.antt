use Rattle.std.proofs.Common.{length, ◌-◌, ◌≡◌, ◌≤◌, take}
use Rattle.hg_stream.specs.Unbundler.{limits_of}
use Rattle.hg_stream.specs.code.Steps.{Moves}
use Rattle.hg_stream.proofs.unbundler.Unbundler.read.Given as goal

abbrev pub invariant-loop-taken : goal.invariant-loop-taken
invariant-loop-taken g l = record {
  within : l.taken ≤ length l.piece;
  limits : limits_of l.self ≡ limits_of l.fn.self;
  stream_left : l.self.stream_left ≡ l.fn.self.stream_left;
  moved : Moves l.fn.self l.self (take l.taken l.piece);
}

abbrev pub decreases-loop-taken : goal.decreases-loop-taken
decreases-loop-taken g l = length l.piece - l.taken
