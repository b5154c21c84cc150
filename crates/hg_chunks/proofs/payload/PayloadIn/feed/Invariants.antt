use Rattle.std.proofs.Common.{length, ◌-◌, ◌≡◌, ℕ, ◌≤◌, List, take}
use Rattle.hg_chunks.specs.declared.fault.Step.TheVariants.{More}
use Rattle.hg_chunks.specs.PayloadIn.{HasTakenItems, StopsWithin, Reading, phase_of}
use Rattle.hg_chunks.proofs.payload.PayloadIn.feed.Given as goal

abbrev pub invariant-loop-taken : goal.invariant-loop-taken
invariant-loop-taken g l = record {
  within : l.taken ≤ length l.piece;
  limit : l.self.limit ≡ l.fn.self.limit;
  reading : phase_of l.self ≡ Reading;
  took : (whole rest : List ℕ) → HasTakenItems l.fn.self whole rest
      → StopsWithin More l.self whole rest (take l.taken l.piece);
}

abbrev pub decreases-loop-taken : goal.decreases-loop-taken
decreases-loop-taken g l = length l.piece - l.taken
