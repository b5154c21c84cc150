use Rattle.std.proofs.Common.{length, ◌-◌, ◌≡◌, ◌≤◌, ℕ, List, ◌++◌, take}
use Rattle.hg_stream.specs.Block.{HoldsBlock}
use Rattle.hg_stream.specs.declared.block.Awaits.TheVariants.{Size}
use Rattle.hg_stream.proofs.block.BlockIn.take_size.Given as goal

-- the bytes so far are of the size
abbrev pub invariant-loop-taken : goal.invariant-loop-taken
invariant-loop-taken g l = record {
  within : l.taken ≤ length l.piece;
  most : l.self.most ≡ l.fn.self.most;
  awaits : l.self.awaits ≡ Size;
  took : (rest : List ℕ) → HoldsBlock l.fn.self rest → HoldsBlock l.self (rest ++ take l.taken l.piece);
}

abbrev pub decreases-loop-taken : goal.decreases-loop-taken
decreases-loop-taken g l = length l.piece - l.taken
