use Rattle.std.proofs.Common.{◌≡◌, ◌≤◌, ◌++◌, length, map}
use Rattle.std.specs.List.{sum}
use Rattle.hg_params.specs.Header.{param}
use Rattle.hg_params.specs.code.Reading.{params_in}
use Rattle.hg_params.proofs.params.append_params.Given as goal

-- the texts are there, and what is added and what is still to be cut is all of the block
abbrev pub invariant-loop-key : goal.invariant-loop-key
invariant-loop-key g l = record {
  room : sum l.sizes ≤ length l.texts;
  added : l.params ++ map (param l.mandatory) (params_in l.sizes l.texts)
      ≡ l.fn.params ++ map (param l.mandatory) (params_in l.fn.block.sizes.now l.fn.block.texts.now);
}

abbrev pub decreases-loop-key : goal.decreases-loop-key
decreases-loop-key g l = length l.sizes
