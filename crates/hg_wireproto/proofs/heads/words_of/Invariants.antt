use Rattle.std.proofs.Common.{◌≡◌, ◌++◌}
use Rattle.std.specs.List.{flat_map}
use Rattle.hg_wireproto.proofs.Lines.{id_word}
use Rattle.hg_wireproto.proofs.heads.words_of.Given as goal

-- the words so far, and those that are left
abbrev pub invariant-loop-node : goal.invariant-loop-node
invariant-loop-node g l = l.words.items ++ flat_map id_word l.node-iterator ≡ flat_map id_word l.initial.node-iterator
