use Rattle.std.proofs.Common.{◌≡◌, ◌==◌, ◌++◌}
use Rattle.std.specs.List.{slice_split}
use Rattle.std.specs.Option.{option_map}
use Rattle.hg_wireproto.proofs.Pieces.{pieces_of, size_of, texts}
use Rattle.hg_wireproto.proofs.text.pieces.Given as goal

-- the pieces so far and those of the rest are all
abbrev pub invariant-loop-rest : goal.invariant-loop-rest
invariant-loop-rest g l =
    texts l.pieces.items ++ pieces_of (λ b. b == l.byte) (option_map (λ text. text.now) l.rest)
    ≡ slice_split (λ b. b == l.byte) l.fn.text

abbrev pub decreases-loop-rest : goal.decreases-loop-rest
decreases-loop-rest g l = size_of (option_map (λ text. text.now) l.rest)
