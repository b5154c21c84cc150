use Rattle.std.specs.Option.{option_map}
use Rattle.hg_params.proofs.Pieces.{ReadSo, size_of}
use Rattle.hg_params.proofs.stream_params.read_stream_params.Given as goal

-- what is read so far and what is left are all
abbrev pub invariant-loop-rest : goal.invariant-loop-rest
invariant-loop-rest g l = ReadSo l.bytes l.params (option_map (λ text. text.now) l.rest)

abbrev pub decreases-loop-rest : goal.decreases-loop-rest
decreases-loop-rest g l = size_of (option_map (λ text. text.now) l.rest)
