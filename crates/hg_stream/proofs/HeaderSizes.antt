-- How large a header is that is written.
use Rattle.std.proofs.Common.{ℕ, ◌<◌, ◌≤◌, ◌^◌, List, length}
use Rattle.hg_types.specs.declared.part.Param.{Param}
use Rattle.hg_params.specs.Writing.{cased, header_bytes, written_head, CanStand}
use Rattle.hg_params.proofs.CallerLemmas.{header_small, read_back}
use Rattle.hg_stream.specs.Frames.{max_header}

-- it is no larger than the greatest one, since it is read back
pub header_within : {A : Type 0} (kind : List ℕ) (id : ℕ) (params : List (Param A)) → id < 2 ^ 32
    → CanStand kind params → length (header_bytes (cased kind) id params) ≤ max_header
header_within kind id params number stands =
    (header_small (header_bytes (cased kind) id params) (written_head kind id params)
    (read_back kind id params number stands)).1
