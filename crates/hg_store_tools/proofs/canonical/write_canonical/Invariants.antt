use Rattle.std.proofs.Common.{◌≡◌, ◌++◌, [], take}
use Rattle.std.specs.List.{flat_map}
use Rattle.hg_stream.specs.Block.{sized}
use Rattle.hg_stream.specs.Frames.{magic}
use Rattle.hg_store_tools.specs.Canonical.{canonical_parts, plain_bytes}
use Rattle.hg_store_tools.proofs.canonical.write_canonical.Given as goal

-- what is written of the parts so far
abbrev pub invariant-loop-part : goal.invariant-loop-part
invariant-loop-part g l =
    l.out.items ≡ (magic ++ sized []) ++ flat_map plain_bytes (canonical_parts (take l.part-index l.parts))
