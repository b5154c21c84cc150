use Rattle.std.proofs.Common.{◌∙◌, ap, arith, length}
use Rattle.hg_stream.proofs.HeaderSizes.{header_within}
use Rattle.hg_stream.proofs.write.write_part.Goals as goal

pub append_block-requires : goal.append_block-requires
append_block-requires g c =
    let written = rw (
      c.as_slice.ensures,
      c.as_slice-2.ensures,
      c.in_ok-header.ensures.items,
    ) at c.in_ok-write_head.ensures.ok in
    let within = header_within c.args.part.now.kind c.args.place c.args.part.now.params c.ranges.place.fits
    c.requires.header in
    omega (arith, ap length (c.as_slice-3.ensures.value ∙ written), within)
