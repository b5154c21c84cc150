use Rattle.std.proofs.Common.{◌∙◌}
use Rattle.hg_wireproto.proofs.Escapes.{all_unescaped}
use Rattle.hg_wireproto.proofs.batch.unescape.Goals as goal

pub returns : goal.returns
returns g c =
    c.from_vec.ensures ∙ all_unescaped c.loop-place.bytes.items c.args.text.now c.loop-place.place
    c.loop-place-test.false c.loop-place.invariant.1
