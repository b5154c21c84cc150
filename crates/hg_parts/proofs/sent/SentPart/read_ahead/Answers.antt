use Rattle.hg_parts.proofs.Preparing.{made_of, noted_is}
use Rattle.hg_parts.proofs.sent.SentPart.read_ahead.Goals as goal

pub invariant_of-result : goal.invariant_of-result
invariant_of-result g c =
    noted_is c.hash_ahead-part.result c.keep.result c.of-sent.result.items
    (rw (← c.as_part-in-Ok.ensures) c.of-sent.ensures)
    (made_of c.hash_ahead-part.result c.in-Ok.reading c.keep.result
    (rw (← c.as_part.ensures) c.in-Ok.ensures) c.keep.ensures)
