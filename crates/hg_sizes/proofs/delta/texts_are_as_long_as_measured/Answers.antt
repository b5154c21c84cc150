use Rattle.std.proofs.Common.{length}
use Rattle.hg_sizes.proofs.Measured.{as_measured, is_read}
use Rattle.hg_sizes.proofs.delta.texts_are_as_long_as_measured.Goals as goal

pub returns : goal.returns
returns c = λ base delta text fits applies.
    as_measured base delta text (length text)
    (is_read base delta text c.every_delta_has_an_outcome.ensures c.one_outcome.ensures fits applies)
