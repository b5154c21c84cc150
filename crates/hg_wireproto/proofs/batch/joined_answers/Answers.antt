use Rattle.std.proofs.Common.{◌∙◌}
use Rattle.hg_wireproto.specs.Batch.{answers_joined, escaped}
use Rattle.hg_wireproto.proofs.Lines.{joined_of}
use Rattle.hg_wireproto.proofs.batch.joined_answers.Goals as goal

pub returns : goal.returns
unfolding answers_joined
returns g c =
    c.joined.ensures
    ∙ joined_of 59 escaped c.args.answers.now c.loop-answer.answer-index c.loop-answer.text.items
    c.loop-answer-test.false c.loop-answer.invariant
