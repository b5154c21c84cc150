use Rattle.std.proofs.Common.{◌≡◌, take}
use Rattle.std.specs.List.{flat_map}
use Rattle.hg_wireproto.proofs.Lines.{answer_ended}
use Rattle.hg_wireproto.proofs.batch.joined_answers.Given as goal

-- the answers so far
abbrev pub invariant-loop-answer : goal.invariant-loop-answer
invariant-loop-answer g l = l.text.items ≡ flat_map answer_ended (take l.answer-index l.answers)
