use Rattle.std.proofs.Common.{◌∙◌, sym, arith}
use Rattle.sha1.proofs.Schedule.{round_fn_choose, round_constant_choose}
use Rattle.hg_digests.specs.code.Lanes.{lane_at, own}
use Rattle.hg_digests.proofs.LaneLemmas.{lane_step}
use Rattle.hg_digests.proofs.rounds.choose_step.Goals as goal

pub returns : goal.returns
returns c = λ blocks hashes held j h.
    lane_step (own blocks j) (own hashes j) c.args.w.now c.args.v c.args.t _ j c.ch.result c.next_word-word.result _ _ (omega arith) (omega arith) (held j h)
    (c.next_word-word.ensures.value j h) c.next_word-word.ensures.window
    (c.ch.ensures j h ∙ sym (round_fn_choose c.args.t (lane_at c.args.v 1 j) (lane_at c.args.v 2 j) (lane_at c.args.v 3 j) (omega arith)))
    (sym (round_constant_choose c.args.t (omega arith))) (c.round.ensures j h)
