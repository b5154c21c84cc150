use Rattle.std.proofs.Common.{◌∙◌, sym, arith}
use Rattle.sha1.proofs.Schedule.{round_fn_parity, round_constant_parity}
use Rattle.hg_digests.specs.code.Lanes.{lane_at, own}
use Rattle.hg_digests.proofs.LaneLemmas.{lane_step}
use Rattle.hg_digests.proofs.rounds.parity_step.Goals as goal

pub returns : goal.returns
returns c = λ blocks hashes held j h.
    lane_step (own blocks j) (own hashes j) c.args.w.now c.args.v c.args.t _ j c.parity.result c.next_word-word.result _ _ (omega arith) (omega arith) (held j h)
    (c.next_word-word.ensures.value j h) c.next_word-word.ensures.window
    (c.parity.ensures j h ∙ sym (round_fn_parity c.args.t (lane_at c.args.v 1 j) (lane_at c.args.v 2 j) (lane_at c.args.v 3 j) (omega arith) (omega arith)))
    (sym (round_constant_parity c.args.t (omega arith) (omega arith))) (c.round.ensures j h)
