use Rattle.std.proofs.Common.{◌≡◌, length, sym, arith}
use Rattle.hg_digests.proofs.LaneLemmas.{below_four, lane_five}
use Rattle.hg_digests.proofs.rounds.scatter.Goals as goal

pub returns : goal.returns
returns c =
    let five : length c.args.vectors ≡ 5 = omega arith in
    below_four _ (sym (lane_five 0 c.args.vectors five)) (sym (lane_five 1 c.args.vectors five))
    (sym (lane_five 2 c.args.vectors five)) (sym (lane_five 3 c.args.vectors five))
