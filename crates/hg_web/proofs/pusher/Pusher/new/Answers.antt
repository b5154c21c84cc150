use Rattle.std.proofs.Common.{ap, arith, length}
use Rattle.std.proofs.lemmas.List.{length-take}
use Rattle.hg_web.proofs.pusher.Pusher.new.Goals as goal

pub invariant_of-result : goal.invariant_of-result
invariant_of-result c = record {
  time = c.ranges.time.fits;
  name = omega (arith, ap length c.shortened.ensures, length-take 255 c.args.name.now);
}
