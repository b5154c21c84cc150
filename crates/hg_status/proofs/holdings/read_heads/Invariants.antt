use Rattle.hg_status.proofs.HeadsShown.{AreRead}
use Rattle.hg_status.proofs.holdings.read_heads.Given as goal

-- the heads from there on are read
abbrev pub invariant-loop-rev : goal.invariant-loop-rev
invariant-loop-rev g l = AreRead l.log.rows l.phases.current.phases l.rev l.heads.items
