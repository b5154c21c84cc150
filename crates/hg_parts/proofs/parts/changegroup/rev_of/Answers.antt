use Rattle.std.proofs.Common.{refl}
use Rattle.hg_parts.proofs.Revs.{rev_at}
use Rattle.hg_parts.proofs.parts.changegroup.rev_of.Goals as goal

pub returns-then-has_at : goal.returns-then-has_at
returns-then-has_at g c =
    let has = c.if-has_at.ensures.has refl in
    record {
      found = has;
      value = rev_at c.args.log.now.rows c.args.likely c.args.node.now.0 c.if-has_at.ensures.lawful has;
    }
