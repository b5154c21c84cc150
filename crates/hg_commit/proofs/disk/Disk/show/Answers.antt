use Rattle.std.proofs.Common.{subst}
use mathlib.Core.List.{IsPrefix}
use Rattle.hg_commit.specs.Locks.{DiskView}
use Rattle.hg_commit.proofs.disk.Disk.show.Goals as goal

pub returns-clause-all : goal.returns-clause-all
returns-clause-all g c = subst (λ (v : DiskView g.row.A.Denot g.row.D.Denot). IsPrefix v.history c.meet.new.witness)
    c.self.view_is c.meet.ensures.one
