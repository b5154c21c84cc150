use Rattle.std.proofs.Common.{subst}
use Rattle.hg_wireproto.specs.Viewed.{Viewed}
use Rattle.hg_wireproto.specs.code.HeadIds.{AreHeadIds}
use Rattle.hg_wireproto.proofs.viewed.BranchView.heads.Goals as goal

pub returns : goal.returns
returns g c =
    subst (λ (v : Viewed g.row.A.Denot). AreHeadIds v.rows c.self.inside.heads.keys) c.self.view_is c.self.invariant.1
