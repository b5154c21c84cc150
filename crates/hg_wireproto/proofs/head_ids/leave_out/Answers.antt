use Rattle.std.proofs.Common.{ℕ, Option, sym, subst}
use Rattle.hg_wireproto.specs.code.HeadIds.{AreLeft}
use Rattle.hg_wireproto.proofs.HeadIds.{one_left, taken_is}
use Rattle.hg_wireproto.proofs.head_ids.leave_out.Goals as goal

pub returns-in-Some : goal.returns-in-Some
returns-in-Some g c =
    let rows = c.args.copied.now.rows in
    let heads = c.args.heads.now in
    subst (λ (p : Option ℕ). AreLeft rows p heads.keys c.remove.new.self.keys) (sym c.in-Some.is)
    (one_left rows c.in-Some.rev c.node.result heads.keys c.remove.new.self.keys c.node.ensures
    (taken_is heads c.remove.new.self c.node.result c.remove.ensures.updates.0))
