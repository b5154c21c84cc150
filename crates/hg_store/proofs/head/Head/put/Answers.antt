use Rattle.std.proofs.Common.{◌∙◌, ap}
use Rattle.hg_store.proofs.Heads.{head_put}
use Rattle.hg_store.proofs.Repair.{on_ok}
use Rattle.hg_store.specs.Head.{version_byte}
use Rattle.hg_store.proofs.head.Head.put.Goals as goal

pub returns : goal.returns
returns g c =
    on_ok c.put_identity.result _ _ (head_put c.args.self.now c.number.result c.publishing_byte.result
    c.args.out.now.items c.extend_from_slice.new.self.items c.extend_from_slice-2.new.self.items
    c.put_limits.new.out.items c.put_identity.new.out.items c.in_ok-extend_from_slice.ensures.items
    c.in_ok-extend_from_slice-2.ensures.items (c.number.ensures ∙ ap version_byte c.version.ensures)
    c.publishing_byte.ensures c.in_ok-put_limits.ensures) c.put_identity.ensures
