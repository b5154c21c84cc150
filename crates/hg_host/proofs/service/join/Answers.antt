use Rattle.std.proofs.Common.{[], ◌∷◌, ◌++◌, ap, sym, ◌∙◌, append_assoc, append-nil}
use Rattle.hg_host.proofs.service.join.Goals as goal

pub joining-init : goal.joining-init
joining-init g c = ([], append-nil c.args.items.now.items)

pub joining-preserved : goal.joining-preserved
joining-preserved g c =
    let i = c.joining.invariant in
    let more = c.in-Some.item ∷ [] in (
      i.0 ++ more,
      sym (append_assoc c.args.items.now.items i.0 more) ∙ (ap (λ l. l ++ more) i.1 ∙ sym c.put.ensures),
    )
