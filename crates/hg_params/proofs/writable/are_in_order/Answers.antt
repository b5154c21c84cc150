use Rattle.std.proofs.Common.{◌∙◌, take, sym, ap}
use Rattle.std.specs.List.{list_all}
use Rattle.hg_params.proofs.Ordering.{order_from_front, front_from_order}
use Rattle.hg_params.proofs.writable.are_in_order.Goals as goal

pub returns : goal.returns
returns g c =
    let told = c.are_mandatory.ensures
    ∙ ap (λ n. list_all (λ p. p.mandatory) (take n c.args.params.now)) c.count_mandatory.ensures in
    (λ e. order_from_front c.args.params.now (sym told ∙ e), λ h. told ∙ front_from_order c.args.params.now h)
