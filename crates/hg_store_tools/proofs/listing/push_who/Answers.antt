use Rattle.std.proofs.Common.{◌≡◌, ◌∙◌, ◌==◌, sym, false, length}
use Rattle.hg_store_tools.proofs.listing.push_who.Goals as goal

pub returns : goal.returns
returns g c =
    let some : (length c.args.name.now == 0) ≡ false = sym c.is_empty.ensures ∙ c.if-is_empty.false in
    rw some c.push_name.ensures
