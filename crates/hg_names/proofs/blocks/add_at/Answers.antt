use Rattle.std.proofs.Common.{ℕ, List, sym, ap, subst, ◌∙◌}
use Rattle.hg_names.specs.Names.{with_name}
use Rattle.hg_names.specs.code.Blocks.{pairs_in, IsFree}
use Rattle.hg_names.proofs.blocks.add_at.Goals as goal

pub join-requires-clause-free : goal.join-requires-clause-free
join-requires-clause-free g c =
    subst (λ (n : List ℕ). IsFree c.args.blocks.now.items n c.args.spot) (sym c.in_ok-name.ensures)
    c.requires.free

pub returns-clause-ok : goal.returns-clause-ok
returns-clause-ok g c =
    c.in_ok-join.ensures.ok
    ∙ ap (λ (n : List ℕ). with_name (pairs_in c.args.blocks.now.items) n c.args.node) c.in_ok-name.ensures
