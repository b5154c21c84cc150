use Rattle.std.proofs.Common.{◌≡◌, ℕ, List, [], ◌∷◌, length, sym, ap, ◌∙◌, arith}
use Rattle.std.proofs.lemmas.Grind.{common_steps}
use Rattle.std.proofs.lemmas.List.{nil_from_length}
use Rattle.hg_names.specs.declared.blocks.Block.{Block}
use Rattle.hg_names.specs.Names.{with_name}
use Rattle.hg_names.specs.code.Blocks.{pairs_in}
use Rattle.hg_names.proofs.Edits.{with_first}
use Rattle.hg_names.proofs.InOrder.{in_order_few}
use Rattle.hg_names.proofs.blocks.add_first.Goals as goal

pub returns-clause-ok : goal.returns-clause-ok
returns-clause-ok g c =
    let name = c.args.name.now in
    let node = c.args.node in
    let nil : c.args.blocks.now.items ≡ [] = nil_from_length c.args.blocks.now.items
    (grind (arith, common_steps, c.requires.none)) in
    c.in_ok-begin.ensures.ok ∙ ap (λ (n : List ℕ). (n, node) ∷ []) c.in_ok-name.ensures
    ∙ sym (with_first (name, node))
    ∙ ap (λ (bs : List (Block g.row.A.Denot)). with_name (pairs_in bs) name node) (sym nil)

pub returns-in_err-name-clause-in_order : goal.returns-in_err-name-clause-in_order
returns-in_err-name-clause-in_order g c =
    let nil : c.args.blocks.now.items ≡ [] = nil_from_length c.args.blocks.now.items
    (grind (arith, common_steps, c.requires.none)) in
    in_order_few (pairs_in c.args.blocks.now.items)
    (omega (arith, ap (λ (bs : List (Block g.row.A.Denot)). length (pairs_in bs)) nil))

pub returns-in_err-begin-clause-in_order : goal.returns-in_err-begin-clause-in_order
returns-in_err-begin-clause-in_order g c =
    in_order_few (pairs_in c.begin.new.blocks.items)
    (omega (arith, ap (λ (bs : List (Block g.row.A.Denot)). length (pairs_in bs)) c.in_err-begin.ensures.err))

pub returns-clause-in_order : goal.returns-clause-in_order
returns-clause-in_order g c =
    in_order_few (pairs_in c.begin.new.blocks.items) (omega (arith, ap length c.in_ok-begin.ensures.ok))
