use Rattle.std.proofs.Common.{◌≡◌, [], List, length, ap, sym, ◌∙◌}
use Rattle.std.proofs.lemmas.Bool.{eqb-true}
use Rattle.std.proofs.lemmas.List.{nil_from_length}
use Rattle.hg_names.specs.declared.blocks.Block.{Block}
use Rattle.hg_names.specs.Names.{node_of, without}
use Rattle.hg_names.specs.code.Blocks.{pairs_in, place_at}
use Rattle.hg_names.proofs.Edits.{without_gap, without_none}
use Rattle.hg_names.proofs.Lookups.{none_at}
use Rattle.hg_names.proofs.blocks.spot_if_there.Goals as goal

pub returns-then-is_empty-clause-none : goal.returns-then-is_empty-clause-none
returns-then-is_empty-clause-none g c =
    let nil : c.args.blocks.now ≡ [] = nil_from_length c.args.blocks.now
    (eqb-true (length c.args.blocks.now) 0 (sym c.is_empty.ensures ∙ c.if-is_empty.true)) in
    ap (λ (bs : List (Block g.row.A.Denot)). node_of (pairs_in bs) c.args.name.now) nil

pub returns-then-is_empty-clause-stays : goal.returns-then-is_empty-clause-stays
returns-then-is_empty-clause-stays g c =
    let nil : c.args.blocks.now ≡ [] = nil_from_length c.args.blocks.now
    (eqb-true (length c.args.blocks.now) 0 (sym c.is_empty.ensures ∙ c.if-is_empty.true)) in
    ap (λ (bs : List (Block g.row.A.Denot)). without (pairs_in bs) c.args.name.now) nil
    ∙ without_none c.args.name.now ∙ sym (ap (λ (bs : List (Block g.row.A.Denot)). pairs_in bs) nil)

pub returns-in-Err-clause-none : goal.returns-in-Err-clause-none
returns-in-Err-clause-none g c =
    let blocks = c.args.blocks.now in
    none_at (pairs_in blocks) c.args.name.now (place_at blocks c.in-Err.field-0) c.in-Err.ensures.absent.gap

pub returns-in-Err-clause-stays : goal.returns-in-Err-clause-stays
returns-in-Err-clause-stays g c =
    let blocks = c.args.blocks.now in
    without_gap (pairs_in blocks) c.args.name.now (place_at blocks c.in-Err.field-0) c.in-Err.ensures.absent.gap
