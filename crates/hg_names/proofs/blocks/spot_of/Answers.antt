use Rattle.std.proofs.Common.{◌<◌, ◌≤◌, length, sym, subst}
use Rattle.std.proofs.lemmas.List.{get_or_read}
use Rattle.hg_names.specs.declared.blocks.Block.{Block}
use Rattle.hg_names.specs.Names.{Pairs, AreInOrder}
use Rattle.hg_names.specs.code.Places.{IsAt, IsGap}
use Rattle.hg_names.proofs.Own.{items}
use Rattle.hg_names.proofs.Lookups.{block_order, at_in, gap_in}
use Rattle.hg_names.proofs.blocks.spot_of.Goals as goal

pub place_in-requires : goal.place_in-requires
place_in-requires g c =
    let blocks = c.args.blocks.now in
    let number = c.block_of-number.result in
    let block = c.index-blocks-number.result in
    subst AreInOrder (sym c.as_slice.ensures.value)
    (subst (λ (b : Block g.row.A.Denot). AreInOrder (items b)) c.index-blocks-number.is
    (block_order blocks number block c.block_of-number.ensures.within c.index-blocks-number.is c.requires.in_order))

pub returns-in-Ok-clause-found : goal.returns-in-Ok-clause-found
returns-in-Ok-clause-found g c =
    let blocks = c.args.blocks.now in
    let name = c.args.name.now in
    let number = c.block_of-number.result in
    let block = c.index-blocks-number.result in
    let place = c.in-Ok.place in
    let is_at : IsAt (items block) name place = subst (λ (b : Block g.row.A.Denot). IsAt (items b) name place)
    (sym c.index-blocks-number.is)
    (subst (λ (ps : Pairs). IsAt ps name place) c.as_slice.ensures.value c.in-Ok.ensures.found) in
    record {
      within = record {
        block = c.block_of-number.ensures.within;
        within = λ d. subst (λ (b : Block g.row.A.Denot). place < length (items b))
            (get_or_read blocks number block c.block_of-number.ensures.within c.index-blocks-number.is d) is_at.within;
      };
      at = at_in blocks number block c.block_of-number.ensures.within c.index-blocks-number.is name place is_at;
    }

pub returns-in-Err-clause-absent : goal.returns-in-Err-clause-absent
returns-in-Err-clause-absent g c =
    let blocks = c.args.blocks.now in
    let name = c.args.name.now in
    let number = c.block_of-number.result in
    let block = c.index-blocks-number.result in
    let place = c.in-Err.place in
    let gap : IsGap (items block) name place = subst (λ (b : Block g.row.A.Denot). IsGap (items b) name place)
    (sym c.index-blocks-number.is)
    (subst (λ (ps : Pairs). IsGap ps name place) c.as_slice.ensures.value c.in-Err.ensures.absent) in
    record {
      within = record {
        block = c.block_of-number.ensures.within;
        within = λ d. subst (λ (b : Block g.row.A.Denot). place ≤ length (items b))
            (get_or_read blocks number block c.block_of-number.ensures.within c.index-blocks-number.is d) gap.within;
      };
      gap = gap_in blocks number block c.block_of-number.ensures.within c.index-blocks-number.is name place
          c.block_of-number.ensures.lesser c.block_of-number.ensures.greater gap;
    }
