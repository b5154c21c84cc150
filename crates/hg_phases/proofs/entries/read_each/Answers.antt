use Rattle.std.proofs.Common.{◌≡◌, ◌∙◌, ◌++◌, ◌∷◌, [], Some, get_or, sym, ap, inr, rules}
use Rattle.hg_phases.specs.Entries.{entry_in}
use Rattle.hg_phases.proofs.EntryLemmas.{each_more, made_more, bad_piece, all_read}
use Rattle.hg_phases.proofs.entries.read_each.Goals as goal

pub returns-in_default : goal.returns-in_default
returns-in_default g c =
    inr (bad_piece c.args.pieces.now c.loop-piece.piece-index c.loop-piece-test.true (sym c.entry_of.ensures
    ∙ c.in_default.is))

pub loop-piece-preserved : goal.loop-piece-preserved
loop-piece-preserved g c =
    let pieces = c.args.pieces.now in
    let i = c.loop-piece.piece-index in
    let here : entry_in (get_or pieces i []) ≡ Some c.in-Some.entry = sym c.entry_of.ensures ∙ c.in-Some.is in
    record {
      each = each_more pieces i c.in-Some.entry c.loop-piece-test.true here c.loop-piece.invariant.each;
      made =
          c.push_reserved.ensures.items
          ∙ ap (λ entries. entries ++ c.in-Some.entry ∷ []) c.loop-piece.invariant.made
          ∙ sym (made_more pieces i c.in-Some.entry c.loop-piece-test.true here);
      room = search rules;
    }

pub returns : goal.returns
returns g c =
    all_read c.args.pieces.now c.loop-piece.piece-index c.from_vec.result c.loop-piece-test.false
    c.loop-piece.invariant.each (c.from_vec.ensures ∙ c.loop-piece.invariant.made)
