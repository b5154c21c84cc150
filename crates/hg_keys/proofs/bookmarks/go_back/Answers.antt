use Rattle.std.proofs.Common.{[], ◌∷◌, length, length-append, ap, ◌∙◌, arith}
use Rattle.hg_keys.specs.code.Changes.{base_of}
use Rattle.hg_keys.proofs.ChangeLemmas.{base_popped, can_rest}
use Rattle.hg_keys.proofs.bookmarks.go_back.Goals as goal

pub loop-change-preserved : goal.loop-change-preserved
loop-change-preserved g c =
    let changes = c.loop-change.changes.items in
    let rest = c.pop.new.self.items in
    let change = c.in-Some.change in
    let pairs = c.loop-change.names.pairs in
    let popped = c.in-Some.ensures.items in
    record {
      base = ap (base_of rest) c.undo.ensures.pairs ∙ base_popped changes rest change pairs popped
          ∙ c.loop-change.invariant.base;
      can = can_rest changes rest change pairs c.undo.new.names.pairs popped c.undo.ensures.pairs
          c.loop-change.invariant.can;
      room = omega (
        arith,
        ap length popped,
        length-append rest (change ∷ []),
        c.loop-change.invariant.room,
        c.undo.ensures.room,
      );
    }
