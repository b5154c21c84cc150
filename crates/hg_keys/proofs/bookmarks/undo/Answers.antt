use Rattle.std.proofs.Common.{ℕ, List, Some, None, sym, ap, ◌∙◌}
use Rattle.hg_keys.specs.declared.bookmarks.Change.{Change}
use Rattle.hg_keys.specs.Bookmarks.{with_bookmark}
use Rattle.hg_keys.specs.code.Changes.{undone}
use Rattle.hg_keys.proofs.bookmarks.undo.Goals as goal

pub returns-in-Added-clause-pairs : goal.returns-in-Added-clause-pairs
returns-in-Added-clause-pairs g c =
    let pairs = c.args.names.now.pairs in
    c.forget.ensures.names ∙ ap (λ (n : List ℕ). with_bookmark pairs n None) c.as_slice.ensures
    ∙ ap (λ (change : Change g.row.A.Denot). undone change pairs) (sym c.in-Added.is)

pub returns-in-Moved-clause-pairs : goal.returns-in-Moved-clause-pairs
returns-in-Moved-clause-pairs g c =
    let pairs = c.args.names.now.pairs in
    let node = c.in-Moved.node in
    c.move_to.ensures.moved ∙ ap (λ (n : List ℕ). with_bookmark pairs n (Some node)) c.as_slice-in-Moved.ensures
    ∙ ap (λ (change : Change g.row.A.Denot). undone change pairs) (sym c.in-Moved.is)

pub returns-in-Removed-clause-pairs : goal.returns-in-Removed-clause-pairs
returns-in-Removed-clause-pairs g c =
    let pairs = c.args.names.now.pairs in
    c.put_back.ensures.names ∙ ap (λ (change : Change g.row.A.Denot). undone change pairs) (sym c.in-Removed.is)
