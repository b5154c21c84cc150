use Rattle.std.proofs.Common.{◌∙◌, ◌++◌, List, ℕ, ap, drop, sym, take-append-drop}
use Rattle.hg_store.proofs.head.front_of.Goals as goal

pub returns-clause-spelled : goal.returns-clause-spelled
returns-clause-spelled c = (
  drop 16 c.args.bytes.now,
  sym (take-append-drop 16 c.args.bytes.now)
      ∙ ap (λ (l : List ℕ). l ++ drop 16 c.args.bytes.now) (sym c.copy_from_slice.ensures.after),
)
