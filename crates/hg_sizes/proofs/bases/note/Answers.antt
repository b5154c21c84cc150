use Rattle.hg_sizes.specs.code.Maps.{texts_of}
use Rattle.hg_sizes.proofs.Noting.{is_none, noted_again, noted_first}
use Rattle.hg_sizes.proofs.bases.note.Goals as goal

pub returns-in_ok-insert : goal.returns-in_ok-insert
returns-in_ok-insert g c =
    noted_first (texts_of c.args.texts.now) (texts_of c.insert.new.self) c.args.node c.args.text
    (λ q. c.in_ok-insert.ensures.updates.0 q)
    (is_none _ c.contains_key.result c.contains_key.ensures c.if-not-contains_key.true)

pub returns-else-not-contains_key : goal.returns-else-not-contains_key
returns-else-not-contains_key g c =
    noted_again (texts_of c.args.texts.now) c.args.node c.args.text c.contains_key.result c.contains_key.ensures
    c.if-not-contains_key.false
