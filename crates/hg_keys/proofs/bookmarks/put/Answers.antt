use Rattle.std.proofs.Common.{sym, ap, ◌∙◌}
use Rattle.hg_keys.specs.Bookmarks.{with_bookmark}
use Rattle.hg_keys.proofs.bookmarks.put.Goals as goal

pub returns-in_ok-set-in-Some-clause-set : goal.returns-in_ok-set-in-Some-clause-set
returns-in_ok-set-in-Some-clause-set g c =
    let pairs = c.args.names.now.pairs in
    let name = c.args.name.now in
    c.in_ok-set-in-Some.ensures.ok ∙ ap (with_bookmark pairs name) (sym c.in-Some.is)

pub returns-in-None-clause-set : goal.returns-in-None-clause-set
returns-in-None-clause-set g c =
    let pairs = c.args.names.now.pairs in
    let name = c.args.name.now in
    c.forget.ensures.names ∙ ap (with_bookmark pairs name) (sym c.in-None.is)
