use Rattle.std.proofs.Common.{◌∙◌, ◌≡◌, sym, rules, not, true}
use Rattle.std.specs.Prelude.{is_some}
use Rattle.std.proofs.lemmas.Bool.{and_from}
use Rattle.hg_keys.specs.Bookmarks.{node_of}
use Rattle.hg_wireproto.specs.Lookup.{is_beginning}
use Rattle.hg_wireproto.proofs.LookedUp.{looked_up}
use Rattle.hg_wireproto.proofs.lookup.is_left_to_ids.Goals as goal

pub returns-then-is_beginning-clause-told : goal.returns-then-is_beginning-clause-told
returns-then-is_beginning-clause-told g c none rows =
    let pairs = c.args.bookmarks.now.current in
    let key = c.args.key.now in
    let lacks : not (is_some (node_of pairs key)) ≡ true = search rules in
    looked_up rows pairs key (and_from (is_beginning key) (not (is_some (node_of pairs key)))
    (sym c.is_beginning.ensures ∙ c.if-is_beginning.true) lacks)
