use Rattle.std.proofs.Common.{◌≡◌, ◌∙◌, true, subst, sym, ap}
use Rattle.std.proofs.lemmas.Bool.{and_parts}
use Rattle.hg_keys.specs.Bookmarks.{Saved, Pairs, with_bookmark}
use Rattle.hg_keys.specs.Known.{AreOnKnown}
use Rattle.hg_keys.specs.PushKey.{is_known_target}
use Rattle.hg_keys.proofs.CallerLemmas.{with_on_known}
use Rattle.hg_keys.proofs.keys.push_bookmark.Goals as goal

-- a bookmark is set on a known changeset, or deleted
pub returns-clause-known : goal.returns-clause-known
returns-clause-known g c =
    let rows = c.args.log.now.rows in
    let pairs = c.args.bookmarks.now.current in
    let set : c.set.new.self.current ≡ with_bookmark pairs c.args.key.now c.in-Some.target =
    ap (λ (saved : Saved). saved.current) c.in_ok-set.ensures.ok in
    let known : is_known_target rows c.in-Some.target ≡ true =
    (and_parts _ _ (sym c.is_settable.ensures ∙ c.if-not-is_settable.false)).1 in
    λ all. subst (λ (ps : Pairs). AreOnKnown rows ps) (sym set)
    (with_on_known rows pairs c.args.key.now c.in-Some.target known all)
