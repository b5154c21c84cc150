use Rattle.std.proofs.Common.{◌≡◌, ℕ, List, None, Option}
use Rattle.hg_log.specs.Changeset.{Changeset}
use Rattle.hg_wireproto.specs.Lookup.{begun_text, lookup_text}
use Rattle.hg_queries.proofs.Copied.{if_ok}
use Rattle.hg_queries.proofs.reading.line_in.Goals as goal

pub returns-clause-left : goal.returns-clause-left
returns-clause-left g c =
    let key = c.args.key.now in
    let bookmarks = c.args.store.now.bookmarks.current in
    if_ok c.lookup_text.result (λ (line : Option (List ℕ)). line ≡ None → (rows : List Changeset)
    → lookup_text rows bookmarks key ≡ begun_text rows key) _
    (λ line left none. left none c.args.store.now.log.rows) c.lookup_text.ensures.left
