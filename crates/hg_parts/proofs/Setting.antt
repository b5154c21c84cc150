-- Entries of bookmarks that are set in turn.
use Rattle.std.proofs.Common.{◌≡◌, true, List, [], ◌∷◌}
use Rattle.std.proofs.lemmas.Bool.{and_parts}
use Rattle.hg_log.specs.Changeset.{Changeset}
use Rattle.hg_keys.specs.Bookmarks.{Pairs, set_each, with_bookmark}
use Rattle.hg_keys.specs.Known.{AreOnKnown}
use Rattle.hg_keys.specs.Payload.{Entry}
use Rattle.hg_keys.proofs.CallerLemmas.{with_on_known}
use Rattle.hg_parts.specs.parts.Bookmarks.{are_known}

-- names that are set on known changesets, each in turn
pub each_on_known : (rows : List Changeset) (entries : List Entry) (pairs : Pairs) → are_known rows entries ≡ true
    → AreOnKnown rows pairs → AreOnKnown rows (set_each entries pairs)
each_on_known rows [] pairs known all = all
each_on_known rows (entry ∷ entries) pairs known all =
    let parts = and_parts _ _ known in
    each_on_known rows entries (with_bookmark pairs entry.1 entry.0) parts.1
    (with_on_known rows pairs entry.1 entry.0 parts.0 all)
