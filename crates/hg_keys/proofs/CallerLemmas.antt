-- What proofs of other crates may cite of bookmarks.
use Rattle.std.proofs.Common.{◌≡◌, ℕ, true, List, [], ◌++◌, filter, Option, Some, None, sym, subst, arith}
use Rattle.std.proofs.lemmas.List.Elements.{All-append, All-cons, All-filter}
use Rattle.hg_types.specs.declared.node.Node.{Node}
use Rattle.hg_log.specs.Changeset.{Changeset}
use Rattle.hg_names.specs.Names.{Pairs, is_before}
use Rattle.hg_keys.specs.Bookmarks.{with_bookmark}
use Rattle.hg_keys.specs.Known.{is_known, AreOnKnown}
use Rattle.hg_keys.specs.PushKey.{is_known_target}
use Rattle.hg_keys.proofs.PartsLemmas.{pair_of, parts}

none_on_known : (rows : List Changeset) → AreOnKnown rows []
none_on_known rows k d low = absurd (omega (arith, low))

pair_on_known : (rows : List Changeset) (name : List ℕ) (target : Option Node)
    → is_known_target rows target ≡ true → AreOnKnown rows (pair_of name target)
pair_on_known rows name None known = none_on_known rows
pair_on_known rows name (Some node) known =
    All-cons (λ pair. is_known rows pair.1 ≡ true) (name, node) [] known (none_on_known rows)

-- a name that is set on a known changeset, or deleted
pub with_on_known : (rows : List Changeset) (pairs : Pairs) (name : List ℕ) (target : Option Node)
    → is_known_target rows target ≡ true → AreOnKnown rows pairs
    → AreOnKnown rows (with_bookmark pairs name target)
with_on_known rows pairs name target known all =
    subst (AreOnKnown rows) (sym (parts pairs name target))
    (All-append (λ pair. is_known rows pair.1 ≡ true) (filter (λ pair. is_before pair.0 name) pairs)
    (pair_of name target ++ filter (λ pair. is_before name pair.0) pairs)
    (All-filter (λ pair. is_before pair.0 name) (λ pair. is_known rows pair.1 ≡ true) pairs all)
    (All-append (λ pair. is_known rows pair.1 ≡ true) (pair_of name target)
    (filter (λ pair. is_before name pair.0) pairs)
    (pair_on_known rows name target known)
    (All-filter (λ pair. is_before name pair.0) (λ pair. is_known rows pair.1 ≡ true) pairs all)))
