-- Entries that are set in another order, where those of one name keep theirs.
use Rattle.std.proofs.Common.{◌≡◌, ℕ, Bool, true, false, cond, List, [], ◌∷◌, ◌++◌, Option, None, refl, sym, ap, ◌∙◌}
use Rattle.std.proofs.Common.{◌+◌, ◌<◌, bytes_eq, take, drop, get_or, length, subst}
use Rattle.std.proofs.lemmas.List.{take_more, take-append-drop}
use Rattle.std.specs.List.{filter}
use Rattle.std.specs.List.Sorted.{IsStableBy, ties}
use Rattle.std.specs.Ordering.{is_eq, is_lt, ordering_reverse}
use Rattle.std.specs.Prelude.{not, ◌&&◌}
use Rattle.std.specs.declared.cmp.Ordering.{Ordering}
use Rattle.std.specs.declared.cmp.Ordering.TheVariants.{Less, Equal, Greater}
use Rattle.std.proofs.lemmas.Slice.Eq.{bytes_eq-Decides}
use Rattle.hg_types.specs.declared.node.Node.{Node}
use Rattle.hg_names.specs.Names.{Pairs, name_cmp, is_before, AreInOrder, node_of}
use Rattle.hg_names.proofs.CallerLemmas.{turned, is_other}
use Rattle.hg_keys.specs.Bookmarks.{set_each, with_bookmark, HaveSameNames, of_name, ArePartlySet}
use Rattle.hg_keys.specs.Payload.{Entry}
use Rattle.hg_keys.proofs.BackLemmas.{same_pairs}
use Rattle.hg_keys.proofs.SetLemmas.{others_kept, set_found}
use Rattle.hg_keys.proofs.PartsLemmas.{in_order_with}

-- by which entries are sorted
abbrev pub by_name : Entry → Entry → Bool
by_name entry other = is_before entry.1 other.1

-- entries tie where they have one name
ties_are_names : (entry other : Entry) → ties by_name entry other ≡ bytes_eq other.1 entry.1
ties_are_names entry other = by (name_cmp other.1 entry.1) refl
  where
    by : (o : Ordering) → name_cmp other.1 entry.1 ≡ o → ties by_name entry other ≡ bytes_eq other.1 entry.1
    by o is =
        ap (λ b. not b && not (is_before other.1 entry.1)) (ap is_lt (turned other.1 entry.1 o is))
        ∙ ap (λ b. not (is_lt (ordering_reverse o)) && not b) (ap is_lt is) ∙ neither o
        ∙ sym (is_other other.1 entry.1 o is)
      where
        neither : (o : Ordering) → (not (is_lt (ordering_reverse o)) && not (is_lt o)) ≡ is_eq o
        neither Less = refl
        neither Equal = refl
        neither Greater = refl

-- what is sorted by names, with ties in their order
pub stays_by_name : (entries sorted : List Entry) → IsStableBy by_name entries sorted → HaveSameNames entries sorted
stays_by_name entries sorted stable = λ name.
    let entry : Entry = (None, name) in
    let tests : ties by_name entry ≡ (λ other. bytes_eq other.1 name) = λ i other. ties_are_names entry other i in
    sym (ap (λ t. filter t sorted) tests) ∙ stable entry ∙ ap (λ t. filter t entries) tests

-- what a name is on after entries of it
abbrev left_on : List Entry → Option Node → Option Node
left_on [] before = before
left_on (entry ∷ entries) before = left_on entries entry.0

found_after : (name : List ℕ) (entries : List Entry) (pairs : Pairs) →
    node_of (set_each entries pairs) name ≡ left_on (of_name name entries) (node_of pairs name)
found_after name [] pairs = refl
found_after name (entry ∷ entries) pairs =
    by (found_after name entries (with_bookmark pairs entry.1 entry.0)) (bytes_eq entry.1 name) refl
  where
    by : node_of (set_each (entry ∷ entries) pairs) name
        ≡ left_on (of_name name entries) (node_of (with_bookmark pairs entry.1 entry.0) name)
        → (b : Bool) → bytes_eq entry.1 name ≡ b → node_of (set_each (entry ∷ entries) pairs) name
        ≡ left_on (of_name name (entry ∷ entries)) (node_of pairs name)
    by rest true is =
        let at = (bytes_eq-Decides entry.1 name).0 is in
        rest ∙ ap (left_on (of_name name entries))
        (ap (node_of (with_bookmark pairs entry.1 entry.0)) (sym at) ∙ set_found pairs entry.1 entry.0)
        ∙ sym (ap (λ b. left_on (cond b (entry ∷ of_name name entries) (of_name name entries)) (node_of pairs name)) is)
    by rest false is =
        rest ∙ ap (left_on (of_name name entries))
        (others_kept pairs entry.1 name entry.0
        (λ at. let clash = sym is ∙ (bytes_eq-Decides entry.1 name).1 (sym at) in cc))
        ∙ sym (ap (λ b. left_on (cond b (entry ∷ of_name name entries) (of_name name entries)) (node_of pairs name)) is)

in_order_after : (entries : List Entry) (pairs : Pairs) → AreInOrder pairs → AreInOrder (set_each entries pairs)
in_order_after [] pairs in_order = in_order
in_order_after (entry ∷ entries) pairs in_order =
    in_order_after entries (with_bookmark pairs entry.1 entry.0) (in_order_with pairs entry.1 in_order entry.0)

-- entries give the same pairs in any order that keeps those of one name in theirs
pub any_order_of_names : (entries others : List Entry) (pairs : Pairs) → AreInOrder pairs →
    HaveSameNames entries others → set_each others pairs ≡ set_each entries pairs
any_order_of_names entries others pairs in_order names =
    same_pairs (set_each others pairs) (set_each entries pairs) (in_order_after others pairs in_order)
    (in_order_after entries pairs in_order)
    (λ name. found_after name others pairs
    ∙ ap (λ (es : List Entry). left_on es (node_of pairs name)) (names name) ∙ sym (found_after name entries pairs))

-- entries after others
set_after : (entries others : List Entry) (pairs : Pairs)
    → set_each (entries ++ others) pairs ≡ set_each others (set_each entries pairs)
set_after [] others pairs = refl
set_after (entry ∷ entries) others pairs = set_after entries others (with_bookmark pairs entry.1 entry.0)

-- the next entry is set
pub set_next : (entries : List Entry) (i : ℕ) (entry : Entry) (before pairs : Pairs) → i < length entries →
    entry ≡ get_or entries i entry → pairs ≡ set_each (take i entries) before →
    with_bookmark pairs entry.1 entry.0 ≡ set_each (take (i + 1) entries) before
set_next entries i entry before pairs within here is =
    let next : take (i + 1) entries ≡ take i entries ++ entry ∷ [] = take_more entries i entry within
    ∙ ap (λ (e : Entry). take i entries ++ e ∷ []) (sym here) in
    sym (ap (λ (es : List Entry). set_each es before) next ∙ set_after (take i entries) (entry ∷ []) before
    ∙ ap (λ (ps : Pairs). with_bookmark ps entry.1 entry.0) (sym is))

-- some are set, and the others left
pub partly_set : (entries sorted : List Entry) (i : ℕ) (before after : Pairs) → HaveSameNames entries sorted →
    after ≡ set_each (take i sorted) before → ArePartlySet entries before after
partly_set entries sorted i before after same is = record {
  done = take i sorted;
  left = drop i sorted;
  same = subst (HaveSameNames entries) (sym (take-append-drop i sorted)) same;
  is = is;
}

-- and where none is
pub none_set : (entries : List Entry) (pairs : Pairs) → ArePartlySet entries pairs pairs
none_set entries pairs = record {
  done = [];
  left = entries;
  same = λ name. refl;
  is = refl;
}
