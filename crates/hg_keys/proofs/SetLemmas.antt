-- What a look-up finds in a map after a name was set.
use Rattle.std.proofs.Common.{◌≡◌, ◌≢◌, ℕ, Bool, true, false, true≢false, cond, List, [], ◌∷◌, ◌++◌, Option}
use Rattle.std.proofs.Common.{Some, None, refl, sym, ap, ◌∙◌, bytes_eq}
use Rattle.std.specs.List.{filter}
use Rattle.std.specs.Map.{lookup}
use Rattle.std.specs.Ordering.{is_lt}
use Rattle.std.specs.declared.cmp.Ordering.{Ordering}
use Rattle.std.specs.declared.cmp.Ordering.TheVariants.{Less, Equal, Greater}
use Rattle.std.proofs.lemmas.Slice.Eq.{bytes_eq-Decides}
use Rattle.hg_types.specs.declared.node.Node.{Node}
use Rattle.hg_names.specs.Names.{Pairs, name_cmp, is_before, node_of}
use Rattle.hg_names.proofs.CallerLemmas.{turned, names_equal, not_before_itself}
use Rattle.hg_keys.specs.Bookmarks.{with_bookmark}
use Rattle.hg_keys.proofs.PartsLemmas.{pair_of, parts}

-- ---- look-ups in lists

-- the first of two answers that there is
first_found : Option Node → Option Node → Option Node
first_found (Some node) other = Some node
first_found None other = other

none_behind : (o : Option Node) → first_found o None ≡ o
unfolding first_found
none_behind (Some node) = refl
none_behind None = refl

module _ (test : List ℕ → Bool) where
  joined_step : (pair : List ℕ × Node) (xs ys : Pairs)
      → lookup test (xs ++ ys) ≡ first_found (lookup test xs) (lookup test ys)
      → lookup test (pair ∷ (xs ++ ys)) ≡ first_found (lookup test (pair ∷ xs)) (lookup test ys)
  unfolding first_found
  joined_step pair xs ys rest = by (test pair.0)
    where
      by : (b : Bool) → cond b (Some pair.1) (lookup test (xs ++ ys)) ≡ first_found
          (cond b (Some pair.1) (lookup test xs)) (lookup test ys)
      by true = refl
      by false = rest

  joined : (xs ys : Pairs) → lookup test (xs ++ ys) ≡ first_found (lookup test xs) (lookup test ys)
  unfolding first_found
  joined [] ys = refl
  joined (pair ∷ xs) ys = joined_step pair xs ys (joined xs ys)

  module _ (keep : List ℕ → Bool) where
    abbrev kept : Pairs → Pairs
    kept xs = filter (λ pair. keep pair.0) xs

    -- a filter that keeps what is looked for
    kept_step : (pair : List ℕ × Node) (xs : Pairs) → (test pair.0 ≡ true → keep pair.0 ≡ true)
        → lookup test (kept xs) ≡ lookup test xs
        → lookup test (kept (pair ∷ xs)) ≡ lookup test (pair ∷ xs)
    kept_step pair xs sure rest = by (keep pair.0) refl
      where
        misses : (b : Bool) → test pair.0 ≡ b → keep pair.0 ≡ false → test pair.0 ≡ false
        misses true is not = absurd (true≢false (sym (sure is) ∙ not))
        misses false is not = is

        by : (b : Bool) → keep pair.0 ≡ b
            → lookup test (cond (keep pair.0) (pair ∷ kept xs) (kept xs)) ≡ cond (test pair.0) (Some pair.1)
            (lookup test xs)
        by true is = ap (λ b. lookup test (cond b (pair ∷ kept xs) (kept xs))) is
            ∙ ap (λ o. cond (test pair.0) (Some pair.1) o) rest
        by false is =
            ap (λ b. lookup test (cond b (pair ∷ kept xs) (kept xs))) is ∙ rest
            ∙ sym (ap (λ b. cond b (Some pair.1) (lookup test xs)) (misses (test pair.0) refl is))

    found_kept : (xs : Pairs) → ((name : List ℕ) → test name ≡ true → keep name ≡ true)
        → lookup test (kept xs) ≡ lookup test xs
    found_kept [] sure = refl
    found_kept (pair ∷ xs) sure = kept_step pair xs (sure pair.0) (found_kept xs sure)

    -- a filter that drops it
    dropped_step : (pair : List ℕ × Node) (xs : Pairs) → (test pair.0 ≡ true → keep pair.0 ≡ false)
        → lookup test (kept xs) ≡ None
        → lookup test (kept (pair ∷ xs)) ≡ None
    dropped_step pair xs sure rest = by (keep pair.0) refl
      where
        misses : (b : Bool) → test pair.0 ≡ b → keep pair.0 ≡ true → test pair.0 ≡ false
        misses true is kept_is = absurd (true≢false (sym kept_is ∙ sure is))
        misses false is kept_is = is

        by : (b : Bool) → keep pair.0 ≡ b → lookup test (cond (keep pair.0) (pair ∷ kept xs) (kept xs)) ≡ None
        by true is =
            ap (λ b. lookup test (cond b (pair ∷ kept xs) (kept xs))) is
            ∙ ap (λ b. cond b (Some pair.1) (lookup test (kept xs))) (misses (test pair.0) refl is) ∙ rest
        by false is = ap (λ b. lookup test (cond b (pair ∷ kept xs) (kept xs))) is ∙ rest

    none_kept : (xs : Pairs) → ((name : List ℕ) → test name ≡ true → keep name ≡ false)
        → lookup test (kept xs) ≡ None
    none_kept [] sure = refl
    none_kept (pair ∷ xs) sure = dropped_step pair xs (sure pair.0) (none_kept xs sure)

-- ---- names

same_name : (a b : List ℕ) → bytes_eq a b ≡ true → a ≡ b
same_name a b is = (bytes_eq-Decides a b).0 is

other_name : (a b : List ℕ) → a ≢ b → bytes_eq a b ≡ false
other_name a b other = by (bytes_eq a b) refl
  where
    by : (v : Bool) → bytes_eq a b ≡ v → bytes_eq a b ≡ false
    by true is = absurd (other (same_name a b is))
    by false is = is

-- a look-up in a map with a name set
parted : (pairs : Pairs) (name other : List ℕ) (node : Option Node)
    → node_of (with_bookmark pairs name node) other
    ≡ first_found (node_of (filter (λ pair. is_before pair.0 name) pairs) other)
    (first_found (node_of (pair_of name node) other)
    (node_of (filter (λ pair. is_before name pair.0) pairs) other))
parted pairs name other node =
    let test : List ℕ → Bool = λ k. bytes_eq k other in
    let front = filter (λ pair. is_before pair.0 name) pairs in
    let behind = filter (λ pair. is_before name pair.0) pairs in
    ap (lookup test) (parts pairs name node) ∙ joined test front (pair_of name node ++ behind)
    ∙ ap (first_found (node_of front other)) (joined test (pair_of name node) behind)

-- ---- the laws

alone : (name : List ℕ) (node : Option Node) → node_of (pair_of name node) name ≡ node
alone name None = refl
alone name (Some node) = ap (λ b. cond b (Some node) None) ((bytes_eq-Decides name name).1 refl)

not_it : (name other : List ℕ) (node : Option Node) → other ≢ name → node_of (pair_of name node) other ≡ None
not_it name other None differs = refl
not_it name other (Some node) differs =
    ap (λ b. cond b (Some node) None) (other_name name other (λ same. differs (sym same)))

-- the name is on what it was set to
pub set_found : (pairs : Pairs) (name : List ℕ) (node : Option Node)
    → node_of (with_bookmark pairs name node) name ≡ node
unfolding first_found
set_found pairs name node =
    let front = none_kept (λ k. bytes_eq k name) (λ k. is_before k name) pairs
    (λ k is. ap (λ n. is_before n name) (same_name k name is) ∙ not_before_itself name) in
    let behind = none_kept (λ k. bytes_eq k name) (λ k. is_before name k) pairs
    (λ k is. ap (λ n. is_before name n) (same_name k name is) ∙ not_before_itself name) in
    parted pairs name name node
    ∙ ap (λ o. first_found o
    (first_found (node_of (pair_of name node) name)
    (node_of (filter (λ pair. is_before name pair.0) pairs) name))) front
    ∙ ap (first_found (node_of (pair_of name node) name)) behind
    ∙ none_behind (node_of (pair_of name node) name) ∙ alone name node

-- another name is on what it was on
others_by : (pairs : Pairs) (name other : List ℕ) (node : Option Node) (o : Ordering)
    → name_cmp other name ≡ o → other ≢ name
    → node_of (with_bookmark pairs name node) other ≡ node_of pairs other
unfolding first_found
others_by pairs name other _ Equal is differs =
    absurd (differs (names_equal other name is))
others_by pairs name other node Less is differs =
    let front = found_kept (λ k. bytes_eq k other) (λ k. is_before k name) pairs
    (λ k same. ap (λ n. is_before n name) (same_name k other same) ∙ ap is_lt is) in
    let behind = none_kept (λ k. bytes_eq k other) (λ k. is_before name k) pairs
    (λ k same. ap (λ n. is_before name n) (same_name k other same)
    ∙ ap is_lt (turned other name Less is)) in
    parted pairs name other node
    ∙ ap (λ o. first_found o
    (first_found (node_of (pair_of name node) other)
    (node_of (filter (λ pair. is_before name pair.0) pairs) other))) front
    ∙ ap (λ o. first_found (node_of pairs other)
    (first_found o (node_of (filter (λ pair. is_before name pair.0) pairs) other)))
    (not_it name other node differs)
    ∙ ap (first_found (node_of pairs other)) behind ∙ none_behind (node_of pairs other)
others_by pairs name other node Greater is differs =
    let front = none_kept (λ k. bytes_eq k other) (λ k. is_before k name) pairs
    (λ k same. ap (λ n. is_before n name) (same_name k other same) ∙ ap is_lt is) in
    let behind = found_kept (λ k. bytes_eq k other) (λ k. is_before name k) pairs
    (λ k same. ap (λ n. is_before name n) (same_name k other same)
    ∙ ap is_lt (turned other name Greater is)) in
    parted pairs name other node
    ∙ ap (λ o. first_found o
    (first_found (node_of (pair_of name node) other)
    (node_of (filter (λ pair. is_before name pair.0) pairs) other))) front
    ∙ ap (λ o. first_found o (node_of (filter (λ pair. is_before name pair.0) pairs) other))
    (not_it name other node differs)
    ∙ behind

pub others_kept : (pairs : Pairs) (name other : List ℕ) (node : Option Node) → other ≢ name
    → node_of (with_bookmark pairs name node) other ≡ node_of pairs other
others_kept pairs name other node differs = others_by pairs name other node (name_cmp other name) refl differs
