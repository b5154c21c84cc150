-- What the heads become when a row is added: those that it does not name as a parent, and itself.
use Rattle.std.proofs.Common.{◌≡◌, ℕ, zero, suc, ◌+◌, ◌<◌, ◌≤◌, Bool, true, false, not, cond, ◌&&◌, ◌||◌}
use Rattle.std.proofs.Common.{List, [], ◌∷◌, ◌++◌, length, take, filter, refl, sym, ap, ◌∙◌, arith}
use Rattle.std.specs.List.{list_any, range_with_len}
use Rattle.std.proofs.lemmas.List.{length_push}
use Rattle.std.proofs.Math.Seq.{take-append_seam}
use Rattle.std.proofs.lemmas.List.Elements.{filter-append}
use Rattle.std.proofs.lemmas.Option.{slice_get_within}
use Rattle.hg_log.specs.Changeset.{Changeset}
use Rattle.hg_log.specs.Rows.{AreLawful}
use Rattle.hg_log.specs.Parents.{parents_of}
use Rattle.hg_log.specs.HeadCount.{is_number, names, is_childless, head_revs, heads_with}
use Rattle.hg_log.proofs.ParentLemmas.{parents_kept, is_parent, ordered}
use Rattle.hg_log.proofs.HeadCounts.{freed}

-- ---- tests over a range

range_more : (a n : ℕ) → range_with_len a (suc n) ≡ range_with_len a n ++ (a + n) ∷ []
range_more a zero = ap (λ (k : ℕ). k ∷ []) (omega arith)
range_more a (suc n) =
    let next : a + 1 + n ≡ a + suc n = omega arith in
    ap (λ ks. a ∷ ks) (range_more (a + 1) n ∙ ap (λ (k : ℕ). range_with_len (a + 1) n ++ k ∷ []) next)

same_any : (p q : ℕ → Bool) (a n : ℕ) → ((r : ℕ) → a ≤ r → r < a + n → p r ≡ q r)
    → list_any p (range_with_len a n) ≡ list_any q (range_with_len a n)
same_any p q a zero same = refl
same_any p q a (suc n) same =
    ap (λ b. b || list_any p (range_with_len (a + 1) n)) (same a (omega arith) (omega arith))
    ∙ ap (λ b. q a || b) (same_any p q (a + 1) n (λ r low high. same r (omega arith) (omega arith)))

same_kept : (p q : ℕ → Bool) (a n : ℕ) → ((r : ℕ) → a ≤ r → r < a + n → p r ≡ q r)
    → filter p (range_with_len a n) ≡ filter q (range_with_len a n)
same_kept p q a zero same = refl
same_kept p q a (suc n) same =
    ap (λ b. cond b (a ∷ filter p (range_with_len (a + 1) n)) (filter p (range_with_len (a + 1) n)))
    (same a (omega arith) (omega arith))
    ∙ ap (λ ks. cond (q a) (a ∷ ks) ks)
    (same_kept p q (a + 1) n (λ r low high. same r (omega arith) (omega arith)))

any-append : (p : ℕ → Bool) (xs ys : List ℕ) → list_any p (xs ++ ys) ≡ (list_any p xs || list_any p ys)
any-append p [] ys = refl
any-append p (x ∷ xs) ys = ap (λ b. p x || b) (any-append p xs ys)
    ∙ or_assoc (p x) (list_any p xs) (list_any p ys)
  where
    or_assoc : (a b c : Bool) → (a || (b || c)) ≡ ((a || b) || c)
    or_assoc true b c = refl
    or_assoc false b c = refl

-- two tests in turn
filter_twice : (p q : ℕ → Bool) (xs : List ℕ) → filter (λ r. p r && q r) xs ≡ filter q (filter p xs)
filter_twice p q [] = refl
filter_twice p q (x ∷ xs) = by (p x) (filter_twice p q xs)
  where
    by : (b : Bool) → filter (λ r. p r && q r) xs ≡ filter q (filter p xs)
        → cond (b && q x) (x ∷ filter (λ r. p r && q r) xs) (filter (λ r. p r && q r) xs) ≡ filter q
        (cond b (x ∷ filter p xs) (filter p xs))
    by true rest = ap (λ ks. cond (q x) (x ∷ ks) ks) rest
    by false rest = rest

not_either : (b c : Bool) → not (b || (c || false)) ≡ (not b && not c)
not_either true c = refl
not_either false true = refl
not_either false false = refl

-- ---- the heads

module _ (rows : List Changeset) (row : Changeset) (lawful : AreLawful (rows ++ row ∷ [])) where
  len : length (rows ++ row ∷ []) ≡ suc (length rows)
  len = omega (arith, length_push rows row)

  before : take (length rows) (rows ++ row ∷ []) ≡ rows
  before = take-append_seam rows (row ∷ [])

  -- the rows of before name whom they named
  names_same : (r child : ℕ) → child < length rows → names (rows ++ row ∷ []) r child ≡ names rows r child
  names_same r child low =
      let same : parents_of rows child ≡ parents_of (rows ++ row ∷ []) child =
      ap (λ (rs : List Changeset). parents_of rs child) (sym before)
      ∙ parents_kept (rows ++ row ∷ []) (length rows) child (omega (arith, length_push rows row)) lawful
      low in
      ap (λ ps. is_number ps.0 r || is_number ps.1 r) (sym same)

  still : (r : ℕ)
      → is_childless (rows ++ row ∷ []) r ≡ (is_childless rows r
      && not (names (rows ++ row ∷ []) r (length rows)))
  still r =
      let all : List Changeset = rows ++ row ∷ [] in
      let any : list_any (names all r)
      (range_with_len 0 (length all)) ≡ (list_any (names all r) (range_with_len 0 (length rows))
      || (names all r (0 + length rows) || false)) =
      ap (λ n. list_any (names all r) (range_with_len 0 n)) len
      ∙ ap (list_any (names all r)) (range_more 0 (length rows))
      ∙ any-append (names all r) (range_with_len 0 (length rows)) ((0 + length rows) ∷ []) in
      let old : list_any (names all r) (range_with_len 0 (length rows)) ≡ list_any (names rows r)
      (range_with_len 0 (length rows)) =
      same_any (names all r) (names rows r) 0 (length rows)
      (λ child low high. names_same r child (omega arith)) in
      let last : 0 + length rows ≡ length rows = omega arith in
      ap not (any ∙ ap (λ b. b || (names all r (0 + length rows) || false)) old
      ∙ ap (λ n. list_any (names rows r) (range_with_len 0 (length rows))
      || (names all r n || false)) last)
      ∙ not_either (list_any (names rows r) (range_with_len 0 (length rows))) (names all r (length rows))

  -- the new row is nobody's parent
  new_free : is_childless (rows ++ row ∷ []) (length rows) ≡ true
  new_free = freed (rows ++ row ∷ []) lawful (length rows) (λ child is.
      let after : length rows < child = ordered (rows ++ row ∷ []) lawful (length rows) child
      (is_parent (rows ++ row ∷ []) (length rows) child lawful is) in
      let within : child < length (rows ++ row ∷ []) = slice_get_within (rows ++ row
      ∷ []) child is.child is.child_at in
      absurd (omega (arith, len)))

  pub heads_after : head_revs (rows ++ row ∷ []) ≡ heads_with rows row
  unfolding head_revs
  heads_after =
      let all : List Changeset = rows ++ row ∷ [] in
      let left : ℕ → Bool = λ r. not (names all r (length rows)) in
      let parts : filter (is_childless all) (range_with_len 0 (length all)) ≡ filter (is_childless all)
      (range_with_len 0 (length rows)) ++ filter (is_childless all) ((0 + length rows) ∷ []) =
      ap (λ n. filter (is_childless all) (range_with_len 0 n)) len
      ∙ ap (filter (is_childless all)) (range_more 0 (length rows))
      ∙ filter-append (is_childless all) (range_with_len 0 (length rows)) ((0 + length rows) ∷ []) in
      let old : filter (is_childless all) (range_with_len 0 (length rows)) ≡ filter left
      (filter (is_childless rows) (range_with_len 0 (length rows))) =
      same_kept (is_childless all) (λ r. is_childless rows r && left r) 0 (length rows)
      (λ r low high. still r) ∙ filter_twice (is_childless rows) left (range_with_len 0 (length rows)) in
      let last : 0 + length rows ≡ length rows = omega arith in
      let new : filter (is_childless all) ((0 + length rows) ∷ []) ≡ length rows ∷ [] =
      ap (λ n. filter (is_childless all) (n ∷ [])) last ∙ ap (λ b. cond b (length rows ∷ []) []) new_free in
      parts ∙ ap (λ ks. ks ++ filter (is_childless all) ((0 + length rows) ∷ [])) old
      ∙ ap (λ ks. filter left (filter (is_childless rows) (range_with_len 0 (length rows))) ++ ks) new
