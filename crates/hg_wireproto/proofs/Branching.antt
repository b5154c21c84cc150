-- Branches kept by name, row by row.
use Rattle.std.proofs.Common.{◌≡◌, ℕ, ◌+◌, Bool, true, false, List, [], ◌∷◌, ◌++◌, map, Option, Some, None, refl, sym}
use Rattle.std.proofs.Common.{ap, ◌∙◌, filter, zero, suc, ◌<◌, ◌≤◌, length, take, drop, subst, arith}
use Rattle.std.specs.Prelude.{◌&&◌, cond, not, slice_index_or, unwrap_or, if◌then◌else◌}
use Rattle.std.specs.BTreeMap.{insert_entry}
use Rattle.std.specs.Cmp.Lexicographic.{slice_cmp}
use Rattle.std.specs.List.{list_any, AllByRecursion, range_with_len}
use Rattle.std.specs.List.Sorted.{IsStrictlySortedBy}
use Rattle.std.specs.Map.{keys_of, lookup, set_value}
use Rattle.std.specs.Option.{option_map}
use Rattle.std.specs.Ordering.{is_eq, match_ordering, nat_cmp}
use Rattle.std.specs.declared.cmp.Ordering.{Ordering}
use Rattle.std.specs.declared.cmp.Ordering.TheVariants.{Less, Equal, Greater}
use Rattle.std.proofs.lemmas.List.{append-nil, get_or-drop, get_or-take, length-drop, length-take-le}
use Rattle.std.proofs.lemmas.List.Elements.{filter-append}
use Rattle.std.proofs.lemmas.Map.Text.{is_eq-slice_cmp}
use Rattle.std.proofs.lemmas.Slice.Eq.{bytes_eq-Decides}
use Rattle.hg_log.specs.Changeset.{Changeset}
use Rattle.hg_wireproto.specs.code.Branches.{branch_at, if_any, is_member, is_name, kept_at, members, AreBranches, IsKept}
use Rattle.hg_wireproto.proofs.Ranges.{range_more}

-- ---- names

pub same_name : (a b : List ℕ) → is_name a b ≡ true → a ≡ b
same_name a b is = (bytes_eq-Decides a b).0 (sym (is_eq-slice_cmp a b) ∙ is)

pub name_same : (a : List ℕ) → is_name a a ≡ true
name_same a = is_eq-slice_cmp a a ∙ (bytes_eq-Decides a a).1 refl

name_cmp : (a b : List ℕ) → is_name a b ≡ true → slice_cmp nat_cmp a b ≡ Equal
name_cmp a b is = by (slice_cmp nat_cmp a b) is
  where
    by : (o : Ordering) → is_eq o ≡ true → o ≡ Equal
    by Less e = cc
    by Equal e = refl
    by Greater e = cc

-- ---- a look-up after a change

look_by : {X : Type 0} (b : Bool) (g : X → List ℕ) (v : X) (rest : Option (List ℕ)) (more : Option X)
    → rest ≡ option_map g more → cond b (Some (g v)) rest ≡ option_map g (cond b (Some v) more)
look_by true g v rest more e = refl
look_by false g v rest more e = e

pub look_seen : {K X : Type 0} (f : K → List ℕ) (g : X → List ℕ) (name : List ℕ) (es : List (K × X))
    → kept_at name (map (λ e. (f e.0, g e.1)) es) ≡ option_map g (lookup (λ k. is_name name (f k)) es)
look_seen f g name [] = refl
look_seen {K} f g name (e ∷ es) =
    look_by (is_name name (f e.0)) g e.1 (kept_at name (map (λ e. (f e.0, g e.1)) es))
    (lookup (λ (k : K). is_name name (f k)) es) (look_seen f g name es)

same_twice : {X : Type 0} (a b : Bool) (v w : X) (rest : Option X) → a ≡ b
    → cond a (Some v) rest ≡ cond b (Some v) (cond a (Some w) rest)
same_twice true true v w rest e = refl
same_twice true false v w rest e = cc
same_twice false true v w rest e = cc
same_twice false false v w rest e = refl

not_both : {X : Type 0} (a b : Bool) (v w : X) (rest : Option X) → (a ≡ true → b ≡ true → ⊥)
    → cond a (Some v) (cond b (Some w) rest) ≡ cond b (Some w) (cond a (Some v) rest)
not_both true true v w rest never = absurd (never refl refl)
not_both true false v w rest never = refl
not_both false true v w rest never = refl
not_both false false v w rest never = refl

module _ {K X : Type 0} (R : K → K → Ordering) (T : K → Bool) (congr : (x y : K) → R x y ≡ Equal → T x ≡ T y)
    (apart : (x y : K) → T x ≡ true → T y ≡ true → R x y ≡ Equal) where
  pub look_insert : (es : List (K × X)) (k : K) (v : X)
      → lookup T (insert_entry R es k v) ≡ cond (T k) (Some v) (lookup T es)
  look_insert [] k v = refl
  look_insert (e ∷ es) k v = by (R k e.0) (look_insert es k v) refl
    where
      by : (o : Ordering) → lookup T (insert_entry R es k v) ≡ cond (T k) (Some v) (lookup T es) → R k e.0 ≡ o
          → lookup T (match_ordering o ((k, v) ∷ e ∷ es) ((e.0, v) ∷ es) (e ∷ insert_entry R es k v))
          ≡ cond (T k) (Some v) (lookup T (e ∷ es))
      by Less later is = refl
      by Equal later is = same_twice (T e.0) (T k) v e.1 (lookup T es) (sym (congr k e.0 is))
      by Greater later is =
          ap (λ (o : Option X). cond (T e.0) (Some e.1) o) later
          ∙ not_both (T e.0) (T k) e.1 v (lookup T es)
          (λ there here. let f = sym is ∙ apart k e.0 here there in cc)

set_here : {X : Type 0} (b : Bool) (t : Bool) (v w : X) (rest : Option X) → t ≡ b
    → cond t (Some w) rest ≡ cond b (Some w) (cond t (Some v) rest)
set_here b t v w rest e = same_twice t b w v rest e

set_there : {X : Type 0} (b t : Bool) (v w : X) (rest : Option X) → (b ≡ true → t ≡ true → ⊥)
    → cond t (Some v) (cond b (Some w) rest) ≡ cond b (Some w) (cond t (Some v) rest)
set_there b t v w rest never = not_both t b v w rest (λ x y. never y x)

module _ {K X : Type 0} (U T : K → Bool) (b : Bool) (same : (x : K) → U x ≡ true → T x ≡ b)
    (other : b ≡ true → (x : K) → T x ≡ true → U x ≡ true) (w : X) where
  pub look_set : (es : List (K × X)) (v : X) → lookup U es ≡ Some v
      → lookup T (set_value U es w) ≡ cond b (Some w) (lookup T es)
  look_set [] v found = cc
  look_set (e ∷ es) v found = by (U e.0) (look_set es v) refl found
    where
      by : (u : Bool)
          → (lookup U es ≡ Some v → lookup T (set_value U es w) ≡ cond b (Some w) (lookup T es)) → U e.0 ≡ u → cond u (Some e.1) (lookup U es) ≡ Some v
          → lookup T (cond u ((e.0, w) ∷ es) (e ∷ set_value U es w)) ≡ cond b (Some w) (lookup T (e ∷ es))
      by true later is found = set_here b (T e.0) e.1 w (lookup T es) (same e.0 is)
      by false later is found =
          ap (λ (o : Option X). cond (T e.0) (Some e.1) o) (later found)
          ∙ set_there b (T e.0) e.1 w (lookup T es) (λ x y. let f = sym is ∙ other x e.0 y in cc)

module _ {K X : Type 0} (f : K → List ℕ) (g : X → List ℕ) where
  seen_below : (k : K) (es : List (K × X))
      → AllByRecursion (λ (y : K). slice_cmp nat_cmp (f k) (f y) ≡ Less) (keys_of es)
      → AllByRecursion (λ y. slice_cmp nat_cmp (f k) y ≡ Less) (keys_of (map (λ e. (f e.0, g e.1)) es))
  seen_below k [] all = tt
  seen_below k (e ∷ es) all = (all.0, seen_below k es all.1)

  pub seen_sorted : (es : List (K × X)) → IsStrictlySortedBy (λ x y. slice_cmp nat_cmp (f x) (f y)) (keys_of es)
      → IsStrictlySortedBy (slice_cmp nat_cmp) (keys_of (map (λ e. (f e.0, g e.1)) es))
  unfolding IsStrictlySortedBy
  seen_sorted [] all = tt
  seen_sorted (e ∷ es) all = (seen_below e.0 es all.0, seen_sorted es all.1)

  pub kept_set : (name : List ℕ) (r : ℕ) (old new : List (K × X)) (revs w : X)
      → Some revs ≡ lookup (λ k. is_name name (f k)) old → new ≡ set_value (λ k. is_name name (f k)) old w
      → g w ≡ g revs ++ r ∷ [] → IsStrictlySortedBy (λ x y. slice_cmp nat_cmp (f x) (f y)) (keys_of new)
      → IsKept name r (map (λ e. (f e.0, g e.1)) old) (map (λ e. (f e.0, g e.1)) new)
  kept_set name r old new revs w found set more sorted = record {
    ascending = seen_sorted new sorted;
    each = λ other.
        let before = look_seen f g name old ∙ ap (option_map g) (sym found) in
        look_seen f g other new
        ∙ ap (λ (es : List (K × X)). option_map g (lookup (λ (k : K). is_name other (f k)) es)) set
        ∙ ap (option_map g) (look_set (λ (k : K). is_name name (f k)) (λ (k : K). is_name other (f k))
        (is_name other name)
        (λ x is. ap (is_name other) (sym (same_name name (f x) is)))
        (λ is x there. ap (λ (n : List ℕ). is_name n (f x)) (sym (same_name other name is)) ∙ there) w old revs (sym found))
        ∙ both (is_name other name) g w (lookup (λ (k : K). is_name other (f k)) old)
        (unwrap_or (kept_at name (map (λ e. (f e.0, g e.1)) old)) [] ++ r ∷ [])
        (more ∙ ap (λ (o : Option (List ℕ)). unwrap_or o [] ++ r ∷ []) (sym before))
        (kept_at other (map (λ e. (f e.0, g e.1)) old)) (sym (look_seen f g other old));
  }
    where
      both : (b : Bool) (g : X → List ℕ) (w : X) (rest : Option X) (text : List ℕ) → g w ≡ text
          → (o : Option (List ℕ)) → option_map g rest ≡ o
          → option_map g (cond b (Some w) rest) ≡ (if b then Some text else o)
      both true g w rest text e o h = ap (λ (x : List ℕ). Some x) e
      both false g w rest text e o h = h

  pub kept_insert : (key : K) (name : List ℕ) (r : ℕ) (old new : List (K × X)) (w : X) → f key ≡ name
      → (let none : Option X = None in none) ≡ lookup (λ k. is_name name (f k)) old
      → new ≡ insert_entry (λ x y. slice_cmp nat_cmp (f x) (f y)) old key w → g w ≡ r ∷ []
      → IsStrictlySortedBy (λ x y. slice_cmp nat_cmp (f x) (f y)) (keys_of new)
      → IsKept name r (map (λ e. (f e.0, g e.1)) old) (map (λ e. (f e.0, g e.1)) new)
  kept_insert key name r old new w named none put one sorted = record {
    ascending = seen_sorted new sorted;
    each = λ other.
        let before = look_seen f g name old ∙ ap (option_map g) (sym none) in
        look_seen f g other new
        ∙ ap (λ (es : List (K × X)). option_map g (lookup (λ (k : K). is_name other (f k)) es)) put
        ∙ ap (option_map g) (look_insert (λ (x y : K). slice_cmp nat_cmp (f x) (f y)) (λ (k : K). is_name other (f k))
        (λ x y is. ap (is_name other) (same_name (f x) (f y) (ap is_eq is)))
        (λ x y here there. name_cmp (f x) (f y)
        (ap (λ (n : List ℕ). is_name n (f y)) (sym (same_name other (f x) here)) ∙ there)) old key w)
        ∙ both (is_name other (f key)) (is_name other name) (ap (is_name other) named) g w
        (lookup (λ (k : K). is_name other (f k)) old)
        (unwrap_or (kept_at name (map (λ e. (f e.0, g e.1)) old)) [] ++ r ∷ [])
        (one ∙ ap (λ (o : Option (List ℕ)). unwrap_or o [] ++ r ∷ []) (sym before))
        (kept_at other (map (λ e. (f e.0, g e.1)) old)) (sym (look_seen f g other old));
  }
    where
      both : (a b : Bool) → a ≡ b → (g : X → List ℕ) (w : X) (rest : Option X) (text : List ℕ) → g w ≡ text
          → (o : Option (List ℕ)) → option_map g rest ≡ o
          → option_map g (cond a (Some w) rest) ≡ (if b then Some text else o)
      both true true s g w rest text e o h = ap (λ (x : List ℕ). Some x) e
      both true false s g w rest text e o h = cc
      both false true s g w rest text e o h = cc
      both false false s g w rest text e o h = h

-- none of these is not left out
all_out : (out : List Bool) (i : ℕ) (other : Bool) → list_any not out ≡ false → i < length out
    → slice_index_or out i other ≡ true
all_out [] i other none low = absurd (omega (arith, low))
all_out (true ∷ out) zero other none low = refl
all_out (false ∷ out) zero other none low = cc
all_out (true ∷ out) (suc i) other none low = all_out out i other none (omega (arith, low))
all_out (false ∷ out) (suc i) other none low = cc

-- ---- row by row

module _ (rows : List Changeset) (out : List Bool) where
  members_more : (n : ℕ) (name : List ℕ) → members rows out (n + 1) name
      ≡ members rows out n name ++ cond (is_member rows out name n) (n ∷ []) []
  members_more n name =
      ap (filter (is_member rows out name)) (range_more n)
      ∙ filter-append (is_member rows out name) (range_with_len 0 n) (n ∷ [])

  members_with : (n : ℕ) (name : List ℕ) → is_member rows out name n ≡ true
      → members rows out (n + 1) name ≡ members rows out n name ++ n ∷ []
  members_with n name is =
      members_more n name ∙ ap (λ (b : Bool). members rows out n name ++ cond b (n ∷ []) []) is

  members_without : (n : ℕ) (name : List ℕ) → is_member rows out name n ≡ false
      → members rows out (n + 1) name ≡ members rows out n name
  members_without n name is =
      members_more n name ∙ ap (λ (b : Bool). members rows out n name ++ cond b (n ∷ []) []) is
      ∙ append-nil (members rows out n name)

  pub branches_none : AreBranches rows out 0 []
  unfolding IsStrictlySortedBy
  branches_none = record { ascending = tt; each = λ name. refl }

  pub branches_skip : (n : ℕ) (branches : List (List ℕ × List ℕ)) → slice_index_or out n false ≡ true
      → AreBranches rows out n branches → AreBranches rows out (n + 1) branches
  branches_skip n branches is held = record {
    ascending = held.ascending;
    each = λ name. held.each name ∙ ap if_any (sym (members_without n name
        (ap (λ (b : Bool). not b && is_name name (branch_at rows n)) is)));
  }

  any_push : (rs : List ℕ) (r : ℕ) → Some (rs ++ r ∷ []) ≡ if_any (rs ++ r ∷ [])
  any_push [] r = refl
  any_push (x ∷ xs) r = refl

  any_or : (rs : List ℕ) → unwrap_or (if_any rs) [] ≡ rs
  any_or [] = refl
  any_or (x ∷ xs) = refl

  pub branches_more : (n : ℕ) (old new : List (List ℕ × List ℕ)) → slice_index_or out n false ≡ false
      → AreBranches rows out n old → IsKept (branch_at rows n) n old new
      → AreBranches rows out (n + 1) new
  branches_more n old new is held kept = record {
    ascending = kept.ascending;
    each = λ name. kept.each name ∙ by name (is_name name (branch_at rows n)) refl;
  }
    where
      by : (name : List ℕ) (b : Bool) → is_name name (branch_at rows n) ≡ b
          → (if b then Some (unwrap_or (kept_at (branch_at rows n) old) [] ++ n ∷ []) else kept_at name old)
          ≡ if_any (members rows out (n + 1) name)
      by name true e =
          let is_in : is_member rows out name n ≡ true =
          ap (λ (b : Bool). not b && is_name name (branch_at rows n)) is ∙ e in
          ap (λ (o : Option (List ℕ)). Some (unwrap_or o [] ++ n ∷ []))
          (ap (λ (other : List ℕ). kept_at other old) (sym (same_name name (branch_at rows n) e)) ∙ held.each name)
          ∙ ap (λ (rs : List ℕ). Some (rs ++ n ∷ [])) (any_or (members rows out n name))
          ∙ any_push (members rows out n name) n
          ∙ ap if_any (sym (members_with n name is_in))
      by name false e =
          let is_out : is_member rows out name n ≡ false =
          ap (λ (b : Bool). not b && is_name name (branch_at rows n)) is ∙ e in
          held.each name ∙ ap if_any (sym (members_without n name is_out))

  -- several rows that are left out
  pub branches_pass : (k n : ℕ) (branches : List (List ℕ × List ℕ))
      → ((i : ℕ) → i < k → slice_index_or out (n + i) false ≡ true)
      → AreBranches rows out n branches → AreBranches rows out (n + k) branches
  branches_pass zero n branches all held =
      let same : n ≡ n + 0 = omega arith in subst (λ (m : ℕ). AreBranches rows out m branches) same held
  branches_pass (suc k) n branches all held =
      let next : n + k + 1 ≡ n + suc k = omega arith in
      subst (λ (m : ℕ). AreBranches rows out m branches) next
      (branches_skip (n + k) branches (all k (omega arith))
      (branches_pass k n branches (λ i low. all i (omega (arith, low))) held))

  -- a piece of rows that are all left out
  pub branches_piece : (k n : ℕ) (branches : List (List ℕ × List ℕ)) → n + k ≤ length out
      → list_any not (take k (drop n out)) ≡ false
      → AreBranches rows out n branches → AreBranches rows out (n + k) branches
  branches_piece k n branches within none held =
      branches_pass k n branches (λ i low.
      let long : length (take k (drop n out)) ≡ k =
      length-take-le k (drop n out) (omega (arith, within, length-drop n out)) in
      sym (get_or-take k (drop n out) i false low ∙ get_or-drop n out i false)
      ∙ all_out (take k (drop n out)) i false none (omega (arith, low, long))) held
