-- The places of markers that are not the first of their predecessor, and what they tell of a look-up.
use Rattle.std.proofs.Common.{◌≡◌, ◌+◌, ◌<◌, ◌≤◌, ◌==◌, ◌&&◌, ◌||◌, ℕ, suc, zero, Bool, true, false, cond}
use Rattle.std.proofs.Common.{Option, Some, None, is_some, List, [], ◌∷◌, ◌++◌, length, get_or, refl, sym, ap}
use Rattle.std.proofs.Common.{◌∙◌, arith, eq-eqb, ne_eqb, true≢false, append_assoc, subst, unwrap_or}
use Rattle.std.specs.List.{list_any, IsDistinct, AllByRecursion}
use Rattle.std.specs.Map.{lookup}
use Rattle.std.specs.Cmp.{IsEquivalence, decided}
use Rattle.std.specs.declared.random_state.RandomState.{RandomState}
use Rattle.std.proofs.lemmas.Map.Keys.{IsDistinct-push}
use Rattle.std.proofs.lemmas.List.Folds.{list_any-append}
use Rattle.hg_types.specs.declared.node.Node.{Node}
use Rattle.hg_obs.specs.declared.marker.Marker.{Marker}
use Rattle.hg_obs.specs.Same.{is_same, is_same_decides, same_node, same_node_decides}
use Rattle.hg_obs.specs.Markers.{is_in}
use Rattle.hg_obs.specs.code.Places.{place_from, or_else, without}
use Rattle.hg_obs.specs.code.Later.{AreKept, has_predecessor, later_from, seal_of}
use Rattle.hg_obs.proofs.PlaceLemmas.{added, dropped, place_below, some_place}

-- ---- what a look-up gives

-- an id that has a place keeps it
pub stays : (look : Node → Option ℕ) (id : Node) (at place : ℕ) (node : Node) → look id ≡ Some at
    → or_else (look node) (cond (same_node node id) (Some place) None) ≡ look node
stays look id at place node e = by (same_node node id) (look node) refl refl
  where
    by : (b : Bool) (found : Option ℕ) → same_node node id ≡ b → look node ≡ found
        → or_else found (cond b (Some place) None) ≡ found
    by b (Some first) h k = refl
    by false None h k = refl
    by true None h k =
        let same : look node ≡ Some at = ap look ((same_node_decides node id).0 h) ∙ e in
        let no : None ≡ Some at = sym k ∙ same in absurd cc

-- what was noted last and is forgotten leaves what was there
pub unnoted : (b : Bool) (place : ℕ) (found : Option ℕ) → ((at : ℕ) → found ≡ Some at → at < place)
    → without b place (or_else found (cond b (Some place) None)) ≡ found
unnoted false place None below = refl
unnoted false place (Some at) below = refl
unnoted true place None below = ap (λ (c : Bool). cond c None (Some place)) (eq-eqb place place refl)
unnoted true place (Some at) below =
    let less : at < place = below at refl in
    ap (λ (c : Bool). cond c None (Some at)) (ne_eqb at place (omega arith))

-- an id whose place is one of before had that place
pub was_there : (found : Option ℕ) (at place : ℕ) → at ≡ unwrap_or found place → at < place
    → found ≡ Some at
was_there None at place e less = absurd (omega arith)
was_there (Some first) at place e less = ap (λ (n : ℕ). Some n) (sym e)

-- and else it had none
pub was_new : (found : Option ℕ) (at place : ℕ) → at ≡ unwrap_or found place → place ≤ at
    → ((first : ℕ) → found ≡ Some first → first < place) → found ≡ None
was_new None at place e more below = refl
was_new (Some first) at place e more below =
    let less : first < place = below first refl in absurd (omega arith)

append_nil : {X : Type 0} (xs : List X) → xs ++ [] ≡ xs
append_nil [] = refl
append_nil (x ∷ xs) = ap (λ (l : List _). x ∷ l) (append_nil xs)

or_false : (b : Bool) → (b || false) ≡ b
or_false true = refl
or_false false = refl

or_true : (b : Bool) → (b || true) ≡ true
or_true true = refl
or_true false = refl

-- ---- which markers are there

module _ {A : Type 0} where
  has_more : (before : List (Marker A)) (x m : Marker A) → has_predecessor (before ++ x ∷ []) m
      ≡ (has_predecessor before m || same_node m.predecessor x.predecessor)
  has_more before x m = list_any-append (λ (y : Marker A). same_node m.predecessor y.predecessor) before
      (x ∷ []) ∙ ap (λ (b : Bool). has_predecessor before m || b)
      (or_false (same_node m.predecessor x.predecessor))

  -- of one predecessor, where they are the same
  same_predecessor : (m x : Marker A) → same_node m.predecessor x.predecessor ≡ false
      → is_same m x ≡ false
  same_predecessor m x apart = by (is_same m x) refl
    where
      by : (b : Bool) → is_same m x ≡ b → b ≡ false
      by false e = refl
      by true e =
          let same : m.predecessor ≡ x.predecessor = ap (λ (y : Marker A). y.predecessor)
          ((is_same_decides m x).0 e) in
          absurd (true≢false (sym ((same_node_decides m.predecessor x.predecessor).1 same) ∙ apart))

  -- a marker is not there where none of its predecessor is
  pub none_there : (ms : List (Marker A)) (m : Marker A) → has_predecessor ms m ≡ false
      → is_in ms m ≡ false
  none_there [] m e = refl
  none_there (x ∷ xs) m e = by (same_node m.predecessor x.predecessor) refl e (none_there xs m)
    where
      by : (b : Bool) → same_node m.predecessor x.predecessor ≡ b → (b || has_predecessor xs m) ≡ false
          → (has_predecessor xs m ≡ false → is_in xs m ≡ false) → (is_same m x || is_in xs m) ≡ false
      by true h k rest = absurd (true≢false k)
      by false h k rest = ap (λ (c : Bool). c || is_in xs m) (same_predecessor m x h) ∙ rest k

  -- a marker that stands at a place is there
  pub stands : (ms : List (Marker A)) (i : ℕ) (d m : Marker A) → i < length ms
      → is_same (get_or ms i d) m ≡ true → is_in ms m ≡ true
  stands [] i d m less e = absurd (omega arith)
  stands (x ∷ xs) zero d m less e =
      let same : is_same m x ≡ true = (is_same_decides m x).1 (sym ((is_same_decides x m).0 e)) in
      ap (λ (b : Bool). b || is_in xs m) same
  stands (x ∷ xs) (suc i) d m less e =
      ap (λ (b : Bool). is_same m x || b) (stands xs i d m (omega arith) e) ∙ or_true (is_same m x)

  -- those before the last are distinct where all are
  pub distinct_front : (ms : List (Marker A)) (m : Marker A) → IsDistinct is_same (ms ++ m ∷ [])
      → IsDistinct is_same ms
  unfolding IsDistinct
  distinct_front [] m d = tt
  distinct_front (x ∷ xs) m d = (each xs d.0, distinct_front xs m d.1)
    where
      each : (ys : List (Marker A)) → AllByRecursion (λ y. is_same x y ≡ false) (ys ++ m ∷ [])
          → AllByRecursion (λ y. is_same x y ≡ false) ys
      each [] h = tt
      each (y ∷ ys) h = (h.0, each ys h.1)

  place_above : (from : ℕ) (node : Node) (ms : List (Marker A)) (place : ℕ)
      → place_from from node ms ≡ Some place → from ≤ place
  place_above from node [] place e = absurd cc
  place_above from node (x ∷ xs) place e =
      by (same_node node x.predecessor) e (place_above (suc from) node xs place)
    where
      by : (b : Bool) → cond b (Some from) (place_from (suc from) node xs) ≡ Some place
          → (place_from (suc from) node xs ≡ Some place → suc from ≤ place) → from ≤ place
      by true h rest = let same : from ≡ place = cc in omega arith
      by false h rest = let less : suc from ≤ place = rest h in omega arith

-- ---- the places of those that are not the first

module _ {A : Type 0} (seal : Marker A → Node) where
  later-push : (before : List (Marker A)) (from : ℕ) (node : Node) (ms : List (Marker A)) (m : Marker A)
      → later_from seal before from node (ms ++ m ∷ []) ≡ or_else (later_from seal before from node ms)
      (cond (has_predecessor (before ++ ms) m && same_node node (seal m)) (Some (from + length ms)) None)
  later-push before from node [] m =
      let e : from + 0 ≡ from = omega arith in
      ap (λ (n : ℕ). cond (has_predecessor before m && same_node node (seal m)) (Some n) None) (sym e)
      ∙ ap (λ (l : List (Marker A)). cond (has_predecessor l m && same_node node (seal m)) (Some (from + 0))
      None) (sym (append_nil before))
  later-push before from node (x ∷ xs) m =
      by (has_predecessor before x && same_node node (seal x))
      (later-push (before ++ x ∷ []) (suc from) node xs m)
    where
      by : (b : Bool) → later_from seal (before ++ x ∷ []) (suc from) node (xs ++ m ∷ [])
          ≡ or_else (later_from seal (before ++ x ∷ []) (suc from) node xs)
          (cond (has_predecessor ((before ++ x ∷ []) ++ xs) m && same_node node (seal m))
          (Some (suc from + length xs)) None)
          → cond b (Some from) (later_from seal (before ++ x ∷ []) (suc from) node (xs ++ m ∷ []))
          ≡ or_else (cond b (Some from) (later_from seal (before ++ x ∷ []) (suc from) node xs))
          (cond (has_predecessor (before ++ x ∷ xs) m && same_node node (seal m))
          (Some (from + suc (length xs))) None)
      by true rest = refl
      by false rest =
          let e : suc from + length xs ≡ from + suc (length xs) = omega arith in
          rest ∙ ap (λ (n : ℕ). or_else (later_from seal (before ++ x ∷ []) (suc from) node xs)
          (cond (has_predecessor ((before ++ x ∷ []) ++ xs) m && same_node node (seal m)) (Some n) None)) e
          ∙ ap (λ (l : List (Marker A)). or_else (later_from seal (before ++ x ∷ []) (suc from) node xs)
          (cond (has_predecessor l m && same_node node (seal m)) (Some (from + suc (length xs))) None))
          (append_assoc before (x ∷ []) xs)

  later_below : (before : List (Marker A)) (from : ℕ) (node : Node) (ms : List (Marker A)) (place : ℕ)
      → later_from seal before from node ms ≡ Some place → place < from + length ms
  later_below before from node [] place e = absurd cc
  later_below before from node (x ∷ xs) place e =
      by (has_predecessor before x && same_node node (seal x)) e
      (later_below (before ++ x ∷ []) (suc from) node xs place)
    where
      by : (b : Bool)
          → cond b (Some from) (later_from seal (before ++ x ∷ []) (suc from) node xs) ≡ Some place
          → (later_from seal (before ++ x ∷ []) (suc from) node xs ≡ Some place
          → place < suc from + length xs)
          → place < from + suc (length xs)
      by true h rest = let same : from ≡ place = cc in omega arith
      by false h rest = let less : place < suc from + length xs = rest h in omega arith

  -- the place of the last marker of a list is forgotten, where it is there
  pub later_forgotten : (ms : List (Marker A)) (m : Marker A) (node : Node)
      → without (same_node node (seal m)) (length ms) (later_from seal [] 0 node (ms ++ m ∷ []))
      ≡ later_from seal [] 0 node ms
  later_forgotten ms m node = ap (without (same_node node (seal m)) (length ms)) (later-push [] 0 node ms m)
      ∙ by (has_predecessor ms m) (same_node node (seal m)) (later_from seal [] 0 node ms) refl
    where
      by : (a b : Bool) (found : Option ℕ) → later_from seal [] 0 node ms ≡ found
          → without b (length ms) (or_else found (cond (a && b) (Some (0 + length ms)) None)) ≡ found
      by true false None e = refl
      by false false None e = refl
      by a false (Some place) e = refl
      by false true None e = refl
      by true true None e =
          let same : ((0 + length ms) == length ms) ≡ true = eq-eqb (0 + length ms) (length ms)
          (omega arith) in
          ap (λ (c : Bool). cond c None (Some (0 + length ms))) same
      by a true (Some place) e =
          let less : place < 0 + length ms = later_below [] 0 node ms place e in
          let other : (place == length ms) ≡ false = ne_eqb place (length ms) (omega arith) in
          ap (λ (c : Bool). cond c None (Some place)) other

  -- the first of its predecessor is not among them
  pub later_skipped : (ms : List (Marker A)) (m : Marker A) (node : Node) → has_predecessor ms m ≡ false
      → later_from seal [] 0 node (ms ++ m ∷ []) ≡ later_from seal [] 0 node ms
  later_skipped ms m node e = later-push [] 0 node ms m
      ∙ ap (λ (b : Bool). or_else (later_from seal [] 0 node ms)
      (cond (b && same_node node (seal m)) (Some (0 + length ms)) None)) e
      ∙ by (later_from seal [] 0 node ms)
    where
      by : (found : Option ℕ) → or_else found None ≡ found
      by None = refl
      by (Some place) = refl

  -- another is noted
  pub later_noted : (ms : List (Marker A)) (m : Marker A) (node : Node) → has_predecessor ms m ≡ true
      → later_from seal [] 0 node (ms ++ m ∷ []) ≡ or_else (later_from seal [] 0 node ms)
      (cond (same_node node (seal m)) (Some (length ms)) None)
  later_noted ms m node e =
      let n : 0 + length ms ≡ length ms = omega arith in
      later-push [] 0 node ms m
      ∙ ap (λ (b : Bool). or_else (later_from seal [] 0 node ms)
      (cond (b && same_node node (seal m)) (Some (0 + length ms)) None)) e
      ∙ ap (λ (i : ℕ). or_else (later_from seal [] 0 node ms)
      (cond (same_node node (seal m)) (Some i) None)) n

  more : (b : Bool) (at : ℕ) (found : Option ℕ) → is_some found ≡ true
      → is_some (cond b (Some at) found) ≡ true
  more true at found e = refl
  more false at found e = e

  -- a marker that comes after one of its predecessor has a place
  later_there : (before : List (Marker A)) (from : ℕ) (ms : List (Marker A)) (m : Marker A)
      → has_predecessor before m ≡ true → is_in ms m ≡ true
      → is_some (later_from seal before from (seal m) ms) ≡ true
  later_there before from [] m h there = absurd (true≢false (sym there))
  later_there before from (x ∷ xs) m h there =
      by (is_same m x) refl (later_there (before ++ x ∷ []) (suc from) xs m)
    where
      by : (b : Bool) → is_same m x ≡ b
          → (has_predecessor (before ++ x ∷ []) m ≡ true → is_in xs m ≡ true
          → is_some (later_from seal (before ++ x ∷ []) (suc from) (seal m) xs) ≡ true)
          → is_some (later_from seal before from (seal m) (x ∷ xs)) ≡ true
      by true e rest =
          let same : m ≡ x = (is_same_decides m x).0 e in
          let has : has_predecessor before x ≡ true =
          ap (λ (y : Marker A). has_predecessor before y) (sym same) ∙ h in
          let sealed : same_node (seal m) (seal x) ≡ true =
          (same_node_decides (seal m) (seal x)).1 (ap seal same) in
          ap (λ (b : Bool). is_some (cond (b && same_node (seal m) (seal x)) (Some from)
          (later_from seal (before ++ x ∷ []) (suc from) (seal m) xs))) has
          ∙ ap (λ (b : Bool). is_some (cond b (Some from)
          (later_from seal (before ++ x ∷ []) (suc from) (seal m) xs))) sealed
      by false e rest =
          let there_rest : is_in xs m ≡ true = sym (ap (λ (b : Bool). b || is_in xs m) e) ∙ there in
          let has : has_predecessor (before ++ x ∷ []) m ≡ true =
          has_more before x m ∙ ap (λ (b : Bool). b || same_node m.predecessor x.predecessor) h in
          more (has_predecessor before x && same_node (seal m) (seal x)) from
          (later_from seal (before ++ x ∷ []) (suc from) (seal m) xs)
          (rest has there_rest)

  -- a marker that is there, and is not the first of its predecessor, has a place
  later_unless_first : (before : List (Marker A)) (from at q : ℕ) (d : Marker A) (ms : List (Marker A))
      (m : Marker A) → has_predecessor before m ≡ false → place_from from m.predecessor ms ≡ Some at
      → at ≡ from + q → is_same m (get_or ms q d) ≡ false → is_in ms m ≡ true
      → is_some (later_from seal before from (seal m) ms) ≡ true
  later_unless_first before from at q d [] m h first e apart there = absurd (true≢false (sym there))
  later_unless_first before from at q d (x ∷ xs) m h first e apart there =
      by (same_node m.predecessor x.predecessor) q refl first e apart
      (λ q has first e apart there.
      later_unless_first (before ++ x ∷ []) (suc from) at q d xs m has first e apart there)
    where
      found : Bool → is_in xs m ≡ true → is_some (later_from seal (before ++ x ∷ []) (suc from) (seal m) xs)
          ≡ true → is_some (later_from seal before from (seal m) (x ∷ xs)) ≡ true
      found b k e = more (has_predecessor before x && same_node (seal m) (seal x)) from
          (later_from seal (before ++ x ∷ []) (suc from) (seal m) xs) e

      behind : is_same m x ≡ false → is_in xs m ≡ true
      behind k = sym (ap (λ (b : Bool). b || is_in xs m) k) ∙ there

      has : (b : Bool) → same_node m.predecessor x.predecessor ≡ b
          → has_predecessor (before ++ x ∷ []) m ≡ b
      has b k = has_more before x m
          ∙ ap (λ (c : Bool). c || same_node m.predecessor x.predecessor) h ∙ k

      by : (b : Bool) (q : ℕ) → same_node m.predecessor x.predecessor ≡ b
          → cond b (Some from) (place_from (suc from) m.predecessor xs) ≡ Some at → at ≡ from + q
          → is_same m (get_or (x ∷ xs) q d) ≡ false
          → ((q : ℕ) → has_predecessor (before ++ x ∷ []) m ≡ false
          → place_from (suc from) m.predecessor xs ≡ Some at → at ≡ suc from + q
          → is_same m (get_or xs q d) ≡ false → is_in xs m ≡ true
          → is_some (later_from seal (before ++ x ∷ []) (suc from) (seal m) xs) ≡ true)
          → is_some (later_from seal before from (seal m) (x ∷ xs)) ≡ true
      by true zero k first e apart rest = found true (behind apart)
          (later_there (before ++ x ∷ []) (suc from) xs m (has true k) (behind apart))
      by true (suc q) k first e apart rest = let same : from ≡ at = cc in absurd (omega arith)
      by false zero k first e apart rest =
          let above : suc from ≤ at = place_above (suc from) m.predecessor xs at first in
          absurd (omega arith)
      by false (suc q) k first e apart rest =
          let there_rest : is_in xs m ≡ true = behind (same_predecessor m x k) in
          found true there_rest (rest q (has false k) first (omega arith) apart there_rest)

  -- so one is not there, where the first of its predecessor is another, and it has no place
  pub not_there : (ms : List (Marker A)) (m d : Marker A) (first : ℕ)
      → place_from 0 m.predecessor ms ≡ Some first → is_same (get_or ms first d) m ≡ false
      → later_from seal [] 0 (seal m) ms ≡ None → is_in ms m ≡ false
  not_there ms m d first e apart none = by (is_in ms m) refl
    where
      turned : (b : Bool) → is_same m (get_or ms first d) ≡ b → b ≡ false
      turned false k = refl
      turned true k = absurd (true≢false (sym ((is_same_decides (get_or ms first d) m).1
          (sym ((is_same_decides m (get_or ms first d)).0 k))) ∙ apart))

      by : (b : Bool) → is_in ms m ≡ b → b ≡ false
      by false k = refl
      by true k = absurd (true≢false (sym (later_unless_first [] 0 first first d ms m refl e (omega arith)
          (turned (is_same m (get_or ms first d)) refl) k) ∙ ap is_some none))

-- ---- how the list is kept

module _ {A : Type 0} where
  same_equiv : IsEquivalence (is_same {A = A})
  same_equiv = decided is_same is_same_decides

  -- a search for a marker, whichever of the two is asked
  pub any_turned : (ms : List (Marker A)) (m : Marker A) → list_any (λ y. is_same y m) ms ≡ is_in ms m
  any_turned [] m = refl
  any_turned (x ∷ xs) m = ap (λ (b : Bool). b || list_any (λ y. is_same y m) xs) (same_equiv.symm x m)
      ∙ ap (λ (b : Bool). is_same m x || b) (any_turned xs m)

-- the look-ups of `new` are those of `old`, and of one id that had none a place
abbrev pub Notes : List (Node × ℕ) → List (Node × ℕ) → Node → ℕ → Type 0
Notes old new id place = (node : Node) → lookup (same_node node) new
    ≡ or_else (lookup (same_node node) old) (cond (same_node node id) (Some place) None)

module _ {A : Type 0} (state : RandomState) (ms : List (Marker A)) (firsts others : List (Node × ℕ)) where
  pub kept_none : ms ≡ [] → firsts ≡ [] → others ≡ [] → AreKept state ms firsts others
  unfolding IsDistinct
  kept_none e h k = record {
    firsts_found = λ node. ap (lookup (same_node node)) h ∙ sym (ap (place_from 0 node) e);
    others_found = λ node. ap (lookup (same_node node)) k
        ∙ sym (ap (later_from (seal_of state) [] 0 node) e);
    distinct = subst (λ (l : List (Marker A)). IsDistinct is_same l) (sym e) tt;
  }

module _ {A : Type 0} (state : RandomState) (ms : List (Marker A)) (firsts others : List (Node × ℕ))
    (kept : AreKept state ms firsts others) (m : Marker A) (place : ℕ) (size : place ≡ length ms) where
  pub first_look : lookup (same_node m.predecessor) firsts ≡ place_from 0 m.predecessor ms
  first_look = kept.firsts_found m.predecessor

  pub later_look : lookup (same_node (seal_of state m)) others
      ≡ later_from (seal_of state) [] 0 (seal_of state m) ms
  later_look = kept.others_found (seal_of state m)

  first_before : (node : Node) (at : ℕ) → lookup (same_node node) firsts ≡ Some at → at < place
  first_before node at e =
      let less : at < 0 + length ms = place_below 0 node ms at (sym (kept.firsts_found node) ∙ e) in
      omega arith

  later_before : (node : Node) (at : ℕ) → lookup (same_node node) others ≡ Some at → at < place
  later_before node at e =
      let less : at < 0 + length ms =
      later_below (seal_of state) [] 0 node ms at (sym (kept.others_found node) ∙ e) in
      omega arith

  -- or that there is none
  pub first_none : (at : ℕ) → at ≡ unwrap_or (lookup (same_node m.predecessor) firsts) place → place ≤ at
      → lookup (same_node m.predecessor) firsts ≡ None
  first_none at e more = was_new (lookup (same_node m.predecessor) firsts) at place e more
      (first_before m.predecessor)

  pub later_none : (at : ℕ) → at ≡ unwrap_or (lookup (same_node (seal_of state m)) others) place
      → place ≤ at
      → lookup (same_node (seal_of state m)) others ≡ None
  later_none at e more = was_new (lookup (same_node (seal_of state m)) others) at place e more
      (later_before (seal_of state m))

  alone : lookup (same_node m.predecessor) firsts ≡ None → has_predecessor ms m ≡ false
  alone e = sym (some_place 0 m.predecessor ms) ∙ ap is_some (sym first_look ∙ e)

  follows : (at : ℕ) → place_from 0 m.predecessor ms ≡ Some at → has_predecessor ms m ≡ true
  follows at e = sym (some_place 0 m.predecessor ms) ∙ ap is_some e

  -- a marker whose predecessor has no place is new
  pub is_new : lookup (same_node m.predecessor) firsts ≡ None → is_in ms m ≡ false
  is_new e = none_there ms m (alone e)

  -- and one that has no place by its seal, where the first of its predecessor is another
  pub is_later_new : (d : Marker A) (first : ℕ) → place_from 0 m.predecessor ms ≡ Some first
      → is_same (get_or ms first d) m ≡ false → lookup (same_node (seal_of state m)) others ≡ None
      → is_in ms m ≡ false
  is_later_new d first e apart none =
      not_there (seal_of state) ms m d first e apart (sym later_look ∙ none)

  distinct_more : (new : List (Marker A)) → new ≡ ms ++ m ∷ [] → is_in ms m ≡ false → IsDistinct is_same new
  distinct_more new e apart = subst (λ (l : List (Marker A)). IsDistinct is_same l) (sym e)
      (IsDistinct-push same_equiv ms m kept.distinct apart)

  module _ (noted : List (Node × ℕ)) where
    -- the first of its predecessor is added
    pub first_added : (new : List (Marker A)) → Notes firsts noted m.predecessor place
        → new ≡ ms ++ m ∷ [] → lookup (same_node m.predecessor) firsts ≡ None
        → AreKept state new noted others
    first_added new notes e none = record {
      firsts_found = λ node. notes node
          ∙ added ms new m place (lookup (same_node node) firsts) node e size (kept.firsts_found node);
      others_found = λ node. kept.others_found node ∙ sym (ap (later_from (seal_of state) [] 0 node) e
          ∙ later_skipped (seal_of state) ms m node (alone none));
      distinct = distinct_more new e (is_new none);
    }

    -- or is not, and is forgotten
    pub first_unnoted : (left : List (Node × ℕ)) → Notes firsts noted m.predecessor place
        → ((node : Node) → lookup (same_node node) left
        ≡ without (same_node node m.predecessor) place (lookup (same_node node) noted))
        → AreKept state ms left others
    first_unnoted left notes forgets = record {
      firsts_found = λ node. forgets node
          ∙ ap (without (same_node node m.predecessor) place) (notes node)
          ∙ unnoted (same_node node m.predecessor) place (lookup (same_node node) firsts)
          (first_before node)
          ∙ kept.firsts_found node;
      others_found = kept.others_found;
      distinct = kept.distinct;
    }

    -- another is added
    pub later_added : (new : List (Marker A)) (at : ℕ) → Notes others noted (seal_of state m) place
        → new ≡ ms ++ m ∷ [] → place_from 0 m.predecessor ms ≡ Some at → is_in ms m ≡ false
        → AreKept state new firsts noted
    later_added new at notes e first apart = record {
      firsts_found = λ node.
          sym (stays (λ n. lookup (same_node n) firsts) m.predecessor at place node (first_look ∙ first))
          ∙ added ms new m place (lookup (same_node node) firsts) node e size (kept.firsts_found node);
      others_found = λ node. notes node
          ∙ ap (λ (found : Option ℕ). or_else found
          (cond (same_node node (seal_of state m)) (Some place) None))
          (kept.others_found node)
          ∙ ap (λ (n : ℕ). or_else (later_from (seal_of state) [] 0 node ms)
          (cond (same_node node (seal_of state m)) (Some n) None)) size
          ∙ sym (ap (later_from (seal_of state) [] 0 node) e
          ∙ later_noted (seal_of state) ms m node (follows at first));
      distinct = distinct_more new e apart;
    }

    pub later_unnoted : (left : List (Node × ℕ)) → Notes others noted (seal_of state m) place
        → ((node : Node) → lookup (same_node node) left
        ≡ without (same_node node (seal_of state m)) place (lookup (same_node node) noted))
        → AreKept state ms firsts left
    later_unnoted left notes forgets = record {
      firsts_found = kept.firsts_found;
      others_found = λ node. forgets node
          ∙ ap (without (same_node node (seal_of state m)) place) (notes node)
          ∙ unnoted (same_node node (seal_of state m)) place (lookup (same_node node) others)
          (later_before node)
          ∙ kept.others_found node;
      distinct = kept.distinct;
    }

    pub later_stays : (at : ℕ) → Notes others noted (seal_of state m) place
        → at ≡ unwrap_or (lookup (same_node (seal_of state m)) others) place → at < place
        → AreKept state ms firsts noted
    later_stays at notes e less = record {
      firsts_found = kept.firsts_found;
      others_found = λ node. notes node
          ∙ stays (λ n. lookup (same_node n) others) (seal_of state m) at place node
          (was_there (lookup (same_node (seal_of state m)) others) at place e less)
          ∙ kept.others_found node;
      distinct = kept.distinct;
    }

-- the last marker is dropped
pub kept_dropped : {A : Type 0} (state : RandomState) (old new : List (Marker A)) (m : Marker A) (place : ℕ)
    (firsts others firsts_left others_left : List (Node × ℕ)) → AreKept state old firsts others
    → old ≡ new ++ m ∷ [] → place ≡ length new
    → ((node : Node) → lookup (same_node node) firsts_left
    ≡ without (same_node node m.predecessor) place (lookup (same_node node) firsts))
    → ((node : Node) → lookup (same_node node) others_left
    ≡ without (same_node node (seal_of state m)) place (lookup (same_node node) others))
    → AreKept state new firsts_left others_left
kept_dropped {A} state old new m place firsts others firsts_left others_left kept e size first later =
    record {
      firsts_found = λ node. first node
          ∙ dropped old new m place (lookup (same_node node) firsts) node e size (kept.firsts_found node);
      others_found = λ node. later node
          ∙ ap (λ (n : ℕ). without (same_node node (seal_of state m)) n (lookup (same_node node) others)) size
          ∙ ap (without (same_node node (seal_of state m)) (length new)) (kept.others_found node
          ∙ ap (later_from (seal_of state) [] 0 node) e)
          ∙ later_forgotten (seal_of state) new m node;
      distinct = distinct_front new m (subst (λ (l : List (Marker A)). IsDistinct is_same l) e kept.distinct);
    }
