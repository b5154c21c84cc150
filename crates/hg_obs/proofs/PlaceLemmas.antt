-- The place of the first marker of each predecessor.
use Rattle.std.proofs.Common.{◌≡◌, ◌+◌, ◌<◌, ◌==◌, ◌||◌, ℕ, suc, Bool, true, false, cond, Option, Some}
use Rattle.std.proofs.Common.{None, is_some, List, [], ◌∷◌, ◌++◌, length, unwrap_or, refl, sym}
use Rattle.std.proofs.Common.{ap, ◌∙◌, arith, eq-eqb, ne_eqb, true≢false, eqb-true, nat_eq}
use Rattle.std.specs.Option.{option_eq}
use Rattle.std.specs.Cmp.{IsEquivalence, decided}
use Rattle.std.specs.List.{list_any}
use Rattle.std.specs.Map.{lookup}
use Rattle.std.proofs.lemmas.List.Folds.{Any-from_list_any, list_any-from_Any}
use Rattle.hg_types.specs.declared.node.Node.{Node}
use Rattle.hg_obs.specs.declared.marker.Marker.{Marker}
use Rattle.hg_obs.specs.Same.{same_node, same_node_decides}
use Rattle.hg_obs.specs.Markers.{IsPredecessor}
use Rattle.hg_obs.specs.code.Places.{place_from, or_else, without}

pub same_node_equiv : IsEquivalence same_node
same_node_equiv = decided same_node same_node_decides

or_else_none : (found : Option ℕ) → or_else found None ≡ found
or_else_none None = refl
or_else_none (Some place) = refl

or_else_some : (found after : Option ℕ) → is_some found ≡ true → or_else found after ≡ found
or_else_some None after e = absurd (true≢false (sym e))
or_else_some (Some place) after e = refl

none_is : {X : Type 0} (found : Option X) → is_some found ≡ false → found ≡ None
none_is None e = refl
none_is (Some x) e = absurd (true≢false e)

module _ (old new : List (Node × ℕ)) (predecessor : Node) (place : ℕ) (node : Node) where
  -- the look-up, by whether the id is the predecessor
  same_look : same_node node predecessor ≡ true
      → lookup (same_node node) old ≡ lookup (same_node predecessor) old
  same_look e = ap (λ (n : Node). lookup (same_node n) old) ((same_node_decides node predecessor).0 e)

  pub noted_new : is_some (lookup (same_node predecessor) old) ≡ false
      → lookup (same_node node) new ≡ cond (same_node predecessor node) (Some place)
      (lookup (same_node node) old)
      → lookup (same_node node) new ≡ or_else (lookup (same_node node) old)
      (cond (same_node node predecessor) (Some place) None)
  noted_new absent h = h ∙ ap (λ (c : Bool). cond c (Some place) (lookup (same_node node) old))
      (same_node_equiv.symm predecessor node) ∙ by (same_node node predecessor) refl
    where
      by : (b : Bool) → same_node node predecessor ≡ b
          → cond b (Some place) (lookup (same_node node) old) ≡ or_else (lookup (same_node node) old)
          (cond b (Some place) None)
      by true e = sym (ap (λ (o : Option ℕ). or_else o (Some place)) (same_look e
          ∙ none_is (lookup (same_node predecessor) old) absent))
      by false e = sym (or_else_none (lookup (same_node node) old))

  pub noted_before : is_some (lookup (same_node predecessor) old) ≡ true
      → lookup (same_node node) old ≡ or_else (lookup (same_node node) old)
      (cond (same_node node predecessor) (Some place) None)
  noted_before there = by (same_node node predecessor) refl
    where
      by : (b : Bool) → same_node node predecessor ≡ b
          → lookup (same_node node) old ≡ or_else (lookup (same_node node) old) (cond b (Some place) None)
      by true e = sym (or_else_some (lookup (same_node node) old) (Some place) (ap is_some (same_look e)
          ∙ there))
      by false e = sym (or_else_none (lookup (same_node node) old))

  -- what an entry of the predecessor leaves, where a value that is there stays
  pub noted_first : (found : Option ℕ) → lookup (same_node predecessor) old ≡ found
      → lookup (same_node node) new ≡ cond (same_node predecessor node) (Some (unwrap_or found place))
      (lookup (same_node node) old)
      → lookup (same_node node) new ≡ or_else (lookup (same_node node) old)
      (cond (same_node node predecessor) (Some place) None)
  noted_first None e h = noted_new (ap is_some e) h
  noted_first (Some first) e h = h ∙ by (same_node node predecessor) refl ∙ noted_before (ap is_some e)
    where
      by : (b : Bool) → same_node node predecessor ≡ b
          → cond (same_node predecessor node) (Some first) (lookup (same_node node) old) ≡ lookup
          (same_node node) old
      by true k = ap (λ (c : Bool). cond c (Some first) (lookup (same_node node) old))
          (same_node_equiv.symm predecessor node ∙ k) ∙ sym (same_look k ∙ e)
      by false k = ap (λ (c : Bool). cond c (Some first) (lookup (same_node node) old))
          (same_node_equiv.symm predecessor node ∙ k)

  pub forgotten_last : lookup (same_node predecessor) old ≡ Some place
      → lookup (same_node node) new ≡ cond (same_node predecessor node) None (lookup (same_node node) old)
      → lookup (same_node node) new ≡ without (same_node node predecessor) place (lookup (same_node node) old)
  forgotten_last found h =
      h ∙ ap (λ (c : Bool). cond c None (lookup (same_node node) old)) (same_node_equiv.symm predecessor node)
      ∙ by (same_node node predecessor) refl
    where
      by : (b : Bool) → same_node node predecessor ≡ b
          → cond b None (lookup (same_node node) old) ≡ without b place (lookup (same_node node) old)
      by true e = sym (ap (without true place) (same_look e ∙ found)
          ∙ ap (λ (c : Bool). cond c None (Some place)) (eq-eqb place place refl))
      by false e = refl

module _ {A : Type 0} where
  place-push : (from : ℕ) (node : Node) (ms : List (Marker A)) (m : Marker A)
      → place_from from node (ms ++ m ∷ []) ≡ or_else (place_from from node ms)
      (cond (same_node node m.predecessor) (Some (from + length ms)) None)
  place-push from node [] m = let e : from + 0 ≡ from = omega arith in
      ap (λ (n : ℕ). cond (same_node node m.predecessor) (Some n) None) (sym e)
  place-push from node (x ∷ xs) m = by (same_node node x.predecessor) (place-push (suc from) node xs m)
    where
      by : (b : Bool) → place_from (suc from) node (xs ++ m ∷ []) ≡ or_else (place_from (suc from) node xs)
          (cond (same_node node m.predecessor) (Some (suc from + length xs)) None)
          → cond b (Some from) (place_from (suc from) node (xs ++ m ∷ [])) ≡ or_else
          (cond b (Some from) (place_from (suc from) node xs))
          (cond (same_node node m.predecessor) (Some (from + suc (length xs))) None)
      by true rest = refl
      by false rest =
          let e : suc from + length xs ≡ from + suc (length xs) = omega arith in
          rest ∙ ap (λ (n : ℕ). or_else (place_from (suc from) node xs)
          (cond (same_node node m.predecessor) (Some n) None)) e

  pub place_below : (from : ℕ) (node : Node) (ms : List (Marker A)) (place : ℕ)
      → place_from from node ms ≡ Some place → place < from + length ms
  place_below from node [] place e = absurd cc
  place_below from node (x ∷ xs) place e =
      by (same_node node x.predecessor) e (place_below (suc from) node xs place)
    where
      by : (b : Bool) → cond b (Some from) (place_from (suc from) node xs) ≡ Some place
          → (place_from (suc from) node xs ≡ Some place → place < suc from + length xs)
          → place < from + suc (length xs)
      by true h rest = let same : from ≡ place = cc in omega arith
      by false h rest = let less : place < suc from + length xs = rest h in omega arith

  -- the place of the last marker of a list is forgotten
  pub forgotten : (ms : List (Marker A)) (m : Marker A) (node : Node)
      → without (same_node node m.predecessor) (length ms) (place_from 0 node (ms ++ m ∷ [])) ≡ place_from 0
      node ms
  forgotten ms m node = ap (without (same_node node m.predecessor) (length ms)) (place-push 0 node ms m)
      ∙ by (same_node node m.predecessor) (place_from 0 node ms) refl
    where
      by : (b : Bool) (found : Option ℕ) → place_from 0 node ms ≡ found
          → without b (length ms) (or_else found (cond b (Some (0 + length ms)) None)) ≡ found
      by false None e = refl
      by false (Some place) e = refl
      by true None e =
          let same : ((0 + length ms) == length ms) ≡ true = eq-eqb (0 + length ms) (length ms)
          (omega arith) in
          ap (λ (c : Bool). cond c None (Some (0 + length ms))) same
      by true (Some place) e =
          let less : place < 0 + length ms = place_below 0 node ms place e in
          let other : (place == length ms) ≡ false = ne_eqb place (length ms) (omega arith) in
          ap (λ (c : Bool). cond c None (Some place)) other

  -- and noted
  pub noted : (ms : List (Marker A)) (m : Marker A) (node : Node)
      → place_from 0 node (ms ++ m ∷ []) ≡ or_else (place_from 0 node ms)
      (cond (same_node node m.predecessor) (Some (length ms)) None)
  noted ms m node =
      let e : 0 + length ms ≡ length ms = omega arith in
      place-push 0 node ms m ∙ ap (λ (n : ℕ). or_else (place_from 0 node ms)
      (cond (same_node node m.predecessor) (Some n) None)) e

  -- the same, of what a list was and is
  pub dropped : (old new : List (Marker A)) (m : Marker A) (n : ℕ) (found : Option ℕ) (node : Node)
      → old ≡ new ++ m ∷ [] → n ≡ length new → found ≡ place_from 0 node old
      → without (same_node node m.predecessor) n found ≡ place_from 0 node new
  dropped old new m n found node e h k =
      ap (λ (i : ℕ). without (same_node node m.predecessor) i found) h
      ∙ ap (without (same_node node m.predecessor) (length new)) (k ∙ ap (place_from 0 node) e)
      ∙ forgotten new m node

  pub added : (old new : List (Marker A)) (m : Marker A) (n : ℕ) (found : Option ℕ) (node : Node) → new ≡ old
      ++ m ∷ [] → n ≡ length old → found ≡ place_from 0 node old
      → or_else found (cond (same_node node m.predecessor) (Some n) None) ≡ place_from 0 node new
  added old new m n found node e h k =
      ap (λ (o : Option ℕ). or_else o (cond (same_node node m.predecessor) (Some n) None)) k
      ∙ ap (λ (i : ℕ). or_else (place_from 0 node old) (cond (same_node node m.predecessor) (Some i) None)) h
      ∙ sym (noted old m node) ∙ ap (place_from 0 node) (sym e)

  pub some_place : (from : ℕ) (node : Node) (ms : List (Marker A))
      → is_some (place_from from node ms) ≡ list_any (λ m. same_node node m.predecessor) ms
  some_place from node [] = refl
  some_place from node (x ∷ xs) = by (same_node node x.predecessor) (some_place (suc from) node xs)
    where
      by : (b : Bool) → is_some (place_from (suc from) node xs) ≡ list_any
          (λ m. same_node node m.predecessor) xs
          → is_some (cond b (Some from) (place_from (suc from) node xs)) ≡ (b
          || list_any (λ m. same_node node m.predecessor) xs)
      by true rest = refl
      by false rest = rest

  pub has_place : (node : Node) (ms : List (Marker A)) → is_some (place_from 0 node ms) ≡ true
      → IsPredecessor ms node
  has_place node ms e =
      let found = Any-from_list_any (λ (m : Marker A). same_node node m.predecessor) ms
      (sym (some_place 0 node ms) ∙ e) in
      (found.0, found.1, found.2, found.3, sym ((same_node_decides node found.1.predecessor).0 found.4))

  pub gets_place : (node : Node) (ms : List (Marker A)) → IsPredecessor ms node
      → is_some (place_from 0 node ms) ≡ true
  gets_place node ms found =
      some_place 0 node ms ∙ list_any-from_Any (λ (m : Marker A). same_node node m.predecessor) ms
      (found.0, found.1, found.2, found.3, (same_node_decides node found.1.predecessor).1 (sym found.4))

pub option_eq_some : (found : Option ℕ) (place : ℕ) → option_eq nat_eq found (Some place) ≡ true
    → found ≡ Some place
option_eq_some None place e = absurd (true≢false (sym e))
option_eq_some (Some other) place e = ap (λ (n : ℕ). Some n) (eqb-true other place e)
