-- A place in the index map is a row of that id.
use Rattle.std.proofs.Common.{cond, Option, ◌≡◌, ℕ, ◌<◌, Bool, true, false, List, [], ◌∷◌, Some, None}
use Rattle.std.proofs.Common.{slice_get, map, get_or, length, option_map, rules, refl, sym, ap, ◌∙◌, arith}
use Rattle.std.specs.List.{position, AllByRecursion}
use Rattle.std.proofs.lemmas.List.Elements.{All-from_recursion, recursion_from_All}
use Rattle.indexmap.proofs.MapLemmas.{Missing-position}
use Rattle.std.specs.Map.{lookup}
use Rattle.std.proofs.lemmas.List.Quantifiers.{position-Some}
use Rattle.std.proofs.lemmas.List.{get_or-map, length-map}
use Rattle.std.proofs.lemmas.Option.{slice_get-get_or, slice_get-map}
use Rattle.hg_types.specs.declared.node.Node.{Node}
use Rattle.hg_types.specs.contracts.node.NodePartialEq.TheImpl as eq
use Rattle.hg_log.specs.declared.changelog.Row.{Row}
use Rattle.hg_log.specs.Changeset.{Changeset}
use Rattle.hg_log.specs.code.Inside.{changeset, rows_of}
use Rattle.hg_log.specs.Rows.{HasNode, LacksNode}

-- an entry, where one is found
first_of_some : {A : Type 0} (es : List (Node × Row A)) (i : ℕ) (test : Node → Bool)
    → position test (map (λ (e : Node × Row A). e.0) es) ≡ Some i → Node × Row A
first_of_some {A} [] i test at = absurd cc
first_of_some {A} (e ∷ es) i test at = e

pub found : {A : Type 0} (test : Node → Bool) (node : List ℕ) (es : List (Node × Row A)) (i : ℕ)
    → ((k : Node) → test k ≡ true → k.0 ≡ node)
    → position test (map (λ (e : Node × Row A). e.0) es) ≡ Some i → HasNode (rows_of es) i node
found {A} test node es i same at =
    let d = first_of_some es i test at in
    let p = position-Some test (map (λ (e : Node × Row A). e.0) es) i d.0 at in
    let within : i < length es = omega (arith, p.0, length-map es (λ (e : Node × Row A). e.0)) in
    let key : get_or (map (λ (e : Node × Row A). e.0) es) i d.0 ≡ (get_or es i d).0 = get_or-map
    (λ (e : Node × Row A). e.0) es i d d.0 within in
    let row : slice_get (rows_of es) i ≡ Some (get_or (rows_of es) i (changeset d)) = slice_get-get_or
    (rows_of es) i (changeset d) (omega (arith, within, length-map es changeset)) in
    let seen : get_or (rows_of es) i (changeset d) ≡ changeset (get_or es i d) = get_or-map changeset es i d
    (changeset d) within in
    record {
      row = changeset (get_or es i d);
      row_at = row ∙ ap (λ (r : Changeset). Some r) seen;
      node_is = sym (ap (λ (n : Node). n.0) key)
          ∙ same (get_or (map (λ (e : Node × Row A). e.0) es) i d.0) p.1;
    }

split_none : {V : Type 0} (b : Bool) (v : V) (o : Option V) → cond b (Some v) o ≡ None → (b ≡ false)
    × (o ≡ None)
split_none true v o at = absurd cc
split_none false v o at = (refl, at)

none_each : {A : Type 0} (test : Node → Bool) (es : List (Node × Row A)) → lookup test es ≡ None
    → AllByRecursion (λ e. test e.0 ≡ false) es
none_each {A} test [] at = tt
none_each {A} test (e ∷ es) at = let s = split_none (test e.0) e.1 (lookup test es) at in
    (s.0, none_each test es s.1)

lacks_each : {A : Type 0} (test : Node → Bool) (node : List ℕ) (es : List (Node × Row A))
    → ((k : Node) → k.0 ≡ node → test k ≡ true) → AllByRecursion (λ e. test e.0 ≡ false) es
    → AllByRecursion (λ row. row.node ≡ node → ⊥) (rows_of es)
lacks_each {A} test node [] same none = tt
lacks_each {A} test node (e ∷ es) same none = (
  (λ is. let yes : test e.0 ≡ true = same e.0 is in let no : test e.0 ≡ false = none.0 in cc),
  lacks_each test node es same none.1,
)

pub lacks : {A : Type 0} (test : Node → Bool) (node : List ℕ) (es : List (Node × Row A))
    → ((k : Node) → k.0 ≡ node → test k ≡ true) → position test (map (λ (e : Node × Row A). e.0) es) ≡ None
    → LacksNode (rows_of es) node
lacks {A} test node es same at =
    All-from_recursion _ (rows_of es)
    (lacks_each test node es same (none_each test es (Missing-position test es at).value))

-- the row at the place of an entry
pub row_at : {A : Type 0} (es : List (Node × Row A)) (i : ℕ) (e : Node × Row A) → slice_get es i ≡ Some e
    → slice_get (rows_of es) i ≡ Some (changeset e)
row_at {A} es i e at = slice_get-map (λ (x : Node × Row A). changeset x) es i
    ∙ ap (option_map (λ (x : Node × Row A). changeset x)) at

-- `==` on ids compares their bytes
pub same_id : (a b : Node) → eq.eq-value.it a b ≡ true → b.0 ≡ a.0
same_id a b is = search rules

pub id_same : (a b : Node) → b.0 ≡ a.0 → eq.eq-value.it a b ≡ true
id_same a b is = search rules

-- an id that no row has is not found
absent_each : {A : Type 0} (node : Node) (es : List (Node × Row A))
    → AllByRecursion (λ row. row.node ≡ node.0 → ⊥) (rows_of es) → lookup (eq.eq-value.it node) es ≡ None
absent_each {A} node [] none = refl
absent_each {A} node (e ∷ es) none = by (eq.eq-value.it node e.0) refl (absent_each node es none.1)
  where
    by : (b : Bool) → eq.eq-value.it node e.0 ≡ b → lookup (eq.eq-value.it node) es ≡ None
        → lookup (eq.eq-value.it node) (e ∷ es) ≡ None
    by true is rest = absurd (none.0 (same_id node e.0 is))
    by false is rest = ap (λ c. cond c (Some e.1) (lookup (eq.eq-value.it node) es)) is ∙ rest

pub absent : {A : Type 0} (node : Node) (es : List (Node × Row A)) → LacksNode (rows_of es) node.0
    → lookup (eq.eq-value.it node) es ≡ None
absent {A} node es none = absent_each node es (recursion_from_All _ (rows_of es) none)
