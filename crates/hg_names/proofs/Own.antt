-- The pairs of a block.
use Rattle.std.proofs.Common.{◌≡◌, ℕ, ◌+◌, ◌<◌, List, length, get_or, take, sym, ap, ◌∙◌, Result, Ok, Err, OnOk, OnErr}
use Rattle.std.proofs.Common.{[], cond, is_ok, arith, vec_len}
use Rattle.std.specs.List.{flat_map}
use Rattle.std.proofs.lemmas.Grind.{common_steps}
use Rattle.std.proofs.lemmas.List.{get_or_read, nil_from_length}
use Rattle.std.proofs.lemmas.List.Concat.{get_or-flat_map}
use Rattle.std.proofs.lemmas.List.Folds.{length-flat_map-take}
use Rattle.hg_types.specs.declared.node.Node.{Node}
use Rattle.hg_names.specs.declared.blocks.Block.{Block}
use Rattle.hg_names.specs.Names.{Pairs}
use Rattle.hg_names.specs.code.Blocks.{pairs_in, place_at, IsSpot}

abbrev pub items : {A : Type 0} → Block A → Pairs
items block = block.pairs.items

-- a pair that was read of a block is at its place among all pairs
pub read_of : {A : Type 0} (blocks : List (Block A)) (b i : ℕ) (block : Block A) (pair : List ℕ × Node)
    → b < length blocks → block ≡ get_or blocks b block → i < length (items block)
    → pair ≡ get_or (items block) i pair → (d : List ℕ × Node)
    → pair ≡ get_or (flat_map items blocks) (length (flat_map items (take b blocks)) + i) d
read_of {A} blocks b i block pair within is lt read d =
    let lt_own : i < length (items (get_or blocks b block)) = rw (sym is) lt in
    get_or_read (items block) i pair lt read d ∙ ap (λ (own : Block A). get_or (items own) i d) is
    ∙ sym (get_or-flat_map items blocks b i block d within lt_own)

-- a spot is at a place that there is
pub in_range : {A : Type 0} (blocks : List (Block A)) (block : Block A) (spot : ℕ × ℕ) → IsSpot blocks spot
    → place_at blocks spot < length (pairs_in blocks)
in_range blocks block spot is_spot =
    omega (arith, length-flat_map-take items blocks spot.0 block is_spot.block, is_spot.within block)

-- a fact that holds in any case holds after an error
pub on_err : {X E : Type 0} (r : Result X E) (P : Type 0) → P → OnErr r P
on_err (Ok x) P holds = tt
on_err (Err e) P holds = holds

-- what follows from a fact that holds where a call succeeded
pub ok_map : {X E : Type 0} (r : Result X E) (P Q : Type 0) → (P → Q) → OnOk r P → OnOk r Q
ok_map (Ok x) P Q f holds = f holds
ok_map (Err e) P Q f holds = tt

-- what is so where a call succeeded, after one that did
pub where_ok : {X E L : Type 0} (r : Result X E) (x : X) (new same : List L) → r ≡ Ok x
    → cond (is_ok r) new same ≡ new
where_ok {X} {E} r x new same is = ap (λ (s : Result X E). cond (is_ok s) new same) is

-- a block whose vector has no items
pub none_left : {A : Type 0} (block : Block A) → vec_len block.pairs ≡ 0 → items block ≡ []
none_left block none = nil_from_length (items block) (grind (arith, common_steps, none))

-- what follows both where a call succeeded and where it failed
pub either_way : {X E : Type 0} (r : Result X E) (P Q R : Type 0) → (P → R) → (Q → R) → OnOk r P → OnErr r Q → R
either_way (Ok x) P Q R f g ok err = f ok
either_way (Err e) P Q R f g ok err = g err
