-- When two markers are equal, and what a hasher is fed of one.
use Rattle.std.specs.Prelude.{◌≡◌, ℕ, Bool, true, false, List, ◌∷◌, ◌++◌, ◌&&◌, nat_eq, length, map}
use Rattle.std.proofs.Common.{ap, eqb-true, eq-eqb}
use Rattle.std.specs.Cmp.{first_so, second_so}
use Rattle.std.specs.Bool.{Decides}
use Rattle.std.specs.Cmp.Lexicographic.{pointwise, pointwise_decides, bytes_decides}
use Rattle.std.specs.Hash as fed
use Rattle.hg_types.specs.declared.node.Node.{Node}
use Rattle.hg_obs.specs.declared.marker.Marker.{Marker}

-- the ids have the same bytes
abbrev pub same_node : Node → Node → Bool
same_node a b = pointwise nat_eq a.0 b.0

-- all fields are the same
abbrev pub is_same : {A : Type 0} → Marker A → Marker A → Bool
is_same a b = same_node a.predecessor b.predecessor && nat_eq a.flags b.flags
    && pointwise same_node a.successors b.successors && pointwise nat_eq a.meta b.meta

-- the flags, the predecessor, the metadata after its length, and each successor
abbrev pub marker_writes : {A : Type 0} → Marker A → List (List ℕ)
marker_writes m = fed.u8 m.flags ++ m.predecessor.0 ∷ fed.usize (length m.meta) ++ m.meta
    ∷ map (λ node. node.0) m.successors

nat_eq_decides : (a b : ℕ) → Decides (nat_eq a b) (a ≡ b)
nat_eq_decides a b = (λ h. eqb-true a b h, λ e. eq-eqb a b e)

both : (p q : Bool) → p ≡ true → q ≡ true → (p && q) ≡ true
both true q h k = k
both false q h k = h

-- the test of two ids is their equality
pub same_node_decides : (a b : Node) → Decides (same_node a b) (a ≡ b)
same_node_decides a b = (
  λ h. ap (λ (id : List ℕ). record { 0 = id }) ((bytes_decides a.0 b.0).0 h),
  λ e.
      (bytes_decides a.0 b.0).1 (ap (λ (n : Node). n.0) e),
)

-- what decides whether all fields are the same decides whether the markers are
pub is_same_decides : {A : Type 0} → (a b : Marker A) → Decides (is_same a b) (a ≡ b)
is_same_decides {A} a b =
    let predecessors = same_node_decides a.predecessor b.predecessor in
    let flags = nat_eq_decides a.flags b.flags in
    let successors = pointwise_decides same_node_decides a.successors b.successors in
    let metas = bytes_decides a.meta b.meta in (
      λ h.
          let upto_successors =
          first_so (same_node a.predecessor b.predecessor && nat_eq a.flags b.flags
          && pointwise same_node a.successors b.successors) (pointwise nat_eq a.meta b.meta) h in
          let upto_flags =
          first_so (same_node a.predecessor b.predecessor
          && nat_eq a.flags b.flags) (pointwise same_node a.successors b.successors) upto_successors in
          let p : a.predecessor ≡ b.predecessor =
          predecessors.0 (first_so (same_node a.predecessor b.predecessor)
          (nat_eq a.flags b.flags) upto_flags) in
          let f : a.flags ≡ b.flags =
          flags.0 (second_so (same_node a.predecessor b.predecessor)
          (nat_eq a.flags b.flags) upto_flags) in
          let s : a.successors ≡ b.successors =
          successors.0 (second_so (same_node a.predecessor b.predecessor
          && nat_eq a.flags b.flags) (pointwise same_node a.successors b.successors) upto_successors) in
          let m : a.meta ≡ b.meta =
          metas.0 (second_so (same_node a.predecessor b.predecessor && nat_eq a.flags b.flags
          && pointwise same_node a.successors b.successors) (pointwise nat_eq a.meta b.meta) h) in
          λ i. record { successors = s i; flags = f i; predecessor = p i; meta = m i },
      λ e.
          both _ _ (both _ _ (both _ _ (predecessors.1 (ap (λ (m : Marker A). m.predecessor) e))
          (flags.1 (ap (λ (m : Marker A). m.flags) e)))
          (successors.1 (ap (λ (m : Marker A). m.successors) e))) (metas.1 (ap (λ (m : Marker A). m.meta) e)),
    )
