-- What is read off a repository: the same in stores and in repositories, and predecessors of markers.
use Rattle.std.proofs.Common.{◌≡◌, ◌↔◌, Bool, IsTrue, List, ap}
use Rattle.std.specs.Cmp.{both_ways}
use Rattle.std.proofs.lemmas.List.Folds.{Any-from_list_any, list_any-from_Any}
use Rattle.hg_types.specs.declared.limits.Settings.{Settings}
use Rattle.hg_types.specs.declared.node.Node.{Node}
use Rattle.hg_obs.specs.declared.marker.Marker.{Marker}
use Rattle.hg_obs.specs.Markers.{IsPredecessor}
use Rattle.hg_obs.specs.Same.{same_node, same_node_decides}
use Rattle.hg_parts.specs.declared.store.Store.{Store}
use Rattle.hg_parts.specs.Repository.{Repository}
use Rattle.hg_parts.specs.Store.{repository_of}
use Rattle.hg_repo.specs.Reading.{is_predecessor, IsSame}
use Rattle.hg_repo.specs.code.Same.{HoldSame}

module _ {A : Type 0} where
  pub predecessor_test : (b : Bool) (markers : List (Marker A)) (node : Node)
      → (IsTrue b ↔ IsPredecessor markers node) → b ≡ is_predecessor markers node
  predecessor_test b markers node says = both_ways b (is_predecessor markers node)
      (λ yes. let found = says.0 yes in
      list_any-from_Any (λ (marker : Marker A). same_node marker.predecessor node) markers
      (found.0, found.1, found.2, found.3, (same_node_decides found.1.predecessor node).1 found.4))
      (λ yes. let found = Any-from_list_any (λ (marker : Marker A). same_node marker.predecessor node) markers
      yes in
      says.1 (found.0, found.1, found.2, found.3, (same_node_decides found.1.predecessor node).0 found.4))

  -- what two stores hold is the same where their repositories are
  pub same_of : (settings others : Settings) (store other : Store A) → HoldSame store other
      → IsSame (repository_of settings store) (repository_of others other)
  same_of settings others store other same =
      let rows = same.rows in
      let phases = same.phases in
      let markers = same.markers in
      let bookmarks = same.bookmarks in
      λ i. record {
        settings = settings;
        rows = rows i;
        phases = phases i;
        markers = markers i;
        bookmarks = bookmarks i;
      }

  pub held_of : (settings others : Settings) (store other : Store A)
      → IsSame (repository_of settings store) (repository_of others other) → HoldSame store other
  held_of settings others store other is = record {
    rows = ap (λ (r : Repository A). r.rows) is;
    phases = ap (λ (r : Repository A). r.phases) is;
    markers = ap (λ (r : Repository A). r.markers) is;
    bookmarks = ap (λ (r : Repository A). r.bookmarks) is;
  }
