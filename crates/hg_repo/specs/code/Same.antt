-- What it is to code that two repositories hold the same.
use Rattle.std.specs.Prelude.{◌≡◌}
use Rattle.hg_parts.specs.declared.store.Store.{Store}

-- all is equal in both stores, but for savepoints
pub record HoldSame {A : Type 0} (store other : Store A) : Type 0 where
  pub rows : store.log.rows ≡ other.log.rows
  pub phases : store.phases.current.phases ≡ other.phases.current.phases
  pub markers : store.markers ≡ other.markers
  pub bookmarks : store.bookmarks.current ≡ other.bookmarks.current
