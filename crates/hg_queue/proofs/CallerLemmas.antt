-- What proofs of callers may cite: this module alone.
pub use Rattle.hg_queue.proofs.Facts.{Knows, knows, taken_by, stands_at}
pub use Rattle.hg_queue.proofs.Lists.{has_here, prefix_longer, items_settle, get_front, get_end}
