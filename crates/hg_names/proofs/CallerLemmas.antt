-- What proofs of other crates may cite of names.
pub use Rattle.hg_names.proofs.OrderLemmas.{turned, names_equal, before_all, not_before_itself, is_other}
pub use Rattle.hg_names.proofs.InOrder.{in_order_with, in_order_without}
