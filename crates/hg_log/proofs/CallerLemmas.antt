-- What proofs of callers may cite: this module alone. The laws of parents, children and ancestors, and of lists
-- of heads.
pub use Rattle.hg_log.proofs.ParentLemmas.{ordered, parents_kept, leads_on, not_later, leads_test, leads_same}
pub use Rattle.hg_log.proofs.ParentLemmas.{leads_ancestor, ancestor_leads, ancestor_test}
pub use Rattle.hg_log.proofs.SameIds.{same_distinct}
pub use Rattle.hg_log.proofs.HeadLists.{heads_told, told_heads}
pub use Rattle.hg_log.proofs.Children.{before_some, before_nobody}
