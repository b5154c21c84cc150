-- What proofs of callers may cite: this module alone.
pub use Rattle.hg_store_tools.proofs.Headers.{Stands, stands_named}
