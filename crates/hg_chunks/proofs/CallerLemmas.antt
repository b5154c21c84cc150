-- What proofs of callers may cite: this module alone.
pub use Rattle.hg_chunks.proofs.EveryReading.{every_reading_lem}
pub use Rattle.hg_chunks.proofs.Phases.{open_while_reading}
pub use Rattle.hg_chunks.proofs.Sizes.{fronts, size_is, one_size_lem}
