-- What proofs of callers may cite: this module alone.
pub use Rattle.hg_params.proofs.EveryReading.{every_header, every_params_text}
pub use Rattle.hg_params.proofs.HeaderLaws.{one_value, no_fault, one_fault}
pub use Rattle.hg_params.proofs.Pieces.{one_list, no_params_fault, one_params_fault}
pub use Rattle.hg_params.proofs.SizeLaws.{header_small}
pub use Rattle.hg_params.proofs.WritingLaws.{read_back}
