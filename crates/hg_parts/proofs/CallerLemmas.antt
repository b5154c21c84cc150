-- What proofs of callers may cite: this module alone. How stores grow, what stays sound in them, and the
-- way back.
pub use Rattle.hg_parts.proofs.Growing.{grown_same, grown_on, sound_none, sound_saved, sound_unsaved}
pub use Rattle.hg_parts.proofs.Growing.{can_go_back_on}
