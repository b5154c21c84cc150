-- The standing of a row: its phase, and of which phases it is a root.
use Rattle.std.specs.Prelude.{ℕ, ◌+◌, Bool, true, false, List, [], ◌∷◌, map, slice_index_or, if◌then◌else◌}
use Rattle.hg_types.specs.declared.phase.Phase.{Phase}
use Rattle.hg_types.specs.declared.phase.Phase.TheVariants.{Public, Draft, Secret}
use Rattle.hg_phases.specs.declared.standing.Standing.{Standing}
use Rattle.hg_phases.specs.declared.standing.Standing.TheVariants.{PublicOnPublic, DraftOnPublic}
use Rattle.hg_phases.specs.declared.standing.Standing.TheVariants.{DraftOnDraft, SecretOnPublic}
use Rattle.hg_phases.specs.declared.standing.Standing.TheVariants.{SecretOnDraft, SecretOnSecret}

-- that of a row in a phase, whose parents' greatest phase comes second
abbrev pub standing_of : Phase → Phase → Standing
standing_of Public above = PublicOnPublic
standing_of Draft Public = DraftOnPublic
standing_of Draft Draft = DraftOnDraft
standing_of Draft Secret = DraftOnDraft
standing_of Secret Public = SecretOnPublic
standing_of Secret Draft = SecretOnDraft
standing_of Secret Secret = SecretOnSecret

-- the row's phase
abbrev pub phase_told : Standing → Phase
phase_told PublicOnPublic = Public
phase_told DraftOnPublic = Draft
phase_told DraftOnDraft = Draft
phase_told SecretOnPublic = Secret
phase_told SecretOnDraft = Secret
phase_told SecretOnSecret = Secret

-- the phase of each row
abbrev pub phases_told : List Standing → List Phase
phases_told rows = map phase_told rows

-- a row that is draft or more, with public parents alone
abbrev pub is_draft_root : Standing → Bool
is_draft_root PublicOnPublic = false
is_draft_root DraftOnPublic = true
is_draft_root DraftOnDraft = false
is_draft_root SecretOnPublic = true
is_draft_root SecretOnDraft = false
is_draft_root SecretOnSecret = false

-- a secret row without a secret parent
abbrev pub is_secret_root : Standing → Bool
is_secret_root PublicOnPublic = false
is_secret_root DraftOnPublic = false
is_secret_root DraftOnDraft = false
is_secret_root SecretOnPublic = true
is_secret_root SecretOnDraft = true
is_secret_root SecretOnSecret = false

-- whether the row is a root of a phase
abbrev pub is_told : Phase → Standing → Bool
is_told Public row = false
is_told Draft row = is_draft_root row
is_told Secret row = is_secret_root row

-- the roots among rows, of which the first has that number
unfoldable pub told_from : Phase → ℕ → List Standing → List ℕ
told_from target n [] = []
told_from target n (row ∷ rows) =
    if is_told target row then n ∷ told_from target (n + 1) rows else told_from target (n + 1) rows

-- the numbers of the rows that are roots of that phase
abbrev pub told : Phase → List Standing → List ℕ
told target rows = told_from target 0 rows

-- the standing of a row; one that is not there counts as public
abbrev pub standing_at : List Standing → ℕ → Standing
standing_at rows r = slice_index_or rows r PublicOnPublic
