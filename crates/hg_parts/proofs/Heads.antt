-- The entries of `phase-heads`, those of one phase together.
use Rattle.std.proofs.Common.{◌≡◌, ℕ, ◌+◌, ◌<◌, List, [], ◌∷◌, ◌++◌, length, take, get_or}
use Rattle.std.proofs.Common.{Option, Some, None, refl, sym, ap, ◌∙◌}
use Rattle.std.specs.List.{filter_map, cons_option}
use Rattle.std.specs.Option.{option_to_list}
use Rattle.hg_types.specs.declared.node.Node.{Node}
use Rattle.hg_types.specs.declared.phase.Phase.{Phase}
use Rattle.hg_types.specs.declared.phase.Phase.TheVariants.{Public, Draft, Secret}
use Rattle.hg_log.specs.Changeset.{Changeset}
use Rattle.hg_log.specs.Parents.{parents_of, rev_of}
use Rattle.hg_phases.specs.Phases.{advanced}
use Rattle.hg_phases.proofs.CallerLemmas.{advances_joined, advances_either, advances_none}
use Rattle.hg_parts.specs.parts.PhaseHeads.{advanced_by, advance_each}
use Rattle.hg_parts.specs.code.PhaseHeads.{head_in, heads_of, advanced_to}
use Rattle.hg_parts.proofs.Revs.{some_more}

-- the heads of one entry more
pub heads_more : (rows : List Changeset) (target : Phase) (entries : List (Phase × Node)) (i : ℕ)
    (d : Phase × Node) → i < length entries
    → heads_of rows target (take (i + 1) entries) ≡ heads_of rows target (take i entries)
    ++ option_to_list (head_in rows target (get_or entries i d))
unfolding heads_of
heads_more rows target entries i d within = some_more (head_in rows target) entries i d within

module _ (rows : List Changeset) where
  -- no heads of the first entry for another phase, and one head for its own
  first_heads : (target : Phase) (entry : Phase × Node) (entries : List (Phase × Node))
      → heads_of rows target (entry ∷ entries)
      ≡ option_to_list (head_in rows target entry) ++ heads_of rows target entries
  unfolding heads_of
  first_heads target entry entries = one (head_in rows target entry)
    where
      one : (o : Option ℕ) → cons_option o (filter_map (head_in rows target) entries)
          ≡ option_to_list o ++ filter_map (head_in rows target) entries
      one None = refl
      one (Some head) = refl

  -- the first entry, and then the others
  first_to : (target : Phase) (entry : Phase × Node) (entries : List (Phase × Node)) (phases : List Phase)
      → advanced_to rows target (entry ∷ entries) phases
      ≡ advanced_to rows target entries
      (advanced (parents_of rows) target (option_to_list (head_in rows target entry)) phases)
  first_to target entry entries phases =
      ap (λ (heads : List ℕ). advanced (parents_of rows) target heads phases)
      (first_heads target entry entries)
      ∙ sym (advances_joined (parents_of rows) target (option_to_list (head_in rows target entry))
      (heads_of rows target entries) phases)

  -- to each phase those of its entries
  abbrev pub in_phases : List (Phase × Node) → List Phase → List Phase
  in_phases entries phases =
      advanced_to rows Secret entries (advanced_to rows Draft entries (advanced_to rows Public entries phases))

  -- an entry of another phase may come first
  pass : (target other : Phase) (heads : List ℕ) (entries : List (Phase × Node)) (phases : List Phase)
      → advanced (parents_of rows) other heads (advanced_to rows target entries phases)
      ≡ advanced_to rows target entries (advanced (parents_of rows) other heads phases)
  pass target other heads entries phases =
      advances_either (parents_of rows) target other (heads_of rows target entries) heads phases

  -- an entry has no head for another phase
  skip : (target : Phase) (entry : Phase × Node) (entries : List (Phase × Node)) (phases : List Phase)
      → head_in rows target entry ≡ None
      → advanced_to rows target (entry ∷ entries) phases ≡ advanced_to rows target entries phases
  skip target entry entries phases is =
      first_to target entry entries phases
      ∙ ap (λ (o : Option ℕ). advanced_to rows target entries
      (advanced (parents_of rows) target (option_to_list o) phases)) is
      ∙ ap (advanced_to rows target entries) (advances_none (parents_of rows) target phases)

  public_first : (node : Node) (entries : List (Phase × Node)) (phases : List Phase)
      → in_phases ((Public, node) ∷ entries) phases ≡ in_phases entries (advanced_by rows phases (Public, node))
  public_first node entries phases =
      let entry : Phase × Node = (Public, node) in
      ap (λ (xs : List Phase). advanced_to rows Secret (entry ∷ entries)
      (advanced_to rows Draft (entry ∷ entries) xs)) (first_to Public entry entries phases)
      ∙ ap (advanced_to rows Secret (entry ∷ entries)) (skip Draft entry entries _ refl)
      ∙ skip Secret entry entries _ refl

  draft_first : (node : Node) (entries : List (Phase × Node)) (phases : List Phase)
      → in_phases ((Draft, node) ∷ entries) phases ≡ in_phases entries (advanced_by rows phases (Draft, node))
  draft_first node entries phases =
      let entry : Phase × Node = (Draft, node) in
      ap (λ (xs : List Phase). advanced_to rows Secret (entry ∷ entries)
      (advanced_to rows Draft (entry ∷ entries) xs)) (skip Public entry entries phases refl)
      ∙ ap (advanced_to rows Secret (entry ∷ entries)) (first_to Draft entry entries _
      ∙ ap (advanced_to rows Draft entries)
      (pass Public Draft (option_to_list (rev_of rows node.0)) entries phases))
      ∙ skip Secret entry entries _ refl

  secret_first : (node : Node) (entries : List (Phase × Node)) (phases : List Phase)
      → in_phases ((Secret, node) ∷ entries) phases ≡ in_phases entries (advanced_by rows phases (Secret, node))
  secret_first node entries phases =
      let entry : Phase × Node = (Secret, node) in
      ap (λ (xs : List Phase). advanced_to rows Secret (entry ∷ entries)
      (advanced_to rows Draft (entry ∷ entries) xs)) (skip Public entry entries phases refl)
      ∙ ap (advanced_to rows Secret (entry ∷ entries)) (skip Draft entry entries _ refl)
      ∙ first_to Secret entry entries _
      ∙ ap (advanced_to rows Secret entries)
      (pass Draft Secret (option_to_list (rev_of rows node.0)) entries (advanced_to rows Public entries phases)
      ∙ ap (advanced_to rows Draft entries)
      (pass Public Secret (option_to_list (rev_of rows node.0)) entries phases))

  first_in : (entry : Phase × Node) (entries : List (Phase × Node)) (phases : List Phase)
      → in_phases (entry ∷ entries) phases ≡ in_phases entries (advanced_by rows phases entry)
  first_in (Public, node) entries phases = public_first node entries phases
  first_in (Draft, node) entries phases = draft_first node entries phases
  first_in (Secret, node) entries phases = secret_first node entries phases

  none_to : (target : Phase) (phases : List Phase) → advanced_to rows target [] phases ≡ phases
  unfolding heads_of
  none_to target phases = advances_none (parents_of rows) target phases

  -- the entries in order give what those of each phase give together
  pub in_phases_each : (entries : List (Phase × Node)) (phases : List Phase)
      → in_phases entries phases ≡ advance_each rows entries phases
  in_phases_each [] phases = none_to Secret _ ∙ none_to Draft _ ∙ none_to Public phases
  in_phases_each (entry ∷ entries) phases =
      first_in entry entries phases ∙ in_phases_each entries (advanced_by rows phases entry)
