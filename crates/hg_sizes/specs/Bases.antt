-- On which bases the deltas of a push are, and which of these are known. What a delta copies of another base cannot be
-- told before the push runs, as another push may bring that base first.
--
-- A run passes over a changeset that is here already, without a look at its delta. So what a push gives an id is the text
-- of that id only where the id is its hash: then whoever brings a changeset with that id brings this text.
use Rattle.std.specs.Prelude.{ℕ, ◌+◌, nat_lt, Bool, List, [], ◌∷◌, Option, Some, None, Result, Ok, Err, bytes_eq, slice_get}
use Rattle.std.specs.Prelude.{if◌then◌else◌}
use Rattle.hg_types.specs.declared.entry.Entry.{Entry}
use Rattle.hg_types.specs.declared.node.Node.{Node}
use Rattle.hg_types.specs.NullId.{null_id}
use Rattle.hg_delta.specs.declared.fault.DeltaFault.{DeltaFault}
use Rattle.hg_delta.specs.Outcome.{outcome_of}
use Rattle.hg_log.specs.Changeset.{Changeset}
use Rattle.hg_log.specs.NodeId.{node_id_of}
use Rattle.hg_log.specs.Parents.{rev_of}
use Rattle.hg_sizes.specs.declared.weighing.Excess.{Excess}
use Rattle.hg_sizes.specs.declared.weighing.Excess.TheVariants.{UnknownBases}
use Rattle.hg_sizes.specs.Weights.{first_of, noted}

-- the text of a row, if there is one
abbrev pub row_text : Option Changeset → Option (List ℕ)
row_text None = None
row_text (Some row) = Some row.text

-- the text of the row of that number, if one is found
abbrev pub text_at : List Changeset → Option ℕ → Option (List ℕ)
text_at rows None = None
text_at rows (Some rev) = row_text (slice_get rows rev)

-- the text of the changeset with that id, where it is here
abbrev pub text_in : List Changeset → Node → Option (List ℕ)
text_in rows node = text_at rows (rev_of rows node.0)

-- the text that is noted under an id, where one is
abbrev pub text_noted : Option (Option (List ℕ)) → Option (List ℕ)
text_noted None = None
text_noted (Some text) = text

-- The text of a base: none of the null id, that of the changeset which is here, or else that of the first one of the push
-- with that id, where that is known.
abbrev pub base_text : List Changeset → (Node → Option (Option (List ℕ))) → Node → Option (List ℕ)
base_text rows texts base = if bytes_eq base.0 null_id then Some [] else first_of (text_in rows base) (text_noted (texts base))

-- the id of the changeset is the hash of that text
abbrev pub agrees : {A : Type 0} → Entry A → List ℕ → Bool
agrees entry text = bytes_eq entry.node.0 (node_id_of entry.p1.0 entry.p2.0 text)

-- what a delta gave, where the id agrees with it
abbrev pub agreed : {A : Type 0} → Entry A → Result (List ℕ) DeltaFault → Option (List ℕ)
agreed entry (Ok text) = if agrees entry text then Some text else None
agreed entry (Err fault) = None

-- The text of a changeset whose base has that text, if it is known: what its delta makes of it, under its hash.
abbrev pub text_on : {A : Type 0} → ℕ → Entry A → Option (List ℕ) → Option (List ℕ)
text_on most entry None = None
text_on most entry (Some base) = agreed entry (outcome_of base entry.delta most)

-- The texts of the changesets that came, with one more; of several of one id the first counts, known or not.
unfoldable pub with_entry : {A : Type 0} → ℕ → List Changeset → (Node → Option (Option (List ℕ))) → Entry A →
    Node → Option (Option (List ℕ))
with_entry most rows texts entry = noted texts entry.node (text_on most entry (base_text rows texts entry.base))

-- one, where a text is not known
abbrev pub one_unknown : Option (List ℕ) → ℕ
one_unknown None = 1
one_unknown (Some text) = 0

-- how many of these changesets are on a base whose text is not known
unfoldable pub unknown_behind : {A : Type 0} → ℕ → List Changeset → (Node → Option (Option (List ℕ))) → List (Entry A) → ℕ
unknown_behind most rows texts [] = 0
unknown_behind most rows texts (entry ∷ entries) =
    one_unknown (base_text rows texts entry.base) + unknown_behind most rows (with_entry most rows texts entry) entries

-- no changeset came
abbrev pub no_texts : Node → Option (Option (List ℕ))
no_texts node = None

-- how many deltas of a push may be on bases that are not known
abbrev pub most_unknown : ℕ
most_unknown = 4

-- what is too much where so many are
abbrev pub excess_of_unknown : ℕ → Option Excess
excess_of_unknown unknown = if nat_lt most_unknown unknown then Some UnknownBases else None

-- What is too much of a push with these changesets, whose texts have at most `most` bytes, in a repository of these rows:
-- more than four deltas are on bases that are not known.
abbrev pub excess_of_bases : {A : Type 0} → ℕ → List Changeset → List (Entry A) → Option Excess
excess_of_bases most rows entries = excess_of_unknown (unknown_behind most rows no_texts entries)
