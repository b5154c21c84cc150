-- How much the texts of a push weigh: how long each is, and how many bytes are copied from bases.
use Rattle.std.specs.Prelude.{ℕ, ◌+◌, ◌-◌, ◌*◌, nat_lt, List, [], ◌∷◌, Option, Some, None, Result, Ok, Err, bytes_eq}
use Rattle.std.specs.Prelude.{drop, if◌then◌else◌}
use Rattle.hg_types.specs.declared.entry.Entry.{Entry}
use Rattle.hg_types.specs.declared.node.Node.{Node}
use Rattle.hg_types.specs.NullId.{null_id}
use Rattle.hg_delta.specs.declared.fault.DeltaFault.{DeltaFault}
use Rattle.hg_sizes.specs.declared.delta.Measure.{Measure}
use Rattle.hg_sizes.specs.declared.weighing.Excess.{Excess}
use Rattle.hg_sizes.specs.declared.weighing.Excess.TheVariants.{LongText, MuchCopied}
use Rattle.hg_sizes.specs.Measures.{measure_of}

-- What was weighed so far: the length of the text of each changeset that came, and how many bytes may still be copied.
pub record Load : Type 0 where
  pub sizes : Node → Option ℕ
  pub room : ℕ

-- nothing was weighed
abbrev pub empty_load : ℕ → Load
empty_load room = record { sizes = λ node. None; room = room }

-- the first of two that is there
abbrev pub first_of : {X : Type 0} → Option X → Option X → Option X
first_of (Some x) other = Some x
first_of None other = other

-- The length of the text of a base: none of the null id, that of the changeset which is here, or else that of the first
-- one of the push with that id. `here` is the length of the text of the base, where that is here.
abbrev pub base_size : (Node → Option ℕ) → Node → Option ℕ → Option ℕ
base_size sizes base here = if bytes_eq base.0 null_id then Some 0 else first_of here (sizes base)

-- with what is noted of one more changeset; of several of one id the first counts
abbrev pub noted : {X : Type 0} → (Node → Option X) → Node → X → Node → Option X
noted others node x q = first_of (others q) (if bytes_eq node.0 q.0 then Some x else None)

-- what is weighed with a text of that measure, or why that is too much
abbrev pub with_text : ℕ → Load → Node → Result Measure DeltaFault → Result Load Excess
with_text most load node (Err fault) = Ok load
with_text most load node (Ok m) =
    if nat_lt most (m.kept + m.brought) then Err LongText else
    if nat_lt load.room m.kept then Err MuchCopied else
    Ok (record { sizes = noted load.sizes node (m.kept + m.brought); room = load.room - m.kept })

-- The same of a delta on a base of that length. A delta whose base is not known is not weighed, nor is one with a fault.
abbrev pub with_delta : {A : Type 0} → ℕ → Load → Entry A → Option ℕ → Result Load Excess
with_delta most load entry None = Ok load
with_delta most load entry (Some size) = with_text most load entry.node (measure_of size entry.delta)

-- the same of a changeset
unfoldable pub with_entry : {A : Type 0} → ℕ → Load → Entry A → Option ℕ → Result Load Excess
with_entry most load entry here = with_delta most load entry (base_size load.sizes entry.base here)

infixl 10 ◌>>=◌
abbrev pub ◌>>=◌ : {X Y : Type 0} → Result X Excess → (X → Result Y Excess) → Result Y Excess
(Ok x) >>= f = f x
(Err excess) >>= f = Err excess

-- what is told of the base of the first changeset; nothing where nothing is left
abbrev pub first_told : List (Option ℕ) → Option ℕ
first_told [] = None
first_told (size ∷ here) = size

-- The changesets in order, each with the length of the text of its base, where that is here.
unfoldable pub load_behind : {A : Type 0} → ℕ → Load → List (Entry A) → List (Option ℕ) → Result Load Excess
load_behind most load [] here = Ok load
load_behind most load (entry ∷ entries) here =
    with_entry most load entry (first_told here) >>= λ more. load_behind most more entries (drop 1 here)

-- how much may be copied: four times the longest text, and as many bytes as the push has
abbrev pub room_for : ℕ → ℕ → ℕ
room_for most bytes = 4 * most + bytes

abbrev pub excess_in : Result Load Excess → Option Excess
excess_in (Ok load) = None
excess_in (Err excess) = Some excess

-- What is too much of a push of so many bytes with these changesets, the first that comes: a text that is longer than
-- `most`, or a delta for whose copies there is no room.
unfoldable pub excess_of : {A : Type 0} → ℕ → ℕ → List (Entry A) → List (Option ℕ) → Option Excess
excess_of most bytes entries here = excess_in (load_behind most (empty_load (room_for most bytes)) entries here)
