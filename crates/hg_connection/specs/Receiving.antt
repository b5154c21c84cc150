-- What is received of a bundle, and what is put of it.
use Rattle.std.specs.Prelude.{ℕ, ◌≡◌, ◌≢◌, ◌≤◌, ◌+◌, ◌⊎◌, ⊤, List, [], ◌∷◌, ◌++◌, All, length, map}
use Rattle.std.specs.Prelude.{Option, Some, None}
use Rattle.std.specs.List.{concat}
use Rattle.std.specs.Io.KnownBytes.{Consumes, IsAtEnd}
use Rattle.hg_types.specs.declared.part.Part.{Part}
use Rattle.hg_types.specs.declared.limits.Limits.{Limits}
use Rattle.hg_parts.specs.declared.item.CutReason.{CutReason}
use Rattle.hg_parts.specs.declared.item.CutReason.TheVariants.{Stream, ReadFailed as connection_lost}
use Rattle.hg_parts.specs.declared.item.Item.{Item}
use Rattle.hg_parts.specs.declared.item.What.{What}
use Rattle.hg_parts.specs.declared.item.What.TheVariants.{Part as a_part, End, Cut}
use Rattle.hg_stream.specs.declared.fault.StreamFault.TheVariants.{Truncated}
use Rattle.hg_stream.specs.declared.state.State.{State}
use Rattle.hg_stream.specs.declared.state.State.TheVariants.{Reading, Ended, Failed as stream_failed}
use Rattle.hg_stream.specs.Number.{number_of}
use Rattle.hg_stream.specs.Faults.{StateTells}
use Rattle.hg_connection.specs.Devices.{Input, ReadAnswer, Gave, Failed, TellsMore}
use Rattle.hg_connection.specs.declared.bundle_end.BundleEnd.{BundleEnd}
use Rattle.hg_connection.specs.declared.bundle_end.BundleEnd.TheVariants.{Whole, Fault, InputEnded, ReadFailed}

-- why the push of a bundle that ended so is cut off, if it is
abbrev pub cut_of : BundleEnd → Option CutReason
cut_of Whole = None
cut_of (Fault fault) = Some (Stream (number_of fault))
cut_of InputEnded = Some (Stream (number_of Truncated))
cut_of ReadFailed = Some connection_lost

-- the mark that says why a push is cut off, or that it is not
abbrev pub mark_for : {A : Type 0} → Option CutReason → What A
mark_for None = End
mark_for (Some reason) = Cut reason

-- the mark of a push whose bundle ended so
abbrev pub mark_of : {A : Type 0} → BundleEnd → What A
mark_of ending = mark_for (cut_of ending)

-- how far the reader of bundles was
abbrev pub state_at : BundleEnd → State
state_at Whole = Ended
state_at (Fault fault) = stream_failed fault
state_at InputEnded = Reading
state_at ReadFailed = Reading

-- the parts of a push as items, each with the number of parts before it
abbrev pub part_items : {A : Type 0} → ℕ → ℕ → List (Part A) → List (Item A)
part_items push index [] = []
part_items push index (part ∷ parts) = record { push = push; index = index; what = a_part part }
    ∷ part_items push (index + 1) parts

-- the items of a push: its parts, and then its mark with their number
abbrev pub push_items : {A : Type 0} → ℕ → List (Part A) → What A → List (Item A)
push_items push parts mark = part_items push 0 parts
    ++ record { push = push; index = length parts; what = mark } ∷ []

-- how many bytes one read may give, and so how many may be read past the limit on the stream
abbrev pub greatest_piece : ℕ
greatest_piece = 4096

-- what a read gives before the end of the input
abbrev pub IsPiece : List ℕ → Type 0
IsPiece piece = (1 ≤ length piece) × (length piece ≤ greatest_piece)

-- the read that gave nothing, at the end of the input, or that failed
abbrev pub last_read : BundleEnd → List ReadAnswer
last_read Whole = []
last_read (Fault fault) = []
last_read InputEnded = Gave [] ∷ []
last_read ReadFailed = Failed ∷ []

-- After those in front came these bytes: what waited at first, where nothing was read, or else the last piece.
abbrev pub CameLast : List ℕ → List (List ℕ) → List ℕ → List ℕ → Type 0
CameLast waited pieces front last = ((pieces ≡ []) × (front ≡ []) × (last ≡ waited))
    ⊎ ((before : List (List ℕ)) × (pieces ≡ before ++ last ∷ []) × (front ≡ waited ++ concat before))

-- The bytes that were fed last held the end mark or the fault: those before them go on, so that no read was
-- made after it. They are some bytes: what waited at first, where nothing was read, or else the last piece.
pub record StopsIn (A : Type 0) (limits : Limits) (waited : List ℕ) (pieces : List (List ℕ))
    (consumed rest : List ℕ) : Type 0 where
  pub front : List ℕ
  pub taken : List ℕ
  pub fed : List ℕ
  pub earlier : List (Part A)
  pub goes_on : StateTells Reading limits front earlier
  pub consumed_is : consumed ≡ front ++ taken
  pub fed_is : fed ≡ taken ++ rest
  pub some : 1 ≤ length fed
  pub place : CameLast waited pieces front fed

-- where the reading of a bundle stopped, by how it ended
abbrev pub StopsBundle : Type 0 → BundleEnd → Limits → List ℕ → List (List ℕ) → List ℕ → List ℕ → Type 0
StopsBundle A Whole limits waited pieces consumed rest = StopsIn A limits waited pieces consumed rest
StopsBundle A (Fault fault) limits waited pieces consumed rest =
    (fault ≢ Truncated) × StopsIn A limits waited pieces consumed rest
StopsBundle A InputEnded limits waited pieces consumed rest = rest ≡ []
StopsBundle A ReadFailed limits waited pieces consumed rest = rest ≡ []

-- A bundle was received by these reads, after the bytes that waited: each gave a piece, except one that
-- gave nothing or failed, which is the last. All bytes together are those of the bundle and a rest. Those of
-- the bundle are a whole bundle with these parts, or hold a fault, or go on, with these parts before it. A
-- read is made only where the bytes before it hold no end mark and no fault. That the bytes are truncated is
-- never reported as a fault of them: their end is.
pub record IsReceived {A : Type 0} (limits : Limits) (waited : List ℕ) (reads : List ReadAnswer)
    (ending : BundleEnd) (parts : List (Part A)) (consumed rest : List ℕ) : Type 0 where
  pub pieces : List (List ℕ)
  pub each : All IsPiece pieces
  pub reads_are : reads ≡ map Gave pieces ++ last_read ending
  pub spelled : waited ++ concat pieces ≡ consumed ++ rest
  pub tells : StateTells (state_at ending) limits consumed parts
  pub stops : StopsBundle A ending limits waited pieces consumed rest
  pub bound : length consumed + length rest ≤ limits.stream + greatest_piece

-- what waits after an end mark: the bytes that were not fed
abbrev pub KeepsWaiting : BundleEnd → List ℕ → List ℕ → Type 0
KeepsWaiting Whole rest waiting = waiting ≡ rest
KeepsWaiting ending rest waiting = ⊤

-- where the input is said to have ended, it has
abbrev pub Ran : BundleEnd → Input → Type 0
Ran InputEnded left = IsAtEnd left.left
Ran ending left = ⊤

-- A bundle was received from that reader, after the bytes that waited, and others wait then.
pub record IsReceivedFrom {A : Type 0} (limits : Limits) (waited waiting : List ℕ) (input left : Input)
    (ending : BundleEnd) (parts : List (Part A)) : Type 0 where
  pub consumed : List ℕ
  pub rest : List ℕ
  pub reads : List ReadAnswer
  pub more : List ℕ
  pub received : IsReceived limits waited reads ending parts consumed rest
  pub spelled : waited ++ more ≡ consumed ++ rest
  pub bytes : Consumes input.left left.left more
  pub told : TellsMore input.reads left.reads reads
  pub keeps : KeepsWaiting ending rest waiting
  pub ran : Ran ending left
