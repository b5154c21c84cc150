-- The turns that receive a bundle.
use Rattle.std.specs.Prelude.{ℕ, ◌≡◌, ◌≢◌, ◌≤◌, ◌⊎◌, List, [], ◌++◌, All, length, map, take}
use Rattle.std.specs.Prelude.{drop, Option, Some, None}
use Rattle.std.specs.List.{concat}
use Rattle.std.specs.Io.KnownBytes.{Consumes, IsAtEnd}
use Rattle.hg_types.specs.declared.part.Part.{Part}
use Rattle.hg_types.specs.declared.limits.Limits.{Limits}
use Rattle.hg_stream.specs.declared.fault.StreamFault.TheVariants.{Truncated}
use Rattle.hg_stream.specs.declared.state.State.{State}
use Rattle.hg_stream.specs.declared.state.State.TheVariants.{Reading, Ended, Failed as stream_failed}
use Rattle.hg_stream.specs.declared.unbundler.Unbundler.{Unbundler}
use Rattle.hg_stream.specs.Unbundler.{HoldsBundle, IsStillReading, limits_of, ready_of, state_of}
use Rattle.hg_connection.specs.Devices.{Input, Gave, Failed, TellsMore, ReadsOnce}
use Rattle.hg_connection.specs.declared.bundle_end.BundleEnd.{BundleEnd}
use Rattle.hg_connection.specs.declared.bundle_end.BundleEnd.TheVariants.{Whole, Fault, InputEnded, ReadFailed}
use Rattle.hg_connection.specs.Receiving.{CameLast, IsPiece, IsReceivedFrom, greatest_piece}

-- One read gave these bytes; or it gave none, at the end of the input; or it failed.
abbrev pub ReadsMore : List ℕ → Input → Input → Option BundleEnd → Type 0
ReadsMore after input left None = ReadsOnce input left (Gave after) × IsPiece after
ReadsMore after input left (Some InputEnded) = (after ≡ []) × ReadsOnce input left (Gave []) × IsAtEnd left.left
ReadsMore after input left (Some ReadFailed) = (after ≡ []) × ReadsOnce input left Failed
ReadsMore after input left (Some ending) = ⊥

-- Where bytes wait, nothing is read. Where none do, one read is made.
abbrev pub Fills : List ℕ → List ℕ → Input → Input → Option BundleEnd → Type 0
Fills before after input left result = ((before ≢ []) × (after ≡ before) × (left ≡ input) × (result ≡ None))
    ⊎ ((before ≡ []) × ReadsMore after input left result)

-- how the bundle ended that a reader of bundles was fed, if it did
abbrev pub ended_at : State → Option BundleEnd
ended_at Reading = None
ended_at Ended = Some Whole
ended_at (stream_failed fault) = Some (Fault fault)

-- The reader of bundles was fed a front of the bytes that wait, up to an end mark, and they wait no more.
pub record FeedsFront {A : Type 0} (u v : Unbundler A) (before after : List ℕ) : Type 0 where
  pub place : ℕ
  pub bound : place ≤ length before
  pub few : length before ≤ greatest_piece
  pub holds : (given : List (Part A)) (bytes : List ℕ) → HoldsBundle u given bytes →
      HoldsBundle v given (bytes ++ take place before)
  pub reading : state_of v ≡ Reading → (place ≡ length before) × (after ≡ [])
  pub ended : state_of v ≡ Ended → after ≡ drop place before
  pub fewer : length after ≤ length before
  pub limits : limits_of v ≡ limits_of u
  pub not_truncated : IsStillReading u → state_of v ≢ stream_failed Truncated

-- What of a bundle was received so far, after the bytes that waited: those that were fed, and others that
-- wait. The reader of bundles goes on, and gave these parts.
pub record IsReceiving {A : Type 0} (limits : Limits) (waited : List ℕ) (input : Input)
    (fed waiting : List ℕ) (left : Input) (u : Unbundler A) (given : List (Part A)) : Type 0 where
  pub holds : HoldsBundle u given fed
  pub limits_are : limits_of u ≡ limits
  pub state : state_of u ≡ Reading
  pub pieces : List (List ℕ)
  pub each : All IsPiece pieces
  pub bytes : Consumes input.left left.left (concat pieces)
  pub told : TellsMore input.reads left.reads (map Gave pieces)
  pub spelled : waited ++ concat pieces ≡ fed ++ waiting
  pub place : (waiting ≡ []) ⊎ CameLast waited pieces fed waiting

-- what was received then: some bytes more, or the bundle up to its ending, with the parts that are ready
abbrev pub Turned : {A : Type 0} → Limits → List ℕ → Input → List ℕ → List ℕ → Input → Unbundler A →
    List (Part A) → Option BundleEnd → Type 0
Turned limits waited input fed waiting left u given None =
    (more : List ℕ) × (1 ≤ length more) × (waiting ≡ [])
    × IsReceiving limits waited input (fed ++ more) waiting left u given
Turned limits waited input fed waiting left u given (Some ending) =
    IsReceivedFrom limits waited waiting input left ending (given ++ ready_of u)

-- Of a bundle of which something was received, more was received.
abbrev pub Turns : {A : Type 0} → Unbundler A → Unbundler A → List ℕ → List ℕ → Input → Input →
    Option BundleEnd → Type 0
Turns {A} u v before after mid left result =
    (limits : Limits) (waited : List ℕ) (input : Input) (fed : List ℕ) (given : List (Part A)) →
    IsReceiving limits waited input fed before mid u given →
    Turned limits waited input fed after left v given result
