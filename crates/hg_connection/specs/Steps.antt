-- What is put of a bundle that is received, and what comes after it.
use Rattle.std.specs.Prelude.{ℕ, ◌≡◌, ◌≢◌, ◌≤◌, ◌⊎◌, List, [], ◌++◌, length}
use Rattle.std.specs.Io.KnownBytes.{IsAtEnd}
use Rattle.hg_types.specs.declared.part.Part.{Part}
use Rattle.hg_types.specs.declared.limits.Limits.{Limits}
use Rattle.hg_stream.specs.declared.state.State.TheVariants.{Reading}
use Rattle.hg_stream.specs.declared.unbundler.Unbundler.{Unbundler}
use Rattle.hg_stream.specs.Unbundler.{HoldsBundle, limits_of, ready_of, state_of}
use Rattle.hg_serve.specs.Clients.{SenderView, GoesOn}
use Rattle.hg_connection.specs.Devices.{Input, Gave, Failed, ReadsOnce}
use Rattle.hg_connection.specs.declared.bundle_end.BundleEnd.{BundleEnd}
use Rattle.hg_connection.specs.Receiving.{IsPiece, IsReceivedFrom, greatest_piece, part_items}
use Rattle.hg_connection.specs.declared.coming.Next.{Next}
use Rattle.hg_connection.specs.declared.coming.Next.TheVariants.{Comes, InputEnded as at_end}
use Rattle.hg_connection.specs.declared.coming.Next.TheVariants.{ReadFailed as next_fails}

-- a reader of bundles that was fed nothing
pub record IsFresh {A : Type 0} (limits : Limits) (u : Unbundler A) : Type 0 where
  pub empty : HoldsBundle u [] []
  pub state : state_of u ≡ Reading
  pub limits_are : limits_of u ≡ limits
  pub ready : ready_of u ≡ []

-- these parts were put, after those that were put before
abbrev pub PutsParts : {A : Type 0} → SenderView A → SenderView A → List (Part A) → Type 0
PutsParts old new parts = GoesOn old new (old.putter.put
    ++ part_items old.putter.push (length old.putter.put) parts)

-- what was read to see whether a next bundle comes
abbrev pub Arrives : List ℕ → List ℕ → Input → Input → Type 0
Arrives before after input left = ((after ≡ before) × (left ≡ input))
    ⊎ ((before ≡ []) × ReadsOnce input left (Gave after) × IsPiece after)

-- A byte of the next bundle waits, or, after the first bundle, the input ended, or a read failed. For the first bundle
-- nothing is read, so it always comes: an empty input is answered too.
abbrev pub IsNext : ℕ → List ℕ → List ℕ → Input → Input → Next → Type 0
IsNext number before after input left Comes =
    Arrives before after input left × (number ≡ 0 → (after ≡ before) × (left ≡ input))
    × (1 ≤ number → after ≢ []) × (length after ≤ greatest_piece)
IsNext number before after input left at_end = (1 ≤ number) × (before ≡ []) × ReadsOnce input left (Gave []) × IsAtEnd left.left
IsNext number before after input left next_fails = (1 ≤ number) × (before ≡ []) × ReadsOnce input left Failed

-- A bundle was received from that reader, and its parts were put.
pub record Receives {A : Type 0} (limits : Limits) (waited waiting : List ℕ) (input left : Input)
    (old new : SenderView A) (ending : BundleEnd) : Type 0 where
  pub parts : List (Part A)
  pub bundle : IsReceivedFrom limits waited waiting input left ending parts
  pub put : GoesOn old new (part_items old.putter.push 0 parts)
