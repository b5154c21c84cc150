-- The bundle of a record, which is read as it comes.
use Rattle.std.specs.Prelude.{ℕ, ◌≡◌, ◌≢◌, ◌<◌, List, [], ◌++◌, Bool, true, false, length}
use Rattle.hg_stream.specs.declared.fault.StreamFault.TheVariants.{Truncated}
use Rattle.hg_stream.specs.declared.state.State.TheVariants.{Ended, Failed, Reading}
use Rattle.hg_stream.specs.declared.unbundler.Unbundler.{Unbundler}
use Rattle.hg_stream.specs.Unbundler.{HoldsBundle, limits_of, state_of}
use Rattle.hg_recovery.specs.declared.record.RecordIn.{RecordIn}

-- A reader of bundles took a front of these bytes: all of them while it goes on, and where it ended those up to there.
-- It is known whether bytes came after its end.
pub record HasTaken {A : Type 0} (reader : Unbundler A) (is_past : Bool) (bytes : List ℕ) : Type 0 where
  pub front : List ℕ
  pub rest : List ℕ
  pub spelled : bytes ≡ front ++ rest
  pub holds : HoldsBundle reader [] front
  pub all : state_of reader ≡ Reading → rest ≡ []
  pub past : is_past ≡ true → (state_of reader ≡ Ended) × (0 < length rest)
  pub whole : is_past ≡ false → state_of reader ≡ Ended → rest ≡ []
  pub own : state_of reader ≢ Failed Truncated

-- the bytes that a record took, under the limits that it had at first
abbrev pub Took : {A : Type 0} → RecordIn A → List ℕ → RecordIn A → Type 0
Took first bytes now = HasTaken now.bundle now.is_past bytes × (limits_of now.bundle ≡ limits_of first.bundle)
