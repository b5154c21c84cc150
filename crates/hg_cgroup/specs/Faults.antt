-- What is wrong with a changegroup: the first thing that is wrong with its first chunk that is none.
use Rattle.std.specs.Prelude.{◌≡◌, ◌≢◌, ℕ, ◌<◌, List, [], ◌++◌, length, Result, Ok, Err}
use Rattle.hg_types.specs.declared.entry.Entry.{Entry}
use Rattle.hg_cgroup.specs.declared.fault.GroupFault.{GroupFault}
use Rattle.hg_cgroup.specs.declared.fault.GroupFault.TheVariants.{UnknownVersion, Leftover}
use Rattle.hg_cgroup.specs.declared.version.Version.{Version}
use Rattle.hg_cgroup.specs.Chunk.{IsContent, chunk_bytes, empty_chunk, AreChunks, IsChunkFault}
use Rattle.hg_cgroup.specs.Changeset.{Changeset, AreChangesets, name_of, header_size}
use Rattle.hg_cgroup.specs.Group.{File, AreFiles, IsGroup}

-- a name of no version
abbrev pub IsUnknown : List ℕ → Type 0
IsUnknown name = (version : Version) → name ≢ name_of version

-- the name is that of a version of which it holds
abbrev pub IsOf : List ℕ → (Version → Type 0) → Type 0
IsOf name holds = (version : Version) × (name ≡ name_of version) × holds version

-- A chunk is faulty where a file's name or the closing chunk is wanted, or a chunk of a file.
pub data BreaksAtFile (bytes : List ℕ) (fault : GroupFault) : Type 0 where
  at_name : (files : List File) (rest : List ℕ) → AreFiles bytes files rest → IsChunkFault fault 1 rest →
      BreaksAtFile bytes fault
  in_file : (files : List File) (name : List ℕ) (chunks : List (List ℕ)) (inside rest : List ℕ) →
      AreFiles bytes files (chunk_bytes name ++ inside) → IsContent name
      → AreChunks inside chunks rest → IsChunkFault fault 1 rest → BreaksAtFile bytes fault

-- The same, or where a manifest chunk is wanted.
pub data BreaksInFrames (bytes : List ℕ) (fault : GroupFault) : Type 0 where
  in_manifests : (manifests : List (List ℕ)) (rest : List ℕ) → AreChunks bytes manifests rest →
      IsChunkFault fault 1 rest → BreaksInFrames bytes fault
  in_files : (manifests : List (List ℕ)) (behind : List ℕ) →
      AreChunks bytes manifests (empty_chunk ++ behind) → BreaksAtFile behind fault →
      BreaksInFrames bytes fault

-- The same, or where a changeset is wanted. `A` is where entries lie in memory.
pub data GroupBreaks (A : Type 0) (version : Version) (payload : List ℕ) (fault : GroupFault) : Type 0 where
  in_changesets : (changesets : List (Changeset A)) (rest : List ℕ) →
      AreChangesets version payload changesets rest → IsChunkFault fault (header_size version) rest →
      GroupBreaks A version payload fault
  in_frames : (changesets : List (Changeset A)) (rest : List ℕ) →
      AreChangesets version payload changesets (empty_chunk ++ rest) → BreaksInFrames rest fault →
      GroupBreaks A version payload fault

-- a whole changegroup, and bytes after it
pub record HasLeftover (A : Type 0) (version : Version) (payload : List ℕ) : Type 0 where
  pub entries : List (Entry A)
  pub rest : List ℕ
  pub whole : IsGroup version payload entries rest
  pub some : 0 < length rest

-- What a changegroup gives, memory apart: its entries, or the one fault.
pub data IsOutcome (A : Type 0) (name payload : List ℕ) : Result (List (Entry A)) GroupFault → Type 0 where
  gives : (entries : List (Entry A)) → IsOf name (λ version. IsGroup version payload entries []) →
      IsOutcome A name payload (Ok entries)
  unknown : IsUnknown name → IsOutcome A name payload (Err UnknownVersion)
  breaks : (fault : GroupFault) → IsOf name (λ version. GroupBreaks A version payload fault) →
      IsOutcome A name payload (Err fault)
  left_over : IsOf name (λ version. HasLeftover A version payload) → IsOutcome A name payload (Err Leftover)
