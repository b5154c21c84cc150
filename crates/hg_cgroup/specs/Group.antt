-- The grammar of a changegroup.
use Rattle.std.specs.Prelude.{◌≡◌, ℕ, List, ◌++◌, map}
use Rattle.std.specs.List.{AllByRecursion, flat_map}
use Rattle.hg_types.specs.declared.entry.Entry.{Entry}
use Rattle.hg_cgroup.specs.declared.version.Version.{Version}
use Rattle.hg_cgroup.specs.Chunk.{IsContent, chunk_bytes, empty_chunk, AreChunks}
use Rattle.hg_cgroup.specs.Changeset.{Changeset, IsChangeset, changeset_bytes, entries_of, HasBases}

-- chunks, closed by an empty one
abbrev pub delta_group : List (List ℕ) → List ℕ
delta_group chunks = flat_map chunk_bytes chunks ++ empty_chunk

-- a file: a chunk with its name, and a delta group
pub record File : Type 0 where
  pub name : List ℕ
  pub chunks : List (List ℕ)

-- a file that can be written: its name and its chunks are contents
pub record IsFile (file : File) : Type 0 where
  pub name : IsContent file.name
  pub each : AllByRecursion IsContent file.chunks

-- the bytes of a file: the chunk of its name, and its group
abbrev pub file_bytes : File → List ℕ
file_bytes file = chunk_bytes file.name ++ delta_group file.chunks

-- whole files, one after the other, and then that rest
pub record AreFiles (bytes : List ℕ) (files : List File) (rest : List ℕ) : Type 0 where
  pub each : AllByRecursion IsFile files
  pub spelled : bytes ≡ flat_map file_bytes files ++ rest

-- the payload is the changeset group, the manifest group, the files, one empty chunk, and then that rest
pub record IsGroup {A : Type 0} (version : Version) (payload : List ℕ) (entries : List (Entry A))
    (rest : List ℕ) : Type 0 where
  pub changesets : List (Changeset A)
  pub manifests : List (List ℕ)
  pub files : List File
  pub each_changeset : AllByRecursion (IsChangeset version) changesets
  pub bases : HasBases version (entries_of changesets)
  pub each_manifest : AllByRecursion IsContent manifests
  pub each_file : AllByRecursion IsFile files
  pub spelled : payload ≡ delta_group (map (changeset_bytes version) changesets)
      ++ (delta_group manifests ++ (flat_map file_bytes files ++ (empty_chunk ++ rest)))
  pub entries_are : entries ≡ entries_of changesets

-- the bytes are the manifest group, the files, one empty chunk, and then that rest
pub record AreFrames (bytes rest : List ℕ) : Type 0 where
  pub manifests : List (List ℕ)
  pub files : List File
  pub behind : List ℕ
  pub first : AreChunks bytes manifests (empty_chunk ++ behind)
  pub second : AreFiles behind files (empty_chunk ++ rest)
