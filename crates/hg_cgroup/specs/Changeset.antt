-- The changesets of a changegroup: a delta header, and delta data.
use Rattle.std.specs.Prelude.{◌≡◌, ℕ, List, [], ◌∷◌, ◌++◌, length, map, Option, unwrap_or}
use Rattle.std.specs.List.{AllByRecursion, flat_map}
use Rattle.hg_types.specs.declared.node.Node.{Node}
use Rattle.hg_types.specs.declared.entry.Entry.{Entry}
use Rattle.hg_cgroup.specs.declared.version.Version.{Version}
use Rattle.hg_cgroup.specs.declared.version.Version.TheVariants.{V01, V02}
use Rattle.hg_cgroup.specs.Chunk.{IsContent, chunk_bytes}

-- `01` and `02`
abbrev pub name_of : Version → List ℕ
name_of V01 = 48 ∷ 49 ∷ []
name_of V02 = 48 ∷ 50 ∷ []

-- an entry, and the id of the changeset that it is linked to, which nobody reads
pub record Changeset (A : Type 0) : Type 0 where
  pub entry : Entry A
  pub link : List ℕ

-- how many bytes come before the delta data
abbrev pub header_size : Version → ℕ
header_size V01 = 80
header_size V02 = 100

-- 01: node, p1, p2, link. 02: node, p1, p2, base, link. Then the delta data.
abbrev pub changeset_bytes : {A : Type 0} → Version → Changeset A → List ℕ
changeset_bytes V01 c = c.entry.node.0 ++ (c.entry.p1.0 ++ (c.entry.p2.0 ++ (c.link ++ c.entry.delta)))
changeset_bytes V02 c =
    c.entry.node.0 ++ (c.entry.p1.0 ++ (c.entry.p2.0 ++ (c.entry.base.0 ++ (c.link ++ c.entry.delta))))

-- the ids have twenty bytes, and all fits into a chunk
pub record IsChangeset {A : Type 0} (version : Version) (c : Changeset A) : Type 0 where
  pub node : length c.entry.node.0 ≡ 20
  pub p1 : length c.entry.p1.0 ≡ 20
  pub p2 : length c.entry.p2.0 ≡ 20
  pub base : length c.entry.base.0 ≡ 20
  pub link : length c.link ≡ 20
  pub fits : IsContent (changeset_bytes version c)

-- what a changelog takes of each changeset
abbrev pub entries_of : {A : Type 0} → List (Changeset A) → List (Entry A)
entries_of changesets = map (λ c. c.entry) changesets

-- that id, and then the node of each entry but the last
abbrev pub bases_behind : {A : Type 0} → Node → List (Entry A) → List Node
bases_behind before [] = []
bases_behind before (entry ∷ entries) = before ∷ bases_behind entry.node entries

-- the first parent of the first entry, and for each later one the node of the entry before it
abbrev pub bases_in_order : {A : Type 0} → List (Entry A) → List Node
bases_in_order [] = []
bases_in_order (entry ∷ entries) = bases_behind entry.p1 (entry ∷ entries)

-- 01 has its bases by order; 02 spells them
abbrev pub HasBases : {A : Type 0} → Version → List (Entry A) → Type 0
HasBases V01 entries = map (λ entry. entry.base) entries ≡ bases_in_order entries
HasBases V02 entries = Unit {0}

-- the base in 01 after an entry with that node, where there is one
abbrev pub IsBase : {A : Type 0} → Version → Option Node → Entry A → Type 0
IsBase V01 before entry = entry.base ≡ unwrap_or before entry.p1
IsBase V02 before entry = Unit {0}

-- whole changeset chunks, one after the other, and then that rest
pub record AreChangesets {A : Type 0} (version : Version) (bytes : List ℕ) (changesets : List (Changeset A))
    (rest : List ℕ) : Type 0 where
  pub each : AllByRecursion (IsChangeset version) changesets
  pub bases : HasBases version (entries_of changesets)
  pub spelled : bytes ≡ flat_map chunk_bytes (map (changeset_bytes version) changesets) ++ rest

-- the content spells that entry, after one with that node where there is one
pub record IsSpelled {A : Type 0} (version : Version) (before : Option Node) (content : List ℕ)
    (entry : Entry A) : Type 0 where
  pub link : List ℕ
  pub node : length entry.node.0 ≡ 20
  pub p1 : length entry.p1.0 ≡ 20
  pub p2 : length entry.p2.0 ≡ 20
  pub base : length entry.base.0 ≡ 20
  pub linked : length link ≡ 20
  pub spelled : content ≡ changeset_bytes version (record { entry = entry; link = link })
  pub based : IsBase version before entry
