-- What reading from left to right gives is the outcome.
use Rattle.std.proofs.Common.{◌≡◌, ◌≢◌, ℕ, ◌+◌, ◌<◌, ◌≤◌, Bool, true, false, cond, Option, Some, None, List}
use Rattle.std.proofs.Common.{[], ◌∷◌, ◌++◌, length, take, drop, map, Result, Ok, Err, IfSome, refl, sym, ap}
use Rattle.std.proofs.Common.{ap₂, subst, ◌∙◌, arith}
use Rattle.std.specs.List.{AllByRecursion, flat_map}
use Rattle.std.specs.Str.{bytes_eq}
use Rattle.std.proofs.lemmas.List.{take-append-drop, drop-drop, length-take, length-drop}
use Rattle.std.proofs.lemmas.Slice.Eq.{bytes_eq-Decides}
use Rattle.hg_types.specs.declared.node.Node.{Node}
use Rattle.hg_types.specs.declared.entry.Entry.{Entry}
use Rattle.hg_types.specs.Bytes.{IsBytes}
use Rattle.hg_cgroup.specs.declared.fault.GroupFault.{GroupFault}
use Rattle.hg_cgroup.specs.declared.fault.GroupFault.TheVariants.{UnknownVersion, Leftover, NoMemory}
use Rattle.hg_cgroup.specs.declared.version.Version.{Version}
use Rattle.hg_cgroup.specs.declared.version.Version.TheVariants.{V01, V02}
use Rattle.hg_cgroup.specs.Chunk.{chunk_bytes, empty_chunk, IsContent, AreChunks}
use Rattle.hg_cgroup.specs.Changeset.{Changeset, IsChangeset, changeset_bytes, header_size, entries_of}
use Rattle.hg_cgroup.specs.Changeset.{bases_behind, HasBases, AreChangesets, name_of}
use Rattle.hg_cgroup.specs.Group.{AreFrames, IsGroup}
use Rattle.hg_cgroup.specs.Faults.{IsUnknown, IsOf, BreaksInFrames, in_manifests, in_files, GroupBreaks}
use Rattle.hg_cgroup.specs.Faults.{in_changesets, in_frames, HasLeftover, IsOutcome, gives, unknown, breaks}
use Rattle.hg_cgroup.specs.Faults.{left_over}
use Rattle.hg_cgroup.specs.Outcome.{◌>>=◌, ReadGroup, group_at, files_at, id_at, base_of, entry_of}
use Rattle.hg_cgroup.specs.Outcome.{entries_behind, ended, entries_at, version_at, outcome_of}
use Rattle.hg_cgroup.proofs.Chunks.{GroupRead, whole, broken, group_read, contents_only, FilesRead, all}
use Rattle.hg_cgroup.proofs.Chunks.{stopped, files_read}
use Rattle.hg_cgroup.proofs.Entries.{whole as whole_group}
use Rattle.hg_cgroup.proofs.OneChunk.{IsEnough}
use Rattle.hg_cgroup.proofs.OneGroup.{outcome_once}

-- ---- a changeset

-- twenty bytes, and those after them
cut : (start : ℕ) (content : List ℕ) → drop start content ≡ take 20 (drop start content)
    ++ drop (start + 20) content
cut start content = sym (take-append-drop 20 (drop start content))
    ∙ ap (λ (x : List ℕ). take 20 (drop start content) ++ x) (drop-drop 20 start content)

id_sized : (start : ℕ) (content : List ℕ) → start + 20 ≤ length content
    → length (take 20 (drop start content)) ≡ 20
id_sized start content long = omega (arith, length-take 20 (drop start content), length-drop start content)

-- the id that a changeset is linked to stands before the delta
abbrev link_of : Version → List ℕ → List ℕ
link_of V01 content = take 20 (drop 60 content)
link_of V02 content = take 20 (drop 80 content)

abbrev changeset_of : {A : Type 0} → Version → Option Node → List ℕ → Changeset A
changeset_of version before content =
    record { entry = entry_of version before content; link = link_of version content }

changeset_spelled : (A : Type 0) (version : Version) (before : Option Node) (content : List ℕ)
    → changeset_bytes version (changeset_of {A = A} version before content) ≡ content
changeset_spelled A V01 before content =
    let one = take 20 (drop 0 content) in
    let two = take 20 (drop 20 content) in
    let three = take 20 (drop 40 content) in
    sym (
    cut 0 content
    ∙ ap (λ (x : List ℕ). one ++ x) (cut 20 content
    ∙ ap (λ (x : List ℕ). two ++ x) (cut 40 content ∙ ap (λ (x : List ℕ). three ++ x) (cut 60 content)))
    )
changeset_spelled A V02 before content =
    let one = take 20 (drop 0 content) in
    let two = take 20 (drop 20 content) in
    let three = take 20 (drop 40 content) in
    let four = take 20 (drop 60 content) in
    sym (
    cut 0 content
    ∙ ap (λ (x : List ℕ). one ++ x) (cut 20 content
    ∙ ap (λ (x : List ℕ). two ++ x) (cut 40 content
    ∙ ap (λ (x : List ℕ). three ++ x) (cut 60 content
    ∙ ap (λ (x : List ℕ). four ++ x) (cut 80 content))))
    )

-- the node before, where there is one, is an id
abbrev IsIdBefore : Option Node → Type 0
IsIdBefore before = IfSome before (λ node. length node.0 ≡ 20)

base_sized : (version : Version) (before : Option Node) (content : List ℕ) → IsIdBefore before
    → header_size version ≤ length content → length (base_of version before content).0 ≡ 20
base_sized V01 None content is long = id_sized 20 content (omega (arith, long))
base_sized V01 (Some node) content is long = is
base_sized V02 before content is long = id_sized 60 content (omega (arith, long))

link_sized : (version : Version) (content : List ℕ) → header_size version ≤ length content
    → length (link_of version content) ≡ 20
link_sized V01 content long = id_sized 60 content (omega (arith, long))
link_sized V02 content long = id_sized 80 content (omega (arith, long))

header_long : (version : Version) → 80 ≤ header_size version
header_long V01 = omega arith
header_long V02 = omega arith

is_changeset : {A : Type 0} (version : Version) (before : Option Node) (content : List ℕ) → IsIdBefore before
    → IsEnough (header_size version) content
    → IsChangeset version (changeset_of {A = A} version before content)
is_changeset {A} version before content is enough =
    let long : 80 ≤ length content = omega (arith, enough.1, header_long version) in
    record {
      node = id_sized 0 content (omega (arith, long));
      p1 = id_sized 20 content (omega (arith, long));
      p2 = id_sized 40 content (omega (arith, long));
      base = base_sized version before content is enough.1;
      link = link_sized version content enough.1;
      fits = subst IsContent (sym (changeset_spelled A version before content)) enough.0;
    }

-- ---- the list of them

abbrev changesets_behind : {A : Type 0} → Version → Option Node → List (List ℕ) → List (Changeset A)
changesets_behind version before [] = []
changesets_behind version before (content ∷ contents) = changeset_of version before content
    ∷ changesets_behind version (Some (id_at 0 content)) contents

all_changesets : (A : Type 0) (version : Version) (before : Option Node) (contents : List (List ℕ))
    → IsIdBefore before → AllByRecursion (IsEnough (header_size version)) contents
    → AllByRecursion (IsChangeset version) (changesets_behind {A = A} version before contents)
all_changesets A version before [] is each = tt
all_changesets A version before (content ∷ contents) is each =
    let first : IsChangeset version (changeset_of {A = A} version before content) =
    is_changeset version before content is each.0 in
    (first, all_changesets A version (Some (id_at 0 content)) contents first.node each.1)

all_spelled : (A : Type 0) (version : Version) (before : Option Node) (contents : List (List ℕ))
    → map (changeset_bytes version) (changesets_behind {A = A} version before contents) ≡ contents
all_spelled A version before [] = refl
all_spelled A version before (content ∷ contents) =
    ap₂ (λ (x : List ℕ) (xs : List (List ℕ)). x ∷ xs) (changeset_spelled A version before content)
    (all_spelled A version (Some (id_at 0 content)) contents)

all_entries : {A : Type 0} (version : Version) (before : Option Node) (contents : List (List ℕ))
    → entries_behind {A = A} version before contents ≡ entries_of (changesets_behind version before contents)
all_entries version before [] = refl
all_entries {A} version before (content ∷ contents) =
    ap (λ (entries : List (Entry A)). entry_of version before content ∷ entries)
    (all_entries version (Some (id_at 0 content)) contents)

bases_follow : (A : Type 0) (before : Node) (contents : List (List ℕ))
    → map (λ (entry : Entry A). entry.base)
    (entries_of (changesets_behind V01 (Some before) contents)) ≡ bases_behind before
    (entries_of (changesets_behind {A = A} V01 (Some before) contents))
bases_follow A before [] = refl
bases_follow A before (content ∷ contents) =
    ap (λ (bases : List Node). before ∷ bases) (bases_follow A (id_at 0 content) contents)

has_bases : (A : Type 0) (version : Version) (contents : List (List ℕ))
    → HasBases version (entries_of (changesets_behind {A = A} version None contents))
has_bases A V01 [] = refl
has_bases A V01 (content ∷ contents) =
    ap (λ (bases : List Node). id_at 20 content ∷ bases) (bases_follow A (id_at 0 content) contents)
has_bases A V02 contents = tt

-- contents that are enough are changesets
changesets_read : {A : Type 0} (version : Version) (payload : List ℕ) (contents : List (List ℕ))
    (rest : List ℕ) → AllByRecursion (IsEnough (header_size version)) contents
    → payload ≡ flat_map chunk_bytes contents ++ rest
    → AreChangesets version payload (changesets_behind {A = A} version None contents) rest
changesets_read {A} version payload contents rest each spelled = record {
  each = all_changesets A version None contents tt each;
  bases = has_bases A version contents;
  spelled = spelled ∙ ap (λ (xs : List (List ℕ)). flat_map chunk_bytes xs ++ rest)
      (sym (all_spelled A version None contents));
}

-- ---- a changegroup

data FramesRead (bytes : List ℕ) : Result (List ℕ) GroupFault → Type 0 where
  framed : (rest : List ℕ) → AreFrames bytes rest → FramesRead bytes (Ok rest)
  cracked : (fault : GroupFault) → BreaksInFrames bytes fault → FramesRead bytes (Err fault)

frames_from : (bytes : List ℕ) (read : Result ReadGroup GroupFault) → GroupRead 1 bytes read
    → FramesRead bytes (read >>= λ manifests. files_at manifests.1)
frames_from bytes read (whole manifests behind each spelled next) =
    by (files_at behind) (files_read behind next.fits)
  where
    first : AreChunks bytes manifests (empty_chunk ++ behind)
    first = record { each = contents_only 1 manifests each; spelled = spelled }

    by : (read : Result (List ℕ) GroupFault) → FilesRead behind read → FramesRead bytes read
    by read (all files rest are) =
        framed rest (record {
          manifests = manifests;
          files = files;
          behind = behind;
          first = first;
          second = are;
        })
    by read (stopped fault wrong) = cracked fault (in_files manifests behind first wrong)
frames_from bytes read (broken fault manifests rest each spelled wrong) =
    cracked fault (in_manifests manifests rest
    (record { each = contents_only 1 manifests each; spelled = spelled }) wrong)

-- what a changegroup of a known version gives
data EntriesRead {A : Type 0} (version : Version) (payload : List ℕ) : Result (List (Entry A)) GroupFault
    → Type 0 where
  given : (entries : List (Entry A)) → IsGroup version payload entries []
      → EntriesRead version payload (Ok entries)
  faulty : (fault : GroupFault) → GroupBreaks A version payload fault → EntriesRead version payload (Err fault)
  followed : HasLeftover A version payload → EntriesRead version payload (Err Leftover)

ended_read : {A : Type 0} (version : Version) (payload : List ℕ) (entries : List (Entry A)) (rest : List ℕ)
    → IsGroup version payload entries rest → EntriesRead version payload (ended rest entries)
ended_read version payload entries [] group = given entries group
ended_read version payload entries (byte ∷ bytes) group =
    followed (record { entries = entries; rest = byte ∷ bytes; whole = group; some = omega arith })

-- one step after another, or both at once
in_turn : {X Y Z : Type 0} (read : Result X GroupFault) (f : X → Result Y GroupFault) (g : Y
    → Result Z GroupFault) → (read >>= λ x. f x >>= g) ≡ (read >>= f) >>= g
in_turn (Ok x) f g = refl
in_turn (Err fault) f g = refl

entries_from : {A : Type 0} (version : Version) (payload : List ℕ) (read : Result ReadGroup GroupFault)
    → GroupRead (header_size version) payload read
    → EntriesRead {A = A} version payload (read >>= λ changesets. group_at 1 changesets.1
    >>= λ manifests. files_at manifests.1
    >>= λ rest. ended rest (entries_behind version None changesets.0))
entries_from {A} version payload read (whole contents behind each spelled next) =
    subst (EntriesRead version payload)
    (sym (in_turn (group_at 1 behind) (λ manifests. files_at manifests.1)
    (λ rest. ended rest (entries_behind version None contents))))
    (by (group_at 1 behind >>= λ manifests. files_at manifests.1)
    (frames_from behind (group_at 1 behind) (group_read 1 behind next.fits)))
  where
    are : AreChangesets version payload (changesets_behind {A = A} version None contents) (empty_chunk
        ++ behind)
    are = changesets_read version payload contents (empty_chunk ++ behind) each spelled

    by : (read : Result (List ℕ) GroupFault) → FramesRead behind read
        → EntriesRead {A = A} version payload (read
        >>= λ rest. ended rest (entries_behind version None contents))
    by read (framed rest frames) =
        let entries = entries_behind version None contents in
        ended_read version payload entries rest
        (whole_group version payload behind rest entries (
          changesets_behind version None contents,
          are,
          all_entries version None contents,
        ) frames)
    by read (cracked fault wrong) =
        faulty fault (in_frames (changesets_behind version None contents) behind are wrong)
entries_from {A} version payload read (broken fault contents rest each spelled wrong) =
    faulty fault (in_changesets (changesets_behind version None contents) rest
    (changesets_read version payload contents rest each spelled) wrong)

entries_read : {A : Type 0} (version : Version) (payload : List ℕ) → IsBytes payload
    → EntriesRead {A = A} version payload (entries_at version payload)
unfolding entries_at
entries_read version payload fits =
    entries_from version payload (group_at (header_size version) payload)
    (group_read (header_size version) payload fits)

-- ---- its version

data VersionRead (name : List ℕ) : Result Version GroupFault → Type 0 where
  named : (version : Version) → name ≡ name_of version → VersionRead name (Ok version)
  nameless : IsUnknown name → VersionRead name (Err UnknownVersion)

version_read : (name : List ℕ) → VersionRead name (version_at name)
unfolding version_at
version_read name = by (bytes_eq name (name_of V01)) refl (bytes_eq name (name_of V02)) refl
  where
    by : (first : Bool) → bytes_eq name (name_of V01) ≡ first → (second : Bool)
        → bytes_eq name (name_of V02) ≡ second
        → VersionRead name (cond first (Ok V01) (cond second (Ok V02) (Err UnknownVersion)))
    by true first second second-is = named V01 ((bytes_eq-Decides name (name_of V01)).0 first)
    by false first true second = named V02 ((bytes_eq-Decides name (name_of V02)).0 second)
    by false first false second = nameless neither
      where
        neither : IsUnknown name
        neither V01 same = let told = (bytes_eq-Decides name (name_of V01)).1 same in cc
        neither V02 same = let told = (bytes_eq-Decides name (name_of V02)).1 same in cc

-- ---- its outcome

of_version : {A : Type 0} (name payload : List ℕ) (version : Version)
    (read : Result (List (Entry A)) GroupFault) → name ≡ name_of version → EntriesRead version payload read
    → IsOutcome A name payload read
of_version name payload version read is (given entries group) = gives entries (version, is, group)
of_version name payload version read is (faulty fault wrong) = breaks fault (version, is, wrong)
of_version name payload version read is (followed left) = left_over (version, is, left)

pub outcome_is : (A : Type 0) (name payload : List ℕ) → IsBytes payload
    → IsOutcome A name payload (outcome_of name payload)
unfolding outcome_of
outcome_is A name payload fits = by (version_at name) (version_read name)
  where
    by : (read : Result Version GroupFault) → VersionRead name read
        → IsOutcome A name payload (read >>= λ version. entries_at version payload)
    by read (named version is) =
        of_version name payload version (entries_at version payload) is (entries_read version payload fits)
    by read (nameless none) = unknown none

-- whatever is an outcome is that one
pub is_outcome_of : {A : Type 0} (name payload : List ℕ) (outcome : Result (List (Entry A)) GroupFault)
    → IsBytes payload → IsOutcome A name payload outcome → outcome ≡ outcome_of name payload
is_outcome_of {A} name payload outcome fits is =
    outcome_once name payload outcome (outcome_of name payload) is (outcome_is A name payload fits)

abbrev failed : {A : Type 0} → GroupFault → Result (List (Entry A)) GroupFault
failed fault = Err fault

-- a fault that was handed on is that one, unless memory was refused
pub fault_is_outcome : {A : Type 0} (name payload : List ℕ) (outcome : Result (List (Entry A)) GroupFault)
    (fault told : GroupFault) → IsBytes payload → outcome ≡ Err told → told ≡ fault
    → (fault ≢ NoMemory → IsOf name (λ v. GroupBreaks A v payload fault)) → outcome ≢ Err NoMemory
    → outcome ≡ outcome_of name payload
fault_is_outcome name payload outcome fault told fits is same wrong other =
    let failure : outcome ≡ failed fault = is ∙ ap failed same in
    let memory : fault ≢ NoMemory = λ refused. other (failure ∙ ap failed refused) in
    failure ∙ is_outcome_of name payload (Err fault) fits (breaks fault (wrong memory))

-- bytes after a whole changegroup
pub leftover_is_outcome : {A : Type 0} (name payload rest : List ℕ) (version : Version)
    (entries : List (Entry A)) → IsBytes payload → name ≡ name_of version
    → IsGroup version payload entries rest → 0 < length rest
    → failed {A = A} Leftover ≡ outcome_of name payload
leftover_is_outcome name payload rest version entries fits is group some =
    is_outcome_of name payload (Err Leftover) fits
    (left_over (version, is, record { entries = entries; rest = rest; whole = group; some = some }))
