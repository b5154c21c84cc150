-- What stands at the front of a changegroup, chunk after chunk.
use Rattle.std.proofs.Common.{◌≡◌, ℕ, List, [], ◌∷◌, ◌++◌, Result, Ok, Err, sym, ap, ◌∙◌, append_assoc}
use Rattle.std.specs.Prelude.{IfErr}
use Rattle.std.specs.List.{AllByRecursion, flat_map}
use Rattle.std.proofs.lemmas.List.{append-nil}
use Rattle.std.proofs.lemmas.Grind.{flat_map-append}
use Rattle.hg_cgroup.specs.declared.fault.GroupFault.{GroupFault}
use Rattle.hg_cgroup.specs.Chunk.{chunk_bytes, empty_chunk, IsContent, AreChunks, IsChunkFault}
use Rattle.hg_cgroup.specs.Group.{File, IsFile, file_bytes, delta_group, AreFiles}
use Rattle.hg_cgroup.specs.Faults.{BreaksAtFile, at_name, in_file, BreaksInFrames, in_manifests, in_files}

pub all_more : {X : Type 0} (P : X → Type 0) (xs : List X) (x : X) → AllByRecursion P xs → P x
    → AllByRecursion P (xs ++ x ∷ [])
all_more P [] x all one = (one, tt)
all_more P (y ∷ xs) x all one = (all.0, all_more P xs x all.1 one)

-- items that are joined, one item more, and the rest
pub joined_more : {X : Type 0} (f : X → List ℕ) (xs : List X) (x : X) (bytes rest after : List ℕ)
    → bytes ≡ flat_map f xs ++ rest → rest ≡ f x ++ after → bytes ≡ flat_map f (xs ++ x ∷ []) ++ after
joined_more f xs x bytes rest after spelled first =
    let one : flat_map f (x ∷ []) ≡ f x = append-nil (f x) in
    spelled ∙ (ap (λ (y : List ℕ). flat_map f xs ++ y) first ∙ (sym (append_assoc (flat_map f xs) (f x) after)
    ∙ ap (λ (y : List ℕ). y ++ after) (ap (λ (y : List ℕ). flat_map f xs ++ y) (sym one)
    ∙ sym (flat_map-append f xs (x ∷ [])))))

-- some whole chunks, and then that rest
abbrev pub SomeChunks : List ℕ → List ℕ → Type 0
SomeChunks bytes rest = (chunks : List (List ℕ)) × AreChunks bytes chunks rest

pub more_chunks : (bytes rest after content : List ℕ) → SomeChunks bytes rest → rest ≡ chunk_bytes content
    ++ after → IsContent content → SomeChunks bytes after
more_chunks bytes rest after content some first is = (
  some.0 ++ content ∷ [],
  record {
    each = all_more IsContent some.0 content some.1.each is;
    spelled = joined_more chunk_bytes some.0 content bytes rest after some.1.spelled first;
  },
)

-- some whole files, and then that rest
abbrev pub SomeFiles : List ℕ → List ℕ → Type 0
SomeFiles bytes rest = (files : List File) × AreFiles bytes files rest

-- a name, whole chunks and an empty one are a file
pub more_files : (bytes rest inside after name : List ℕ) → SomeFiles bytes rest → rest ≡ chunk_bytes name
    ++ inside → IsContent name → SomeChunks inside (empty_chunk ++ after) → SomeFiles bytes after
more_files bytes rest inside after name some first is chunks =
    let file : File = record { name = name; chunks = chunks.0 } in
    let closed : inside ≡ delta_group chunks.0 ++ after = chunks.1.spelled
    ∙ sym (append_assoc (flat_map chunk_bytes chunks.0) empty_chunk after) in
    let whole : rest ≡ file_bytes file ++ after = first
    ∙ (ap (λ (y : List ℕ). chunk_bytes name ++ y) closed
    ∙ sym (append_assoc (chunk_bytes name) (delta_group chunks.0) after)) in (
      some.0 ++ file ∷ [],
      record {
        each = all_more IsFile some.0 file some.1.each
            (record { name = is; each = chunks.1.each });
        spelled = joined_more file_bytes some.0 file bytes rest after some.1.spelled whole;
      },
    )

pub name_broken : (fault : GroupFault) (bytes rest : List ℕ) → SomeFiles bytes rest
    → IsChunkFault fault 1 rest → BreaksAtFile bytes fault
name_broken fault bytes rest some broken = at_name some.0 rest some.1 broken

pub file_broken : (fault : GroupFault) (bytes rest inside name : List ℕ) → SomeFiles bytes rest
    → rest ≡ chunk_bytes name ++ inside → IsContent name
    → ((chunks : List (List ℕ)) × (last : List ℕ) × AreChunks inside chunks last × IsChunkFault fault 1 last)
    → BreaksAtFile bytes fault
file_broken fault bytes rest inside name some first is broken =
    in_file some.0 name broken.0 inside broken.1
    (record {
      each = some.1.each;
      spelled = some.1.spelled
          ∙ ap (λ (y : List ℕ). flat_map file_bytes some.0 ++ y) first;
    }) is broken.2 broken.3

pub manifests_broken : (fault : GroupFault) (bytes : List ℕ)
    → ((manifests : List (List ℕ)) × (rest : List ℕ) × AreChunks bytes manifests rest
    × IsChunkFault fault 1 rest) → BreaksInFrames bytes fault
manifests_broken fault bytes broken = in_manifests broken.0 broken.1 broken.2 broken.3

pub files_broken : (fault : GroupFault) (bytes behind : List ℕ) → SomeChunks bytes (empty_chunk ++ behind)
    → BreaksAtFile behind fault → BreaksInFrames bytes fault
files_broken fault bytes behind some broken = in_files some.0 behind some.1 broken

pub err_weaker : {X E : Type 0} (r : Result X E) (P Q : E → Type 0) → ((e : E) → P e → Q e) → IfErr r P
    → IfErr r Q
err_weaker (Ok x) P Q weaker h = tt
err_weaker (Err e) P Q weaker h = weaker e h
