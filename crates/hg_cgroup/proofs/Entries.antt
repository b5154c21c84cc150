-- Changesets at the front of a changegroup, and their bases.
use Rattle.std.proofs.Common.{◌≡◌, ◌≢◌, ℕ, Option, Some, None, List, [], ◌∷◌, ◌++◌, map, refl, sym, ap, subst}
use Rattle.std.proofs.Common.{◌∙◌, append_assoc}
use Rattle.std.specs.Prelude.{unwrap_or}
use Rattle.std.specs.List.{flat_map, last_or}
use Rattle.std.proofs.lemmas.List.{map-append}
use Rattle.hg_types.specs.declared.node.Node.{Node}
use Rattle.hg_types.specs.declared.entry.Entry.{Entry}
use Rattle.hg_cgroup.specs.declared.version.Version.{Version}
use Rattle.hg_cgroup.specs.declared.version.Version.TheVariants.{V01, V02}
use Rattle.hg_cgroup.specs.declared.fault.GroupFault.{GroupFault}
use Rattle.hg_cgroup.specs.declared.fault.GroupFault.TheVariants.{NoMemory}
use Rattle.hg_cgroup.specs.Chunk.{chunk_bytes, empty_chunk, IsContent, IsChunkFault}
use Rattle.hg_cgroup.specs.Group.{delta_group, file_bytes, AreFrames, IsGroup}
use Rattle.hg_cgroup.specs.Faults.{IsOf, BreaksInFrames, GroupBreaks, in_changesets, in_frames}
use Rattle.hg_cgroup.specs.Changeset.{name_of, header_size, Changeset, IsChangeset, changeset_bytes}
use Rattle.hg_cgroup.specs.Changeset.{entries_of, bases_behind, bases_in_order, HasBases, IsBase, IsSpelled}
use Rattle.hg_cgroup.specs.Changeset.{AreChangesets}
use Rattle.hg_cgroup.proofs.Fronts.{all_more, joined_more}

abbrev pub nodes_of : {A : Type 0} → List (Entry A) → List Node
nodes_of entries = map (λ entry. entry.node) entries

abbrev pub bases_of : {A : Type 0} → List (Entry A) → List Node
bases_of entries = map (λ entry. entry.base) entries

-- the base of one entry more
behind_more : {A : Type 0} (before none : Node) (entries : List (Entry A)) (entry : Entry A)
    → bases_behind before (entries ++ entry ∷ []) ≡ bases_behind before entries
    ++ unwrap_or (last_or (Some before) (nodes_of entries)) none ∷ []
behind_more before none [] entry = refl
behind_more before none (first ∷ entries) entry =
    ap (λ (bases : List Node). before ∷ bases) (behind_more first.node none entries entry)

in_order_more : {A : Type 0} (entries : List (Entry A)) (entry : Entry A)
    → bases_in_order (entries ++ entry ∷ []) ≡ bases_in_order entries
    ++ unwrap_or (last_or None (nodes_of entries)) entry.p1 ∷ []
in_order_more [] entry = refl
in_order_more (first ∷ entries) entry = behind_more first.p1 entry.p1 (first ∷ entries) entry

bases_more : {A : Type 0} (version : Version) (entries : List (Entry A)) (entry : Entry A)
    → HasBases version entries → IsBase version (last_or None (nodes_of entries)) entry
    → HasBases version (entries ++ entry ∷ [])
bases_more V01 entries entry bases base =
    map-append (λ e. e.base) entries (entry ∷ [])
    ∙ (ap (λ (ns : List Node). ns ++ entry.base ∷ []) bases
    ∙ (ap (λ (n : Node). bases_in_order entries ++ n ∷ []) base ∙ sym (in_order_more entries entry)))
bases_more V02 entries entry bases base = tt

last_more : {X : Type 0} (o : Option X) (xs : List X) (x : X) → last_or o (xs ++ x ∷ []) ≡ Some x
last_more o [] x = refl
last_more o (y ∷ xs) x = last_more (Some y) xs x

-- whole changesets were taken, with those entries, the last of that node, and then that rest
pub record Took {A : Type 0} (version : Version) (payload rest : List ℕ) (entries : List (Entry A))
    (before : Option Node) : Type 0 where
  pub changesets : List (Changeset A)
  pub are : AreChangesets version payload changesets rest
  pub entries_are : entries ≡ entries_of changesets
  pub last : before ≡ last_or None (nodes_of entries)

pub took_none : {A : Type 0} (version : Version) (payload : List ℕ)
    → Took {A = A} version payload payload [] None
took_none V01 payload = record {
  changesets = [];
  are = record { each = tt; bases = refl; spelled = refl };
  entries_are = refl;
  last = refl;
}
took_none V02 payload = record {
  changesets = [];
  are = record { each = tt; bases = tt; spelled = refl };
  entries_are = refl;
  last = refl;
}

pub took_more : {A : Type 0} (version : Version) (payload rest after content : List ℕ)
    (entries : List (Entry A)) (before : Option Node) (entry : Entry A)
    → Took version payload rest entries before → rest ≡ chunk_bytes content ++ after → IsContent content
    → IsSpelled version before content entry
    → Took version payload after (entries ++ entry ∷ []) (Some entry.node)
took_more {A} version payload rest after content entries before entry took first fits is =
    let changesets = took.changesets in
    let one : Changeset A = record { entry = entry; link = is.link } in
    let P = λ (c : Changeset A). IsChangeset version c in
    let old : entries_of changesets ≡ entries = sym took.entries_are in
    let grown : entries_of (changesets ++ one ∷ []) ≡ entries ++ entry
    ∷ [] = map-append (λ c. c.entry) changesets (one ∷ [])
    ∙ ap (λ (es : List (Entry A)). es ++ entry ∷ []) old in
    let base : IsBase version (last_or None (nodes_of entries)) entry = subst
    (λ (o : Option Node). IsBase version o entry) took.last is.based in
    let bases : HasBases version (entries ++ entry ∷ []) = bases_more version entries entry
    (subst (HasBases version) old took.are.bases) base in
    let spelled_one : rest ≡ chunk_bytes (changeset_bytes version one) ++ after = first
    ∙ ap (λ (x : List ℕ). chunk_bytes x ++ after) is.spelled in
    let spelled : payload ≡ flat_map chunk_bytes (map (changeset_bytes version) changesets
    ++ changeset_bytes version one ∷ []) ++ after =
    joined_more chunk_bytes (map (changeset_bytes version) changesets)
    (changeset_bytes version one) payload rest after took.are.spelled spelled_one in
    record {
      changesets = changesets ++ one ∷ [];
      are = record {
        each = all_more P changesets one took.are.each
            (record {
              node = is.node;
              p1 = is.p1;
              p2 = is.p2;
              base = is.base;
              link = is.linked;
              fits = subst IsContent is.spelled fits;
            });
        bases = subst (HasBases version) (sym grown) bases;
        spelled = subst (λ (contents : List (List ℕ)). payload ≡ flat_map chunk_bytes contents ++ after)
            (sym (map-append (changeset_bytes version) changesets (one ∷ []))) spelled;
      };
      entries_are = sym grown;
      last = sym (ap (last_or None) (map-append (λ e. e.node) entries (entry ∷ []))
          ∙ last_more None (nodes_of entries) entry.node);
    }

-- changesets, an empty chunk, manifests and files are a changegroup
pub whole : {A : Type 0} (version : Version) (payload behind rest : List ℕ) (entries : List (Entry A))
    → ((changesets : List (Changeset A)) × AreChangesets version payload changesets (empty_chunk ++ behind)
    × (entries ≡ entries_of changesets))
    → AreFrames behind rest → IsGroup version payload entries rest
whole version payload behind rest entries took frames =
    let contents = map (changeset_bytes version) took.0 in
    let second : behind ≡ delta_group frames.manifests
    ++ (flat_map file_bytes frames.files ++ (empty_chunk ++ rest)) =
    frames.first.spelled ∙ (sym
    (append_assoc (flat_map chunk_bytes frames.manifests) empty_chunk frames.behind)
    ∙ ap (λ (x : List ℕ). delta_group frames.manifests ++ x) frames.second.spelled) in
    record {
      changesets = took.0;
      manifests = frames.manifests;
      files = frames.files;
      each_changeset = took.1.each;
      bases = took.1.bases;
      each_manifest = frames.first.each;
      each_file = frames.second.each;
      spelled = took.1.spelled
          ∙ (sym (append_assoc (flat_map chunk_bytes contents) empty_chunk behind)
          ∙ ap (λ (x : List ℕ). delta_group contents ++ x) second);
      entries_are = took.2;
    }

-- a fault among the changesets
pub told_changesets : {A : Type 0} (name payload : List ℕ) (version : Version) (fault wanted : GroupFault)
    → name ≡ name_of version
    → (fault ≢ NoMemory → (changesets : List (Changeset A)) × (rest : List ℕ)
    × AreChangesets version payload changesets rest × IsChunkFault fault (header_size version) rest)
    → fault ≡ wanted → wanted ≢ NoMemory → IsOf name (λ v. GroupBreaks A v payload wanted)
told_changesets {A} name payload version fault wanted named broken is other =
    let found = broken (λ e. other (sym is ∙ e)) in
    (version, named, subst (GroupBreaks A version payload) is (in_changesets found.0 found.1 found.2 found.3))

-- a fault after them
pub told_frames : {A : Type 0} (name payload behind : List ℕ) (version : Version) (fault wanted : GroupFault)
    (entries : List (Entry A)) → name ≡ name_of version
    → ((changesets : List (Changeset A)) × AreChangesets version payload changesets (empty_chunk ++ behind)
    × (entries ≡ entries_of changesets))
    → BreaksInFrames behind fault → fault ≡ wanted → IsOf name (λ v. GroupBreaks A v payload wanted)
told_frames {A} name payload behind version fault wanted entries named took broken is =
    (version, named, subst (GroupBreaks A version payload) is (in_frames took.0 behind took.1 broken))
