-- A changegroup has one outcome.
use Rattle.std.proofs.Common.{◌≡◌, ℕ, ◌≤◌, List, [], ◌∷◌, ◌++◌, length, get_or, map, Result, Ok, Err, refl}
use Rattle.std.proofs.Common.{sym, ap, subst, ◌∙◌, append_assoc, arith, inl, inr}
use Rattle.std.specs.List.{AllByRecursion, flat_map}
use Rattle.std.proofs.lemmas.List.{length-append, append_cancel_left}
use Rattle.hg_types.specs.declared.node.Node.{Node}
use Rattle.hg_types.specs.declared.entry.Entry.{Entry}
use Rattle.hg_cgroup.specs.declared.fault.GroupFault.{GroupFault}
use Rattle.hg_cgroup.specs.declared.version.Version.{Version}
use Rattle.hg_cgroup.specs.declared.version.Version.TheVariants.{V01, V02}
use Rattle.hg_cgroup.specs.Chunk.{chunk_bytes, empty_chunk, IsChunkFault}
use Rattle.hg_cgroup.specs.Changeset.{Changeset, IsChangeset, changeset_bytes, header_size, entries_of}
use Rattle.hg_cgroup.specs.Changeset.{bases_behind, HasBases, AreChangesets, name_of}
use Rattle.hg_cgroup.specs.Group.{file_bytes, delta_group, AreFrames, IsGroup}
use Rattle.hg_cgroup.specs.Faults.{IsUnknown, IsOf, BreaksInFrames, GroupBreaks, in_changesets, in_frames}
use Rattle.hg_cgroup.specs.Faults.{HasLeftover, IsOutcome, gives, unknown, breaks, left_over}
use Rattle.hg_cgroup.proofs.Lengths.{fronts}
use Rattle.hg_cgroup.proofs.OneChunk.{empty_or_fault, fault_once, Stops, IsEnough, chunks_once}
use Rattle.hg_cgroup.proofs.OneReading.{frames_broken, frames_whole, frames_ended}

-- ---- one changeset

abbrev id_of : List ℕ → Node
id_of bytes = record { 0 = bytes }

-- an id, and what follows it
id_first : (a b : Node) (x y : List ℕ) → length a.0 ≡ 20 → length b.0 ≡ 20 → a.0 ++ x ≡ b.0 ++ y → (a ≡ b)
    × (x ≡ y)
id_first a b x y len_a len_b same =
    let both = fronts a.0 b.0 x y (len_a ∙ sym len_b) same in
    (ap id_of both.0, both.1)

-- the fields of an entry that version 01 spells
record SameButBase {A : Type 0} (e f : Entry A) : Type 0 where
  pub node : e.node ≡ f.node
  pub p1 : e.p1 ≡ f.p1
  pub p2 : e.p2 ≡ f.p2
  pub delta : e.delta ≡ f.delta

same_01 : {A : Type 0} (c d : Changeset A) → IsChangeset V01 c → IsChangeset V01 d
    → changeset_bytes V01 c ≡ changeset_bytes V01 d → SameButBase c.entry d.entry
same_01 c d is_c is_d same =
    let one = id_first c.entry.node d.entry.node (c.entry.p1.0 ++ (c.entry.p2.0 ++ (c.link ++ c.entry.delta)))
    (d.entry.p1.0 ++ (d.entry.p2.0 ++ (d.link ++ d.entry.delta))) is_c.node is_d.node same in
    let two = id_first c.entry.p1 d.entry.p1 (c.entry.p2.0 ++ (c.link ++ c.entry.delta)) (d.entry.p2.0
    ++ (d.link ++ d.entry.delta)) is_c.p1 is_d.p1 one.1 in
    let three = id_first c.entry.p2 d.entry.p2 (c.link ++ c.entry.delta) (d.link
    ++ d.entry.delta) is_c.p2 is_d.p2 two.1 in
    let four = fronts c.link d.link c.entry.delta d.entry.delta (is_c.link ∙ sym is_d.link) three.1 in
    record { node = one.0; p1 = two.0; p2 = three.0; delta = four.1 }

abbrev entry_of : {A : Type 0} → Node → Node → Node → Node → List ℕ → Entry A
entry_of node p1 p2 base delta = record { node = node; p1 = p1; p2 = p2; base = base; delta = delta }

with_base : {A : Type 0} (e f : Entry A) → SameButBase e f → e.base ≡ f.base → e ≡ f
with_base {A} e f same bases =
    let node = same.node in
    let p1 = same.p1 in
    let p2 = same.p2 in
    let delta = same.delta in
    let whole : entry_of {A = A} e.node e.p1 e.p2 e.base e.delta ≡ entry_of f.node f.p1 f.p2 f.base f.delta =
    cc in
    whole

same_02 : {A : Type 0} (c d : Changeset A) → IsChangeset V02 c → IsChangeset V02 d
    → changeset_bytes V02 c ≡ changeset_bytes V02 d → c.entry ≡ d.entry
same_02 c d is_c is_d same =
    let one = id_first c.entry.node d.entry.node (c.entry.p1.0
    ++ (c.entry.p2.0 ++ (c.entry.base.0 ++ (c.link ++ c.entry.delta)))) (d.entry.p1.0
    ++ (d.entry.p2.0 ++ (d.entry.base.0 ++ (d.link ++ d.entry.delta)))) is_c.node is_d.node same in
    let two = id_first c.entry.p1 d.entry.p1 (c.entry.p2.0 ++ (c.entry.base.0 ++ (c.link ++ c.entry.delta)))
    (d.entry.p2.0 ++ (d.entry.base.0 ++ (d.link ++ d.entry.delta))) is_c.p1 is_d.p1 one.1 in
    let three = id_first c.entry.p2 d.entry.p2 (c.entry.base.0 ++ (c.link ++ c.entry.delta)) (d.entry.base.0
    ++ (d.link ++ d.entry.delta)) is_c.p2 is_d.p2 two.1 in
    let four = id_first c.entry.base d.entry.base (c.link ++ c.entry.delta) (d.link
    ++ d.entry.delta) is_c.base is_d.base three.1 in
    let five = fronts c.link d.link c.entry.delta d.entry.delta (is_c.link ∙ sym is_d.link) four.1 in
    with_base c.entry d.entry (record { node = one.0; p1 = two.0; p2 = three.0; delta = five.1 }) four.0

-- ---- the list of them

abbrev contents_of : {A : Type 0} → Version → List (Changeset A) → List (List ℕ)
contents_of version changesets = map (changeset_bytes version) changesets

long_enough : {A : Type 0} (version : Version) (c : Changeset A) → IsChangeset version c
    → header_size version ≤ length (changeset_bytes version c)
long_enough V01 c is =
    omega (
      arith,
      is.node,
      is.p1,
      is.p2,
      is.link,
      length-append c.entry.node.0 (c.entry.p1.0 ++ (c.entry.p2.0 ++ (c.link ++ c.entry.delta))),
      length-append c.entry.p1.0 (c.entry.p2.0 ++ (c.link ++ c.entry.delta)),
      length-append c.entry.p2.0 (c.link ++ c.entry.delta),
      length-append c.link c.entry.delta,
    )
long_enough V02 c is =
    omega (
      arith,
      is.node,
      is.p1,
      is.p2,
      is.base,
      is.link,
      length-append c.entry.node.0 (c.entry.p1.0
          ++ (c.entry.p2.0 ++ (c.entry.base.0 ++ (c.link ++ c.entry.delta)))),
      length-append c.entry.p1.0 (c.entry.p2.0 ++ (c.entry.base.0 ++ (c.link ++ c.entry.delta))),
      length-append c.entry.p2.0 (c.entry.base.0 ++ (c.link ++ c.entry.delta)),
      length-append c.entry.base.0 (c.link ++ c.entry.delta),
      length-append c.link c.entry.delta,
    )

all_enough : {A : Type 0} (version : Version) (cs : List (Changeset A))
    → AllByRecursion (IsChangeset version) cs
    → AllByRecursion (IsEnough (header_size version)) (contents_of version cs)
all_enough version [] each = tt
all_enough version (c ∷ cs) each = ((each.0.fits, long_enough version c each.0), all_enough version cs each.1)

head_once : {X : Type 0} (x y : X) (xs ys : List X) → x ∷ xs ≡ y ∷ ys → (x ≡ y) × (xs ≡ ys)
head_once x y xs ys same = (cc, cc)

entries_02 : {A : Type 0} (cs ds : List (Changeset A)) → AllByRecursion (IsChangeset V02) cs
    → AllByRecursion (IsChangeset V02) ds → contents_of V02 cs ≡ contents_of V02 ds
    → entries_of cs ≡ entries_of ds
entries_02 [] [] all_c all_d same = refl
entries_02 [] (d ∷ ds) all_c all_d same = absurd cc
entries_02 (c ∷ cs) [] all_c all_d same = absurd cc
entries_02 (c ∷ cs) (d ∷ ds) all_c all_d same =
    let both = head_once (changeset_bytes V02 c) (changeset_bytes V02 d) (contents_of V02 cs)
    (contents_of V02 ds) same in
    let first = same_02 c d all_c.0 all_d.0 both.0 in
    let others = entries_02 cs ds all_c.1 all_d.1 both.1 in
    cc

abbrev bases_of : {A : Type 0} → List (Changeset A) → List Node
bases_of changesets = map (λ entry. entry.base) (entries_of changesets)

-- in 01 the entries after one with a node are one, where their bases follow from it
entries_01 : {A : Type 0} (before : Node) (cs ds : List (Changeset A)) → AllByRecursion (IsChangeset V01) cs
    → AllByRecursion (IsChangeset V01) ds → contents_of V01 cs ≡ contents_of V01 ds
    → bases_of cs ≡ bases_behind before (entries_of cs) → bases_of ds ≡ bases_behind before (entries_of ds)
    → entries_of cs ≡ entries_of ds
entries_01 before [] [] all_c all_d same bases_c bases_d = refl
entries_01 before [] (d ∷ ds) all_c all_d same bases_c bases_d = absurd cc
entries_01 before (c ∷ cs) [] all_c all_d same bases_c bases_d = absurd cc
entries_01 before (c ∷ cs) (d ∷ ds) all_c all_d same bases_c bases_d =
    let both = head_once (changeset_bytes V01 c) (changeset_bytes V01 d) (contents_of V01 cs)
    (contents_of V01 ds) same in
    let but_base = same_01 c d all_c.0 all_d.0 both.0 in
    let here_c = head_once c.entry.base before (bases_of cs)
    (bases_behind c.entry.node (entries_of cs)) bases_c in
    let here_d = head_once d.entry.base before (bases_of ds)
    (bases_behind d.entry.node (entries_of ds)) bases_d in
    let first = with_base c.entry d.entry but_base (here_c.0 ∙ sym here_d.0) in
    let others = entries_01 c.entry.node cs ds all_c.1 all_d.1 both.1 here_c.1
    (subst (λ (n : Node). bases_of ds ≡ bases_behind n (entries_of ds)) (sym but_base.node) here_d.1) in
    cc

entries_once : {A : Type 0} (version : Version) (cs ds : List (Changeset A))
    → AllByRecursion (IsChangeset version) cs → AllByRecursion (IsChangeset version) ds
    → contents_of version cs ≡ contents_of version ds
    → HasBases version (entries_of cs) → HasBases version (entries_of ds) → entries_of cs ≡ entries_of ds
entries_once V02 cs ds all_c all_d same bases_c bases_d = entries_02 cs ds all_c all_d same
entries_once V01 [] [] all_c all_d same bases_c bases_d = refl
entries_once V01 [] (d ∷ ds) all_c all_d same bases_c bases_d = absurd cc
entries_once V01 (c ∷ cs) [] all_c all_d same bases_c bases_d = absurd cc
entries_once V01 (c ∷ cs) (d ∷ ds) all_c all_d same bases_c bases_d =
    let both = head_once (changeset_bytes V01 c) (changeset_bytes V01 d) (contents_of V01 cs)
    (contents_of V01 ds) same in
    let but_base = same_01 c d all_c.0 all_d.0 both.0 in
    entries_01 c.entry.p1 (c ∷ cs) (d ∷ ds) all_c all_d same bases_c
    (subst (λ (n : Node). bases_of (d ∷ ds) ≡ bases_behind n (entries_of (d ∷ ds)))
    (sym but_base.p1) bases_d)

-- ---- the changesets of one payload

changesets_once : {A : Type 0} (version : Version) (payload : List ℕ) (cs ds : List (Changeset A))
    (x y : List ℕ) → AreChangesets version payload cs x → AreChangesets version payload ds y
    → Stops (header_size version) x → Stops (header_size version) y
    → (contents_of version cs ≡ contents_of version ds) × (x ≡ y)
changesets_once version payload cs ds x y p q stop_x stop_y =
    chunks_once (header_size version) (contents_of version cs) (contents_of version ds) x y
    (all_enough version cs p.each) (all_enough version ds q.each) (sym p.spelled
    ∙ q.spelled) stop_x stop_y

record SameEntries {A : Type 0} (cs ds : List (Changeset A)) (x y : List ℕ) : Type 0 where
  pub entries : entries_of cs ≡ entries_of ds
  pub rests : x ≡ y

changesets_ended : {A : Type 0} (version : Version) (payload : List ℕ) (cs ds : List (Changeset A))
    (x y : List ℕ) → AreChangesets version payload cs (empty_chunk ++ x)
    → AreChangesets version payload ds (empty_chunk ++ y)
    → SameEntries cs ds x y
changesets_ended version payload cs ds x y p q =
    let both = changesets_once version payload cs ds (empty_chunk ++ x) (empty_chunk ++ y) p q (inl (x, refl))
    (inl (y, refl)) in
    record {
      entries = entries_once version cs ds p.each q.each both.0 p.bases q.bases;
      rests = append_cancel_left empty_chunk x y both.1;
    }

changesets_broken : {A : Type 0} (fault : GroupFault) (version : Version) (payload : List ℕ)
    (cs ds : List (Changeset A)) (x y : List ℕ) → AreChangesets version payload cs (empty_chunk ++ x)
    → AreChangesets version payload ds y → IsChunkFault fault (header_size version) y → ⊥
changesets_broken fault version payload cs ds x y p q wrong =
    let both = changesets_once version payload cs ds (empty_chunk ++ x) y p q (inl (x, refl))
    (inr (fault, wrong)) in
    empty_or_fault fault (header_size version) x
    (subst (IsChunkFault fault (header_size version)) (sym both.1) wrong)

-- the parts of a whole changegroup
record Parts {A : Type 0} (version : Version) (payload : List ℕ) (entries : List (Entry A))
    (rest : List ℕ) : Type 0 where
  pub changesets : List (Changeset A)
  pub behind : List ℕ
  pub first : AreChangesets version payload changesets (empty_chunk ++ behind)
  pub frames : AreFrames behind rest
  pub entries_are : entries ≡ entries_of changesets

parts_of : {A : Type 0} (version : Version) (payload : List ℕ) (entries : List (Entry A)) (rest : List ℕ)
    → IsGroup version payload entries rest → Parts version payload entries rest
parts_of version payload entries rest g =
    let files = flat_map file_bytes g.files ++ (empty_chunk ++ rest) in
    let contents = contents_of version g.changesets in
    record {
      changesets = g.changesets;
      behind = delta_group g.manifests ++ files;
      first = record {
        each = g.each_changeset;
        bases = g.bases;
        spelled = g.spelled
            ∙ append_assoc (flat_map chunk_bytes contents) empty_chunk (delta_group g.manifests ++ files);
      };
      frames = record {
        manifests = g.manifests;
        files = g.files;
        behind = files;
        first = record {
          each = g.each_manifest;
          spelled = append_assoc (flat_map chunk_bytes g.manifests) empty_chunk files;
        };
        second = record { each = g.each_file; spelled = refl };
      };
      entries_are = g.entries_are;
    }

record SameGroup {A : Type 0} (es fs : List (Entry A)) (x y : List ℕ) : Type 0 where
  pub entries : es ≡ fs
  pub rests : x ≡ y

groups_once : {A : Type 0} (version : Version) (payload : List ℕ) (es fs : List (Entry A)) (x y : List ℕ)
    → IsGroup version payload es x → IsGroup version payload fs y → SameGroup es fs x y
groups_once version payload es fs x y p q =
    let a = parts_of version payload es x p in
    let b = parts_of version payload fs y q in
    let same = changesets_ended version payload a.changesets b.changesets a.behind b.behind a.first b.first in
    record {
      entries = a.entries_are ∙ (same.entries ∙ sym b.entries_are);
      rests = frames_ended b.behind x y (subst (λ (z : List ℕ). AreFrames z x) same.rests a.frames)
          b.frames;
    }

group_or_fault : {A : Type 0} (version : Version) (payload : List ℕ) (es : List (Entry A)) (rest : List ℕ)
    (fault : GroupFault) → IsGroup version payload es rest → GroupBreaks A version payload fault → ⊥
group_or_fault version payload es rest fault p (in_changesets cs x are wrong) =
    let a = parts_of version payload es rest p in
    changesets_broken fault version payload a.changesets cs a.behind x a.first are wrong
group_or_fault version payload es rest fault p (in_frames cs x are wrong) =
    let a = parts_of version payload es rest p in
    let same = changesets_ended version payload a.changesets cs a.behind x a.first are in
    frames_whole fault x rest (subst (λ (z : List ℕ). AreFrames z rest) same.rests a.frames) wrong

faults_once : {A : Type 0} (version : Version) (payload : List ℕ) (f g : GroupFault)
    → GroupBreaks A version payload f → GroupBreaks A version payload g → f ≡ g
faults_once version payload f g (in_changesets cs x p wrong) (in_changesets ds y q wrong') =
    let both = changesets_once version payload cs ds x y p q (inr (f, wrong)) (inr (g, wrong')) in
    fault_once f g (header_size version) y (subst (IsChunkFault f (header_size version)) both.1 wrong) wrong'
faults_once version payload f g (in_changesets cs x p wrong) (in_frames ds y q frames) =
    absurd (changesets_broken f version payload ds cs y x q p wrong)
faults_once version payload f g (in_frames cs x p frames) (in_changesets ds y q wrong) =
    absurd (changesets_broken g version payload cs ds x y p q wrong)
faults_once version payload f g (in_frames cs x p frames) (in_frames ds y q frames') =
    let same = changesets_ended version payload cs ds x y p q in
    frames_broken f g y (subst (λ (z : List ℕ). BreaksInFrames z f) same.rests frames) frames'

-- ---- outcomes

versions_once : (v w : Version) → name_of v ≡ name_of w → v ≡ w
versions_once V01 V01 same = refl
versions_once V01 V02 same = absurd (omega (arith, ap (λ (name : List ℕ). get_or name 1 0) same))
versions_once V02 V01 same = absurd (omega (arith, ap (λ (name : List ℕ). get_or name 1 0) same))
versions_once V02 V02 same = refl

known : (name : List ℕ) (holds : Version → Type 0) → IsUnknown name → IsOf name holds → ⊥
known name holds none is = none is.0 is.1

-- what holds of the other's version
moved : (name : List ℕ) (P Q : Version → Type 0) (p : IsOf name P) (q : IsOf name Q) → Q p.0
moved name P Q p q = subst Q (versions_once q.0 p.0 (sym q.1 ∙ p.1)) q.2

abbrev gave : {A : Type 0} → List (Entry A) → Result (List (Entry A)) GroupFault
gave entries = Ok entries

abbrev refused : {A : Type 0} → GroupFault → Result (List (Entry A)) GroupFault
refused fault = Err fault

broken_or_left : {A : Type 0} (name payload : List ℕ) (fault : GroupFault)
    → IsOf name (λ v. GroupBreaks A v payload fault) → IsOf name (λ v. HasLeftover A v payload) → ⊥
broken_or_left {A} name payload fault p q =
    let left = moved name (λ v. GroupBreaks A v payload fault) (λ v. HasLeftover A v payload) p q in
    group_or_fault p.0 payload left.entries left.rest fault left.whole p.2

whole_or_broken : {A : Type 0} (name payload : List ℕ) (entries : List (Entry A)) (fault : GroupFault)
    → IsOf name (λ v. IsGroup v payload entries []) → IsOf name (λ v. GroupBreaks A v payload fault) → ⊥
whole_or_broken {A} name payload entries fault p q =
    group_or_fault p.0 payload entries [] fault p.2
    (moved name (λ v. IsGroup v payload entries []) (λ v. GroupBreaks A v payload fault) p q)

whole_or_left : {A : Type 0} (name payload : List ℕ) (entries : List (Entry A))
    → IsOf name (λ v. IsGroup v payload entries []) → IsOf name (λ v. HasLeftover A v payload) → ⊥
whole_or_left {A} name payload entries p q =
    let left = moved name (λ v. IsGroup v payload entries []) (λ v. HasLeftover A v payload) p q in
    let same = groups_once p.0 payload entries left.entries [] left.rest p.2 left.whole in
    omega (arith, left.some, ap length same.rests)

-- A changegroup has one outcome.
pub outcome_once : {A : Type 0} (name payload : List ℕ) (a b : Result (List (Entry A)) GroupFault)
    → IsOutcome A name payload a → IsOutcome A name payload b → a ≡ b
outcome_once {A} name payload a b (gives es p) (gives fs q) =
    ap gave (groups_once p.0 payload es fs [] [] p.2
    (moved name (λ v. IsGroup v payload es []) (λ v. IsGroup v payload fs []) p q)).entries
outcome_once {A} name payload a b (gives es p) (unknown q) =
    absurd (known name (λ v. IsGroup v payload es []) q p)
outcome_once {A} name payload a b (gives es p) (breaks fault q) =
    absurd (whole_or_broken name payload es fault p q)
outcome_once {A} name payload a b (gives es p) (left_over q) = absurd (whole_or_left name payload es p q)
outcome_once {A} name payload a b (unknown p) (gives fs q) =
    absurd (known name (λ v. IsGroup v payload fs []) p q)
outcome_once {A} name payload a b (unknown p) (unknown q) = refl
outcome_once {A} name payload a b (unknown p) (breaks fault q) =
    absurd (known name (λ v. GroupBreaks A v payload fault) p q)
outcome_once {A} name payload a b (unknown p) (left_over q) =
    absurd (known name (λ v. HasLeftover A v payload) p q)
outcome_once {A} name payload a b (breaks f p) (gives fs q) = absurd (whole_or_broken name payload fs f q p)
outcome_once {A} name payload a b (breaks f p) (unknown q) =
    absurd (known name (λ v. GroupBreaks A v payload f) q p)
outcome_once {A} name payload a b (breaks f p) (breaks g q) =
    ap refused (faults_once p.0 payload f g p.2
    (moved name (λ v. GroupBreaks A v payload f) (λ v. GroupBreaks A v payload g) p q))
outcome_once {A} name payload a b (breaks f p) (left_over q) = absurd (broken_or_left name payload f p q)
outcome_once {A} name payload a b (left_over p) (gives fs q) = absurd (whole_or_left name payload fs q p)
outcome_once {A} name payload a b (left_over p) (unknown q) =
    absurd (known name (λ v. HasLeftover A v payload) q p)
outcome_once {A} name payload a b (left_over p) (breaks f q) = absurd (broken_or_left name payload f q p)
outcome_once {A} name payload a b (left_over p) (left_over q) = refl
