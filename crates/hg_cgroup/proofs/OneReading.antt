-- A changegroup is read in one way.
use Rattle.std.proofs.Common.{◌≡◌, ◌⊎◌, ℕ, List, [], ◌∷◌, ◌++◌, refl, sym, ap, subst, ◌∙◌, append_assoc, inl}
use Rattle.std.proofs.Common.{inr}
use Rattle.std.specs.List.{AllByRecursion, flat_map}
use Rattle.std.proofs.lemmas.List.{append_cancel_left}
use Rattle.hg_cgroup.specs.declared.fault.GroupFault.{GroupFault}
use Rattle.hg_cgroup.specs.Chunk.{chunk_bytes, empty_chunk, IsContent, AreChunks, IsChunkFault}
use Rattle.hg_cgroup.specs.Group.{File, IsFile, file_bytes, delta_group, AreFiles, AreFrames}
use Rattle.hg_cgroup.specs.Faults.{BreaksAtFile, at_name, in_file, BreaksInFrames, in_manifests, in_files}
use Rattle.hg_cgroup.proofs.OneChunk.{chunk_once, chunk_or_empty, chunk_or_fault, empty_or_fault, fault_once}
use Rattle.hg_cgroup.proofs.OneChunk.{Stops, IsEnough, chunks_once}

-- ---- manifests, and the chunks of a file

enough : (chunks : List (List ℕ)) → AllByRecursion IsContent chunks → AllByRecursion (IsEnough 1) chunks
enough [] each = tt
enough (c ∷ chunks) each = ((each.0, each.0.some), enough chunks each.1)

frames_once : (bytes : List ℕ) (cs ds : List (List ℕ)) (x y : List ℕ) → AreChunks bytes cs x
    → AreChunks bytes ds y → Stops 1 x → Stops 1 y → (cs ≡ ds) × (x ≡ y)
frames_once bytes cs ds x y p q stop_x stop_y =
    chunks_once 1 cs ds x y (enough cs p.each) (enough ds q.each) (sym p.spelled ∙ q.spelled) stop_x stop_y

ends : (x : List ℕ) → Stops 1 (empty_chunk ++ x)
ends x = inl (x, refl)

broken : (fault : GroupFault) (x : List ℕ) → IsChunkFault fault 1 x → Stops 1 x
broken fault x wrong = inr (fault, wrong)

-- a group that ends, and one that breaks
group_ended : (bytes : List ℕ) (cs ds : List (List ℕ)) (x y : List ℕ) → AreChunks bytes cs (empty_chunk ++ x)
    → AreChunks bytes ds (empty_chunk ++ y) → (cs ≡ ds) × (x ≡ y)
group_ended bytes cs ds x y p q =
    let both = frames_once bytes cs ds (empty_chunk ++ x) (empty_chunk ++ y) p q (ends x) (ends y) in
    (both.0, append_cancel_left empty_chunk x y both.1)

group_broken : (fault : GroupFault) (bytes : List ℕ) (cs ds : List (List ℕ)) (x y : List ℕ)
    → AreChunks bytes cs (empty_chunk ++ x) → AreChunks bytes ds y → IsChunkFault fault 1 y → ⊥
group_broken fault bytes cs ds x y p q wrong =
    let both = frames_once bytes cs ds (empty_chunk ++ x) y p q (ends x) (broken fault y wrong) in
    empty_or_fault fault 1 x (subst (IsChunkFault fault 1) (sym both.1) wrong)

groups_broken : (f g : GroupFault) (bytes : List ℕ) (cs ds : List (List ℕ)) (x y : List ℕ)
    → AreChunks bytes cs x → IsChunkFault f 1 x → AreChunks bytes ds y → IsChunkFault g 1 y → f ≡ g
groups_broken f g bytes cs ds x y p wrong_f q wrong_g =
    let both = frames_once bytes cs ds x y p q (broken f x wrong_f) (broken g y wrong_g) in
    fault_once f g 1 x wrong_f (subst (IsChunkFault g 1) (sym both.1) wrong_g)

-- ---- files

file_is : (file : File) (x : List ℕ) → file_bytes file ++ x ≡ chunk_bytes file.name
    ++ (flat_map chunk_bytes file.chunks ++ (empty_chunk ++ x))
file_is file x = append_assoc (chunk_bytes file.name) (delta_group file.chunks) x
    ∙ ap (λ (y : List ℕ). chunk_bytes file.name ++ y)
    (append_assoc (flat_map chunk_bytes file.chunks) empty_chunk x)

-- what stands where no whole file does: the closing chunk, a fault, or a name and a group that breaks
pub record BreaksInside (x : List ℕ) : Type 0 where
  pub fault : GroupFault
  pub name : List ℕ
  pub inside : List ℕ
  pub chunks : List (List ℕ)
  pub rest : List ℕ
  pub is_name : IsContent name
  pub spelled : x ≡ chunk_bytes name ++ inside
  pub are : AreChunks inside chunks rest
  pub wrong : IsChunkFault fault 1 rest

data StopsFiles (x : List ℕ) : Type 0 where
  stops : Stops 1 x → StopsFiles x
  inside : BreaksInside x → StopsFiles x

not_file : (file : File) (x more : List ℕ) → IsFile file → x ≡ file_bytes file ++ more → StopsFiles x → ⊥
not_file file x more is spelled (stops (inl ended)) =
    chunk_or_empty file.name (flat_map chunk_bytes file.chunks ++ (empty_chunk ++ more)) ended.0 is.name
    (sym (file_is file more) ∙ (sym spelled ∙ ended.1))
not_file file x more is spelled (stops (inr wrong)) =
    chunk_or_fault wrong.0 1 file.name (flat_map chunk_bytes file.chunks
    ++ (empty_chunk ++ more)) is.name is.name.some
    (subst (IsChunkFault wrong.0 1) (spelled ∙ file_is file more) wrong.1)
not_file file x more is spelled (inside b) =
    let both = chunk_once file.name b.name (flat_map chunk_bytes file.chunks
    ++ (empty_chunk ++ more)) b.inside is.name b.is_name (sym (file_is file more)
    ∙ (sym spelled ∙ b.spelled)) in
    group_broken b.fault b.inside file.chunks b.chunks more b.rest
    (record { each = is.each; spelled = sym both.1 }) b.are b.wrong

abbrev file_of : List ℕ → List (List ℕ) → File
file_of name chunks = record { name = name; chunks = chunks }

file_once : (f g : File) (x y : List ℕ) → IsFile f → IsFile g → file_bytes f ++ x ≡ file_bytes g ++ y
    → (f ≡ g) × (x ≡ y)
file_once f g x y is_f is_g same =
    let f_inside = flat_map chunk_bytes f.chunks ++ (empty_chunk ++ x) in
    let g_inside = flat_map chunk_bytes g.chunks ++ (empty_chunk ++ y) in
    let names = chunk_once f.name g.name f_inside g_inside is_f.name is_g.name (sym (file_is f x)
    ∙ (same ∙ file_is g y)) in
    let groups = group_ended f_inside f.chunks g.chunks x y (record { each = is_f.each; spelled = refl })
    (record { each = is_g.each; spelled = names.1 }) in
    let name = names.0 in
    let chunks = groups.0 in
    let whole : file_of f.name f.chunks ≡ file_of g.name g.chunks = cc in
    (whole, groups.1)

list_once : (fs gs : List File) (x y : List ℕ) → AllByRecursion IsFile fs → AllByRecursion IsFile gs
    → flat_map file_bytes fs ++ x ≡ flat_map file_bytes gs ++ y → StopsFiles x → StopsFiles y → x ≡ y
list_once [] [] x y all_f all_g same stop_x stop_y = same
list_once [] (g ∷ gs) x y all_f all_g same stop_x stop_y =
    absurd (not_file g x (flat_map file_bytes gs ++ y) all_g.0 (same
    ∙ append_assoc (file_bytes g) (flat_map file_bytes gs) y) stop_x)
list_once (f ∷ fs) [] x y all_f all_g same stop_x stop_y =
    absurd (not_file f y (flat_map file_bytes fs ++ x) all_f.0 (sym same
    ∙ append_assoc (file_bytes f) (flat_map file_bytes fs) x) stop_y)
list_once (f ∷ fs) (g ∷ gs) x y all_f all_g same stop_x stop_y =
    let both = file_once f g (flat_map file_bytes fs ++ x) (flat_map file_bytes gs ++ y) all_f.0 all_g.0
    (sym (append_assoc (file_bytes f) (flat_map file_bytes fs) x)
    ∙ (same ∙ append_assoc (file_bytes g) (flat_map file_bytes gs) y)) in
    list_once fs gs x y all_f.1 all_g.1 both.1 stop_x stop_y

files_once : (bytes : List ℕ) (fs gs : List File) (x y : List ℕ) → AreFiles bytes fs x → AreFiles bytes gs y
    → StopsFiles x → StopsFiles y → x ≡ y
files_once bytes fs gs x y p q stop_x stop_y =
    list_once fs gs x y p.each q.each (sym p.spelled ∙ q.spelled) stop_x stop_y

-- where and how files break
pub record AtFile (bytes : List ℕ) (fault : GroupFault) : Type 0 where
  pub files : List File
  pub rest : List ℕ
  pub are : AreFiles bytes files rest
  pub how : (IsChunkFault fault 1 rest) ⊎ ((b : BreaksInside rest) × (b.fault ≡ fault))

at_file : (bytes : List ℕ) (fault : GroupFault) → BreaksAtFile bytes fault → AtFile bytes fault
at_file bytes fault (at_name files rest are wrong) =
    record { files = files; rest = rest; are = are; how = inl wrong }
at_file bytes fault (in_file files name chunks within rest are is_name are_chunks wrong) = record {
  files = files;
  rest = chunk_bytes name ++ within;
  are = are;
  how = inr (
    record {
      fault = fault;
      name = name;
      inside = within;
      chunks = chunks;
      rest = rest;
      is_name = is_name;
      spelled = refl;
      are = are_chunks;
      wrong = wrong;
    },
    refl,
  );
}

stops_at : (fault : GroupFault) (x : List ℕ) → (IsChunkFault fault 1 x)
    ⊎ ((b : BreaksInside x) × (b.fault ≡ fault)) → StopsFiles x
stops_at fault x (inl wrong) = stops (inr (fault, wrong))
stops_at fault x (inr b) = inside b.0

inside_once : (x : List ℕ) (a b : BreaksInside x) → a.fault ≡ b.fault
inside_once x a b =
    let both = chunk_once a.name b.name a.inside b.inside a.is_name b.is_name (sym a.spelled ∙ b.spelled) in
    groups_broken a.fault b.fault a.inside a.chunks b.chunks a.rest b.rest a.are a.wrong
    (subst (λ (y : List ℕ). AreChunks y b.chunks b.rest) (sym both.1) b.are) b.wrong

inside_or_fault : (fault : GroupFault) (x : List ℕ) → BreaksInside x → IsChunkFault fault 1 x → ⊥
inside_or_fault fault x b wrong =
    chunk_or_fault fault 1 b.name b.inside b.is_name b.is_name.some
    (subst (IsChunkFault fault 1) b.spelled wrong)

how_once : (f g : GroupFault) (x : List ℕ) → (IsChunkFault f 1 x) ⊎ ((b : BreaksInside x) × (b.fault ≡ f))
    → (IsChunkFault g 1 x) ⊎ ((b : BreaksInside x) × (b.fault ≡ g)) → f ≡ g
how_once f g x (inl a) (inl b) = fault_once f g 1 x a b
how_once f g x (inl a) (inr b) = absurd (inside_or_fault f x b.0 a)
how_once f g x (inr a) (inl b) = absurd (inside_or_fault g x a.0 b)
how_once f g x (inr a) (inr b) = sym a.1 ∙ (inside_once x a.0 b.0 ∙ b.1)

files_broken : (f g : GroupFault) (bytes : List ℕ) → BreaksAtFile bytes f → BreaksAtFile bytes g → f ≡ g
files_broken f g bytes p q =
    let a = at_file bytes f p in
    let b = at_file bytes g q in
    let same = files_once bytes a.files b.files a.rest b.rest a.are b.are (stops_at f a.rest a.how)
    (stops_at g b.rest b.how) in
    let there = subst (λ (x : List ℕ). (IsChunkFault f 1 x) ⊎ ((c : BreaksInside x) × (c.fault ≡ f))) same
    a.how in
    how_once f g b.rest there b.how

closed : (x : List ℕ) → StopsFiles (empty_chunk ++ x)
closed x = stops (ends x)

how_not_closed : (fault : GroupFault) (x : List ℕ) → (IsChunkFault fault 1 (empty_chunk ++ x))
    ⊎ ((b : BreaksInside (empty_chunk ++ x)) × (b.fault ≡ fault)) → ⊥
how_not_closed fault x (inl wrong) = empty_or_fault fault 1 x wrong
how_not_closed fault x (inr b) = chunk_or_empty b.0.name b.0.inside x b.0.is_name (sym b.0.spelled)

files_whole : (fault : GroupFault) (bytes : List ℕ) (files : List File) (x : List ℕ)
    → AreFiles bytes files (empty_chunk ++ x) → BreaksAtFile bytes fault → ⊥
files_whole fault bytes files x are p =
    let a = at_file bytes fault p in
    let same = files_once bytes a.files files a.rest (empty_chunk ++ x) a.are are
    (stops_at fault a.rest a.how) (closed x) in
    how_not_closed fault x (subst (λ (y : List ℕ). (IsChunkFault fault 1 y)
    ⊎ ((c : BreaksInside y) × (c.fault ≡ fault))) same a.how)

files_ended : (bytes : List ℕ) (fs gs : List File) (x y : List ℕ) → AreFiles bytes fs (empty_chunk ++ x)
    → AreFiles bytes gs (empty_chunk ++ y) → x ≡ y
files_ended bytes fs gs x y p q =
    append_cancel_left empty_chunk x y
    (files_once bytes fs gs (empty_chunk ++ x) (empty_chunk ++ y) p q (closed x) (closed y))

-- ---- all that is after the changesets

pub frames_broken : (f g : GroupFault) (bytes : List ℕ) → BreaksInFrames bytes f → BreaksInFrames bytes g
    → f ≡ g
frames_broken f g bytes (in_manifests ms x p wrong) (in_manifests ns y q wrong') =
    groups_broken f g bytes ms ns x y p wrong q wrong'
frames_broken f g bytes (in_manifests ms x p wrong) (in_files ns y q files) =
    absurd (group_broken f bytes ns ms y x q p wrong)
frames_broken f g bytes (in_files ms x p files) (in_manifests ns y q wrong) =
    absurd (group_broken g bytes ms ns x y p q wrong)
frames_broken f g bytes (in_files ms x p files) (in_files ns y q files') =
    let same = (group_ended bytes ms ns x y p q).1 in
    files_broken f g y (subst (λ (z : List ℕ). BreaksAtFile z f) same files) files'

pub frames_whole : (fault : GroupFault) (bytes rest : List ℕ) → AreFrames bytes rest
    → BreaksInFrames bytes fault → ⊥
frames_whole fault bytes rest a (in_manifests ms x p wrong) =
    group_broken fault bytes a.manifests ms a.behind x a.first p wrong
frames_whole fault bytes rest a (in_files ms x p files) =
    let same = (group_ended bytes ms a.manifests x a.behind p a.first).1 in
    files_whole fault a.behind a.files rest a.second (subst (λ (z : List ℕ). BreaksAtFile z fault) same files)

pub frames_ended : (bytes x y : List ℕ) → AreFrames bytes x → AreFrames bytes y → x ≡ y
frames_ended bytes x y a b =
    let same = (group_ended bytes a.manifests b.manifests a.behind b.behind a.first b.first).1 in
    files_ended b.behind a.files b.files x y
    (subst (λ (z : List ℕ). AreFiles z a.files (empty_chunk ++ x)) same a.second) b.second
