-- What reading a chunk, a group or files from left to right gives.
use Rattle.std.proofs.Common.{◌≡◌, ℕ, zero, suc, ◌+◌, ◌-◌, ◌^◌, ◌<◌, ◌≤◌, ◌==◌, Bool, true, false, cond, ltb}
use Rattle.std.proofs.Common.{leb, Some, None, List, [], ◌∷◌, ◌++◌, length, take, drop, Result, Ok, Err, refl}
use Rattle.std.proofs.Common.{sym, ap, ◌∙◌, append_assoc, arith, inl, inr, eqb-true}
use Rattle.std.specs.Prelude.{ℤ, pos, negsuc}
use Rattle.std.specs.List.{AllByRecursion, flat_map}
use Rattle.std.specs.Int.{w32, from_be_bytes, cast_signed}
use Rattle.std.specs.Int.RustNames.{FitsSigned}
use Rattle.std.proofs.lemmas.Bool.{eqb-false, ltb-true, ltb-false, leb-true, leb-false}
use Rattle.std.proofs.lemmas.Int.{ints}
use Rattle.std.proofs.lemmas.List.{take-append-drop, get_or-drop, length-take, length-drop}
use Rattle.hg_types.specs.Bytes.{IsBytes}
use Rattle.hg_cgroup.specs.declared.fault.GroupFault.{GroupFault}
use Rattle.hg_cgroup.specs.declared.fault.GroupFault.TheVariants.{BadLength, ShortHeader, Truncated}
use Rattle.hg_cgroup.specs.Chunk.{length_bytes, chunk_bytes, empty_chunk, IsContent, IsChunkFault}
use Rattle.hg_cgroup.specs.Group.{File, IsFile, file_bytes, AreFiles}
use Rattle.hg_cgroup.specs.Faults.{BreaksAtFile, at_name, in_file}
use Rattle.hg_cgroup.specs.Outcome.{◌>>=◌, ReadChunk, ReadGroup, content_at, sized_at, chunk_at, after_chunk}
use Rattle.hg_cgroup.specs.Outcome.{group_within, group_at, after_name, files_within, files_at}
use Rattle.hg_cgroup.proofs.Lengths.{length_is, length_fits}
use Rattle.hg_cgroup.proofs.OneChunk.{IsEnough}

bytes_behind : (n : ℕ) (bytes : List ℕ) → IsBytes bytes → IsBytes (drop n bytes)
bytes_behind n bytes fits i = rw get_or-drop (fits (n + i))

-- ---- a chunk

-- the bytes after what was read from these
pub record IsBehind (bytes rest : List ℕ) : Type 0 where
  pub fits : IsBytes rest
  pub shorter : length rest < length bytes

pub data ChunkRead (least : ℕ) (bytes : List ℕ) : Result ReadChunk GroupFault → Type 0 where
  closing : (rest : List ℕ) → bytes ≡ empty_chunk ++ rest → IsBehind bytes rest
      → ChunkRead least bytes (Ok (None, rest))
  filled : (content rest : List ℕ) → bytes ≡ chunk_bytes content ++ rest → IsEnough least content
      → IsBehind bytes rest → ChunkRead least bytes (Ok (Some content, rest))
  faulty : (fault : GroupFault) → IsChunkFault fault least bytes → ChunkRead least bytes (Err fault)

content_read : (least size : ℕ) (bytes more : List ℕ) → 0 < size → size + 4 < 2 ^ 31
    → bytes ≡ length_bytes (pos (size + 4)) ++ more → IsBehind bytes more
    → ChunkRead least bytes (content_at least size more)
unfolding content_at
content_read least size bytes more some small spelled behind =
    by (ltb size least) refl (ltb (length more) size) refl
  where
    by : (few : Bool) → ltb size least ≡ few → (cut : Bool) → ltb (length more) size ≡ cut
        → ChunkRead least bytes (cond few (Err ShortHeader)
        (cond cut (Err Truncated) (Ok (Some (take size more), drop size more))))
    by true few cut cut-is =
        faulty ShortHeader (record {
          wanted = size;
          more = more;
          some = some;
          short = ltb-true size least few;
          fits = small;
          spelled = spelled;
        })
    by false enough true cut =
        faulty Truncated (inr (record {
          wanted = size;
          more = more;
          some = some;
          enough = ltb-false size least enough;
          fits = small;
          less = ltb-true (length more) size cut;
          spelled = spelled;
        }))
    by false enough false whole =
        let content = take size more in
        let long : size ≤ length more = ltb-false (length more) size whole in
        let sized : length content ≡ size = omega (arith, length-take size more, long) in
        let headed : bytes ≡ length_bytes (pos (length content + 4)) ++ (content ++ drop size more) =
        spelled ∙ ap (λ (n : ℕ). length_bytes (pos (n + 4)) ++ more) (sym sized)
        ∙ ap (λ (x : List ℕ). length_bytes (pos (length content + 4)) ++ x)
        (sym (take-append-drop size more)) in
        filled content (drop size more) (headed
        ∙ sym (append_assoc (length_bytes (pos (length content + 4))) content (drop size more)))
        (record { some = rw sized some; fits = rw sized small }, rw sized (ltb-false size least enough))
        (record {
          fits = bytes_behind size more behind.fits;
          shorter = omega (arith, length-drop size more, behind.shorter);
        })

sized_read : (least : ℕ) (n : ℤ) (bytes more : List ℕ) → FitsSigned w32 n → bytes ≡ length_bytes n ++ more
    → IsBehind bytes more → ChunkRead least bytes (sized_at least n more)
unfolding sized_at
sized_read least (negsuc below) bytes more fits spelled behind =
    faulty BadLength (record {
      size = negsuc below;
      more = more;
      bad = inr (below, omega (arith, ints, fits), refl);
      spelled = spelled;
    })
sized_read least (pos size) bytes more fits spelled behind = by (size == 0) refl (leb size 4) refl
  where
    small : size < 2 ^ 31
    small = omega (arith, ints, fits)

    by : (none : Bool) → (size == 0) ≡ none → (few : Bool) → leb size 4 ≡ few
        → ChunkRead least bytes (cond none (Ok (None, more))
        (cond few (Err BadLength) (content_at least (size - 4) more)))
    by true none few few-is =
        closing more (spelled ∙ ap (λ (n : ℕ). length_bytes (pos n) ++ more) (eqb-true size 0 none)) behind
    by false some true few =
        faulty BadLength (record {
          size = pos size;
          more = more;
          bad = inl (size, omega (arith, eqb-false size 0 some), leb-true size 4 few, refl);
          spelled = spelled;
        })
    by false some false enough =
        let sum : size ≡ size - 4 + 4 = omega (arith, leb-false size 4 enough) in
        content_read least (size - 4) bytes more (omega (arith, leb-false size 4 enough))
        (omega (arith, small, sum)) (spelled ∙ ap (λ (n : ℕ). length_bytes (pos n) ++ more) sum) behind

pub chunk_read : (least : ℕ) (bytes : List ℕ) → IsBytes bytes → ChunkRead least bytes (chunk_at least bytes)
unfolding chunk_at
chunk_read least bytes fits = by (ltb (length bytes) 4) refl
  where
    by : (short : Bool) → ltb (length bytes) 4 ≡ short
        → ChunkRead least bytes (cond short (Err Truncated)
        (sized_at least (cast_signed w32 (from_be_bytes w32 (take 4 bytes))) (drop 4 bytes)))
    by true short = faulty Truncated (inl (ltb-true (length bytes) 4 short))
    by false whole =
        let long : 4 ≤ length bytes = ltb-false (length bytes) 4 whole in
        let n = cast_signed w32 (from_be_bytes w32 (take 4 bytes)) in
        sized_read least n bytes (drop 4 bytes) (length_fits bytes n fits refl)
        (length_is bytes n fits long refl)
        (record { fits = bytes_behind 4 bytes fits; shorter = omega (arith, length-drop 4 bytes, long) })

-- ---- a group

pub data GroupRead (least : ℕ) (bytes : List ℕ) : Result ReadGroup GroupFault → Type 0 where
  whole : (contents : List (List ℕ)) (rest : List ℕ) → AllByRecursion (IsEnough least) contents
      → bytes ≡ flat_map chunk_bytes contents ++ (empty_chunk ++ rest) → IsBehind bytes rest
      → GroupRead least bytes (Ok (contents, rest))
  broken : (fault : GroupFault) (contents : List (List ℕ)) (rest : List ℕ)
      → AllByRecursion (IsEnough least) contents → bytes ≡ flat_map chunk_bytes contents ++ rest
      → IsChunkFault fault least rest → GroupRead least bytes (Err fault)

-- one chunk more at the front
one_more : (content : List ℕ) (contents : List (List ℕ)) (bytes after rest : List ℕ)
    → bytes ≡ chunk_bytes content ++ after → after ≡ flat_map chunk_bytes contents ++ rest
    → bytes ≡ flat_map chunk_bytes (content ∷ contents) ++ rest
one_more content contents bytes after rest first others =
    first ∙ ap (λ (x : List ℕ). chunk_bytes content ++ x) others
    ∙ sym (append_assoc (chunk_bytes content) (flat_map chunk_bytes contents) rest)

group_more : (least : ℕ) (content bytes after : List ℕ) (others : Result ReadGroup GroupFault)
    → bytes ≡ chunk_bytes content ++ after → IsEnough least content → IsBehind bytes after
    → GroupRead least after others
    → GroupRead least bytes (others >>= λ group. Ok (content ∷ group.0, group.1))
group_more least content bytes after others first is behind (whole contents rest each spelled next) =
    whole (content ∷ contents) rest (is, each)
    (one_more content contents bytes after (empty_chunk ++ rest) first spelled)
    (record { fits = next.fits; shorter = omega (arith, next.shorter, behind.shorter) })
group_more least content bytes after others first is behind (broken fault contents rest each spelled wrong) =
    broken fault (content ∷ contents) rest (is, each)
    (one_more content contents bytes after rest first spelled) wrong

within_read : (most least : ℕ) (bytes : List ℕ) → IsBytes bytes → length bytes ≤ most
    → GroupRead least bytes (group_within most least bytes)
unfolding group_within
within_read zero least bytes fits enough = broken Truncated [] bytes tt refl (inl (omega (arith, enough)))
within_read (suc most) least bytes fits enough =
    by (chunk_at least bytes) (chunk_read least bytes fits) (within_read most least)
  where
    by : (read : Result ReadChunk GroupFault) → ChunkRead least bytes read
        → ((rest : List ℕ) → IsBytes rest → length rest ≤ most
        → GroupRead least rest (group_within most least rest))
        → GroupRead least bytes (read >>= λ chunk. after_chunk chunk (group_within most least chunk.1))
    by read (closing rest spelled behind) others = whole [] rest tt spelled behind
    by read (filled content rest spelled is behind) others =
        group_more least content bytes rest (group_within most least rest) spelled is behind
        (others rest behind.fits (omega (arith, behind.shorter, enough)))
    by read (faulty fault wrong) others = broken fault [] bytes tt refl wrong

pub group_read : (least : ℕ) (bytes : List ℕ) → IsBytes bytes → GroupRead least bytes (group_at least bytes)
unfolding group_at
group_read least bytes fits = within_read (length bytes) least bytes fits (omega arith)

-- contents of at least one byte are contents
pub contents_only : (least : ℕ) (contents : List (List ℕ)) → AllByRecursion (IsEnough least) contents
    → AllByRecursion IsContent contents
contents_only least [] each = tt
contents_only least (content ∷ contents) each = (each.0.0, contents_only least contents each.1)

-- ---- files

pub data FilesRead (bytes : List ℕ) : Result (List ℕ) GroupFault → Type 0 where
  all : (files : List File) (rest : List ℕ) → AreFiles bytes files (empty_chunk ++ rest)
      → FilesRead bytes (Ok rest)
  stopped : (fault : GroupFault) → BreaksAtFile bytes fault → FilesRead bytes (Err fault)

file_more : (file : File) (files : List File) (bytes after rest : List ℕ) → IsFile file
    → bytes ≡ file_bytes file ++ after → AreFiles after files rest → AreFiles bytes (file ∷ files) rest
file_more file files bytes after rest is first are = record {
  each = (is, are.each);
  spelled = first ∙ ap (λ (x : List ℕ). file_bytes file ++ x) are.spelled
      ∙ sym (append_assoc (file_bytes file) (flat_map file_bytes files) rest);
}

breaks_more : (fault : GroupFault) (file : File) (bytes after : List ℕ) → IsFile file
    → bytes ≡ file_bytes file ++ after → BreaksAtFile after fault → BreaksAtFile bytes fault
breaks_more fault file bytes after is first (at_name files rest are wrong) =
    at_name (file ∷ files) rest (file_more file files bytes after rest is first are) wrong
breaks_more fault file bytes after is first
    (in_file files name chunks inside rest are is_name are_chunks wrong) =
    in_file (file ∷ files) name chunks inside rest
    (file_more file files bytes after (chunk_bytes name ++ inside) is first are) is_name are_chunks wrong

files_more : (file : File) (bytes after : List ℕ) (others : Result (List ℕ) GroupFault) → IsFile file
    → bytes ≡ file_bytes file ++ after → FilesRead after others → FilesRead bytes others
files_more file bytes after others is first (all files rest are) =
    all (file ∷ files) rest (file_more file files bytes after (empty_chunk ++ rest) is first are)
files_more file bytes after others is first (stopped fault wrong) =
    stopped fault (breaks_more fault file bytes after is first wrong)

-- a name and a group are a file
file_whole : (name bytes inside after : List ℕ) (chunks : List (List ℕ)) → bytes ≡ chunk_bytes name ++ inside
    → inside ≡ flat_map chunk_bytes chunks ++ (empty_chunk ++ after)
    → bytes ≡ file_bytes (record { name = name; chunks = chunks }) ++ after
file_whole name bytes inside after chunks first closed =
    let group : inside ≡ (flat_map chunk_bytes chunks ++ empty_chunk) ++ after = closed
    ∙ sym (append_assoc (flat_map chunk_bytes chunks) empty_chunk after) in
    first ∙ ap (λ (x : List ℕ). chunk_bytes name ++ x) group
    ∙ sym (append_assoc (chunk_bytes name) (flat_map chunk_bytes chunks ++ empty_chunk) after)

-- a group after a name, and the files after it
named_read : (name bytes inside : List ℕ) (read : Result ReadGroup GroupFault) (others : List ℕ
    → Result (List ℕ) GroupFault) → bytes ≡ chunk_bytes name ++ inside → IsContent name
    → IsBehind bytes inside → GroupRead 1 inside read
    → ((rest : List ℕ) → IsBehind bytes rest → FilesRead rest (others rest))
    → FilesRead bytes (read >>= λ group. others group.1)
named_read name bytes inside read others first is behind (whole chunks after each spelled next) follow =
    let file : File = record { name = name; chunks = chunks } in
    files_more file bytes after (others after) (record { name = is; each = contents_only 1 chunks each })
    (file_whole name bytes inside after chunks first spelled)
    (follow after (record { fits = next.fits; shorter = omega (arith, next.shorter, behind.shorter) }))
named_read name bytes inside read others first is behind (broken fault chunks rest each spelled wrong)
    follow =
    stopped fault (in_file [] name chunks inside rest (record { each = tt; spelled = first }) is
    (record { each = contents_only 1 chunks each; spelled = spelled }) wrong)

files_within_read : (most : ℕ) (bytes : List ℕ) → IsBytes bytes → length bytes ≤ most
    → FilesRead bytes (files_within most bytes)
unfolding files_within
files_within_read zero bytes fits enough =
    stopped Truncated (at_name [] bytes (record { each = tt; spelled = refl }) (inl (omega (arith, enough))))
files_within_read (suc most) bytes fits enough =
    by (chunk_at 1 bytes) (chunk_read 1 bytes fits) (files_within_read most)
  where
    by : (read : Result ReadChunk GroupFault) → ChunkRead 1 bytes read
        → ((rest : List ℕ) → IsBytes rest → length rest ≤ most → FilesRead rest (files_within most rest))
        → FilesRead bytes (read >>= λ name. after_name name (group_at 1 name.1
        >>= λ group. files_within most group.1))
    by read (closing rest spelled behind) others = all [] rest (record { each = tt; spelled = spelled })
    by read (filled name rest spelled is behind) others =
        named_read name bytes rest (group_at 1 rest) (files_within most) spelled is.0 behind
        (group_read 1 rest behind.fits)
        (λ after next. others after next.fits (omega (arith, next.shorter, enough)))
    by read (faulty fault wrong) others =
        stopped fault (at_name [] bytes (record { each = tt; spelled = refl }) wrong)

pub files_read : (bytes : List ℕ) → IsBytes bytes → FilesRead bytes (files_at bytes)
unfolding files_at
files_read bytes fits = files_within_read (length bytes) bytes fits (omega arith)
