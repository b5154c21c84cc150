-- The bytes of an index.
use Rattle.std.proofs.Common.{◌≡◌, ℕ, ◌+◌, ◌-◌, ◌*◌, ◌<◌, List, [], ◌∷◌, ◌++◌, length, take}
use Rattle.std.proofs.Common.{drop, refl, sym, ap, ◌∙◌, arith, append_assoc, length-append, get_or}
use Rattle.std.proofs.lemmas.List.{append-nil, drop_at, nil_from_length, take_at, take_more}
use Rattle.std.proofs.Common.{Bool, true, false, ◌%◌, ◌↔◌}
use Rattle.std.specs.Prelude.{IsTrue}
use Rattle.std.specs.Int.{w64, to_be_bytes}
use Rattle.std.specs.List.{AllByRecursion}
use Rattle.sha1.specs.Sha1.{sha1, digest_bytes}
use Rattle.hg_store_tools.specs.Places.{IsMark, index_bytes, index_front, index_magic, mark_bytes, marks_bytes}
use Rattle.hg_store_tools.specs.declared.marks.Mark.{Mark}

length-sha1 : (m : List ℕ) → length (sha1 m) ≡ 20
unfolding sha1 digest_bytes
length-sha1 m = refl

-- what a test that says no tells
pub differs : (result : Bool) (P : Type 0) → (IsTrue result ↔ P) → result ≡ false → P → ⊥
differs result P is denied holds = let told : result ≡ true = is.1 holds in absurd (cc (denied, told))

-- the three parts of a mark, one after the other
pub three_more : (old first second third place offset : List ℕ) (mark : Mark) → place ≡ to_be_bytes w64 mark.place
    → offset ≡ to_be_bytes w64 mark.offset → first ≡ old ++ place → second ≡ first ++ offset
    → third ≡ second ++ mark.digest → third ≡ old ++ mark_bytes mark
three_more old first second third place offset mark place_is offset_is first_is second_is third_is =
    third_is ∙ ap (λ (l : List ℕ). l ++ mark.digest) (second_is ∙ ap (λ (l : List ℕ). l ++ offset) first_is)
    ∙ append_assoc (old ++ place) offset mark.digest ∙ append_assoc old place (offset ++ mark.digest)
    ∙ ap (λ (l : List ℕ). old ++ (l ++ (offset ++ mark.digest))) place_is
    ∙ ap (λ (l : List ℕ). old ++ (to_be_bytes w64 mark.place ++ (l ++ mark.digest))) offset_is

-- one mark more
pub marks_push : (marks : List Mark) (mark : Mark)
    → marks_bytes (marks ++ mark ∷ []) ≡ marks_bytes marks ++ mark_bytes mark
marks_push [] mark = append-nil (mark_bytes mark)
marks_push (other ∷ marks) mark =
    ap (λ (l : List ℕ). mark_bytes other ++ l) (marks_push marks mark)
    ∙ sym (append_assoc (mark_bytes other) (marks_bytes marks) (mark_bytes mark))

pub front_more : (marks : List Mark) (i : ℕ) (none : Mark) (bytes : List ℕ) → i < length marks
    → bytes ≡ index_front (take i marks) → bytes ++ mark_bytes (get_or marks i none) ≡ index_front (take (i + 1) marks)
front_more marks i none bytes less so =
    let mark : Mark = get_or marks i none in
    ap (λ (l : List ℕ). l ++ mark_bytes mark) so
    ∙ append_assoc index_magic (marks_bytes (take i marks)) (mark_bytes mark)
    ∙ ap (λ (l : List ℕ). index_magic ++ l) (sym (marks_push (take i marks) mark))
    ∙ ap index_front (sym (take_more marks i none less))

-- one mark more that is read
pub marks_more : (body : List ℕ) (marks then : List Mark) (behind rest : List ℕ) (mark : Mark)
    → body ≡ marks_bytes marks ++ behind → length behind % 36 ≡ 0 → behind ≡ mark_bytes mark ++ rest
    → length behind ≡ 36 + length rest → then ≡ marks ++ mark ∷ []
    → (body ≡ marks_bytes then ++ rest) × (length rest % 36 ≡ 0)
marks_more body marks then behind rest mark is even spelled size then_is = (
  is ∙ ap (λ (l : List ℕ). marks_bytes marks ++ l) spelled
      ∙ sym (append_assoc (marks_bytes marks) (mark_bytes mark) rest)
      ∙ ap (λ (l : List ℕ). l ++ rest) (sym (marks_push marks mark) ∙ ap marks_bytes (sym then_is)),
  omega (arith, even, size),
)

pub marks_all : (body : List ℕ) (marks : List Mark) (behind : List ℕ) → body ≡ marks_bytes marks ++ behind
    → length behind % 36 ≡ 0 → length behind < 36 → body ≡ marks_bytes marks
marks_all body marks behind is even less =
    is ∙ ap (λ (l : List ℕ). marks_bytes marks ++ l) (nil_from_length behind (omega (arith, even, less)))
    ∙ append-nil (marks_bytes marks)

length-mark : (mark : Mark) → IsMark mark → length (mark_bytes mark) ≡ 36
length-mark mark is = omega (arith, is.2)

pub length-marks : (marks : List Mark) → AllByRecursion IsMark marks → length (marks_bytes marks) ≡ 36 * length marks
length-marks [] each = refl
length-marks (mark ∷ marks) each =
    omega (
      arith,
      length-append (mark_bytes mark) (marks_bytes marks),
      length-mark mark each.0,
      length-marks marks each.1,
    )

-- the parts of an index
module _ (first bytes : List ℕ) (marks : List Mark) (is : bytes ≡ index_bytes first marks) where
  pub size_is : length bytes ≡ 28 + length (marks_bytes marks)
  size_is = omega (
    arith,
    ap length is,
    length-append (index_front marks) (sha1 (first ++ index_front marks)),
    length-sha1 (first ++ index_front marks),
  )

  front_size : length (index_front marks) ≡ length bytes - 20
  front_size = omega (arith, size_is)

  pub front_is : take (length bytes - 20) bytes ≡ index_front marks
  front_is = ap (take (length bytes - 20)) is
      ∙ take_at (index_front marks) (sha1 (first ++ index_front marks)) (length bytes - 20) front_size

  pub told_is : drop (length bytes - 20) bytes ≡ sha1 (first ++ take (length bytes - 20) bytes)
  told_is = ap (drop (length bytes - 20)) is
      ∙ drop_at (index_front marks) (sha1 (first ++ index_front marks)) (length bytes - 20) front_size
      ∙ ap (λ (l : List ℕ). sha1 (first ++ l)) (sym front_is)

  pub magic_is : take 8 (take (length bytes - 20) bytes) ≡ index_magic
  magic_is = ap (take 8) front_is ∙ take_at index_magic (marks_bytes marks) 8 refl

  pub body_is : drop 8 (take (length bytes - 20) bytes) ≡ marks_bytes marks
  body_is = ap (drop 8) front_is ∙ drop_at index_magic (marks_bytes marks) 8 refl
