-- What a delta is, and the text that it makes of a base.
use Rattle.std.specs.Prelude.{◌≡◌, ℕ, ◌≤◌, ◌<◌, ◌^◌, List, [], ◌∷◌, ◌++◌, length, map, drop, slice_range}
use Rattle.std.specs.List.{AllByRecursion, flat_map, zip}
use Rattle.std.specs.Int.{w32, to_be_bytes}

-- The bytes `start` to `end` of the base, `end` excluded, are replaced by the content.
pub record Hunk : Type 0 where
  pub start : ℕ
  pub end : ℕ
  pub content : List ℕ

-- a number of 32 bits, its most significant byte first
unfoldable pub number_bytes : ℕ → List ℕ
number_bytes n = to_be_bytes w32 n

-- the twelve bytes before a content: start, end, and the content's length
abbrev pub header : ℕ → ℕ → ℕ → List ℕ
header start end size = number_bytes start ++ (number_bytes end ++ number_bytes size)

-- the bytes of a hunk: its header, and then its content
abbrev pub hunk_bytes : Hunk → List ℕ
hunk_bytes hunk = header hunk.start hunk.end (length hunk.content) ++ hunk.content

-- the last of the numbers, or else that one
abbrev pub last_of : ℕ → List ℕ → ℕ
last_of first [] = first
last_of first (n ∷ ns) = last_of n ns

-- where the last of the hunks ends in the base, and 0 before the first
abbrev pub end_of : List Hunk → ℕ
end_of hunks = last_of 0 (map (λ hunk. hunk.end) hunks)

-- each hunk after the end of the one before it
abbrev pub behind_each_other : List Hunk → List (ℕ × Hunk)
behind_each_other hunks = zip (0 ∷ map (λ hunk. hunk.end) hunks) hunks

-- a hunk in a base of that size, after one that ends there; its numbers have 32 bits
pub record IsPlaced (size before : ℕ) (hunk : Hunk) : Type 0 where
  pub ascends : before ≤ hunk.start
  pub forward : hunk.start ≤ hunk.end
  pub within : hunk.end ≤ size
  pub end_fits : hunk.end < 2 ^ 32
  pub content_fits : length hunk.content < 2 ^ 32

-- the hunks ascend, do not overlap, and lie within the base
abbrev pub ArePlaced : ℕ → List Hunk → Type 0
ArePlaced size hunks = AllByRecursion (λ place. IsPlaced size place.0 place.1) (behind_each_other hunks)

-- what one hunk gives: the base from the end of the hunk before up to its start, and its content
abbrev pub piece_of : List ℕ → ℕ × Hunk → List ℕ
piece_of base place = slice_range base place.0 place.1.start ++ place.1.content

-- the text: what each hunk gives, and the base after the last one
abbrev pub text_of : List ℕ → List Hunk → List ℕ
text_of base hunks = flat_map (piece_of base) (behind_each_other hunks) ++ drop (end_of hunks) base

-- the delta is these hunks, one after the other, and then that rest
pub record Begins (size : ℕ) (delta : List ℕ) (hunks : List Hunk) (rest : List ℕ) : Type 0 where
  pub placed : ArePlaced size hunks
  pub spelled : delta ≡ flat_map hunk_bytes hunks ++ rest

-- the delta makes that text of the base
pub record Applies (base delta text : List ℕ) : Type 0 where
  pub hunks : List Hunk
  pub whole : Begins (length base) delta hunks []
  pub joined : text ≡ text_of base hunks
