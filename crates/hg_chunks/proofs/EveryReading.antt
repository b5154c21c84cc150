-- Any bytes are items and a rest that begins with no whole item.
use Rattle.std.proofs.Common.{◌≡◌, ℕ, zero, suc, ◌-◌, ◌<◌, ◌≤◌, ◌^◌, List, [], ◌∷◌, ◌++◌, length, take, drop}
use Rattle.std.proofs.Common.{refl, sym, ap, ◌∙◌, append_assoc, arith, inl, inr, All, get_or}
use Rattle.std.specs.Prelude.{pos, negsuc}
use Rattle.std.specs.List.{flat_map}
use Rattle.std.specs.Int.{w32, from_be_bytes, to_be_bytes}
use Rattle.std.proofs.lemmas.Int.{ints}
use Rattle.std.proofs.lemmas.Nat.{be_bytes_4}
use Rattle.std.proofs.lemmas.Bool.{cases_lt, cases_order}
use Rattle.std.proofs.lemmas.List.{take-append-drop, length-take-le, length-drop}
use Rattle.std.proofs.lemmas.List.Elements.{All-get_or, All-drop}
use Rattle.hg_chunks.specs.Size.{size_bytes}
use Rattle.hg_chunks.specs.Payload.{Item, Chunk, Interruption, item_bytes, IsItem, chunk_bytes, closing}
use Rattle.hg_chunks.specs.Payload.{interruption}
use Rattle.hg_chunks.specs.Reading.{IsStopped, partial_size, partial_chunk, closes, bad_size, ReadsItems}

abbrev IsByte : ℕ → Type 0
IsByte byte = byte < 256

-- some reading
abbrev Read : List ℕ → Type 0
Read bytes = (items : List Item) × (rest : List ℕ) × ReadsItems bytes items rest

stops : (bytes : List ℕ) → IsStopped bytes → Read bytes
stops bytes stopped = ([], bytes, record { each = tt; stopped = stopped; spelled = refl })

begins_with : (item : Item) (bytes more : List ℕ) → IsItem item → bytes ≡ item_bytes item ++ more → Read more
    → Read bytes
begins_with item bytes more is spelled read = (
  item ∷ read.0,
  read.1,
  record {
    each = (is, read.2.each);
    stopped = read.2.stopped;
    spelled = spelled ∙ ap (λ (x : List ℕ). item_bytes item ++ x) read.2.spelled
        ∙ sym (append_assoc (item_bytes item) (flat_map item_bytes read.0) read.1);
  },
)

byte_at : (a b c d : ℕ) → a < 256 → b < 256 → c < 256 → d < 256 → (i : ℕ)
    → get_or (a ∷ b ∷ c ∷ d ∷ []) i 0 < 256
byte_at a b c d fa fb fc fd zero = fa
byte_at a b c d fa fb fc fd (suc zero) = fb
byte_at a b c d fa fb fc fd (suc (suc zero)) = fc
byte_at a b c d fa fb fc fd (suc (suc (suc zero))) = fd
byte_at a b c d fa fb fc fd (suc (suc (suc (suc i)))) = omega arith

-- four bytes are those of a number
number : (a b c d : ℕ) → a < 256 → b < 256 → c < 256 → d < 256 → (n : ℕ) × (n < 2 ^ 32)
    × (a ∷ b ∷ c ∷ d ∷ [] ≡ to_be_bytes w32 n)
number a b c d fa fb fc fd = (
  from_be_bytes w32 (a ∷ b ∷ c ∷ d ∷ []),
  omega (arith, ints, fa, fb, fc, fd),
  sym (be_bytes_4 (a ∷ b ∷ c ∷ d ∷ []) (from_be_bytes w32 (a ∷ b ∷ c ∷ d ∷ [])) refl
      (byte_at a b c d fa fb fc fd) refl),
)

-- after four bytes that are no size of a chunk, nothing is read; where they are an interruption, what
-- follows is
sized : (n : ℕ) (front more : List ℕ) → n < 2 ^ 32 → front ≡ to_be_bytes w32 n
    → ((k : ℕ) → Read (drop k more)) → Read (front ++ more)
sized n front more fits is next = elim (cases_order n 0) [
  | inl none ↦ let spelled : front ++ more ≡ closing
      ++ more = ap (λ (x : List ℕ). x ++ more) (is ∙ ap (to_be_bytes w32) none) in
      stops (front ++ more) (closes more spelled)
  | inr (inl below) ↦ absurd (omega (arith, below))
  | inr (inr some) ↦ elim (cases_lt n (2 ^ 31)) [
    | inl natural ↦ elim (cases_lt (length more) n) [
      | inl less ↦ stops (front ++ more)
          (partial_chunk n more natural (ap (λ (x : List ℕ). x ++ more) is) less)
      | inr enough ↦
          let chunk : List ℕ = take n more in
          let len : length chunk ≡ n = length-take-le n more enough in
          let spelled : front ++ more ≡ chunk_bytes chunk
          ++ drop n more = ap (λ (x : List ℕ). x ++ more) (is ∙ ap (to_be_bytes w32) (sym len))
          ∙ ap (λ (x : List ℕ). size_bytes (pos (length chunk)) ++ x) (sym (take-append-drop n more))
          ∙ sym (append_assoc (size_bytes (pos (length chunk))) chunk (drop n more)) in
          begins_with (Chunk chunk) (front ++ more) (drop n more)
          (omega (arith, len, some), omega (arith, len, natural)) spelled (next n)
    ]
    | inr negative ↦ elim (cases_lt n 4294967295) [
      | inl other ↦
          let size : ℕ = 4294967295 - n in
          let back : n ≡ 4294967295 - size = omega (arith, other) in
          let spelled : front ++ more ≡ size_bytes (negsuc size)
          ++ more = ap (λ (x : List ℕ). x ++ more) (is
          ∙ ap (to_be_bytes w32) (omega (arith, ints, back, other))) in
          stops (front ++ more) (bad_size size more (omega (arith, other)) (omega (arith, negative)) spelled)
      | inr last ↦
          let minus_one : n ≡ 4294967295 = omega (arith, last, fits) in
          let spelled : front ++ more ≡ interruption
          ++ more = ap (λ (x : List ℕ). x ++ more) (is ∙ ap (to_be_bytes w32) minus_one) in
          begins_with Interruption (front ++ more) more tt spelled (next 0)
    ]
  ]
]

shorter : (k : ℕ) (xs : List ℕ) (fuel : ℕ) → length xs ≤ fuel → length (drop k xs) ≤ fuel
shorter k xs fuel le = omega (arith, le, length-drop k xs)

reads : (fuel : ℕ) (bytes : List ℕ) → length bytes ≤ fuel → All IsByte bytes → Read bytes
reads fuel [] le each = stops [] (partial_size (omega arith))
reads fuel (a ∷ []) le each = stops (a ∷ []) (partial_size (omega arith))
reads fuel (a ∷ b ∷ []) le each = stops (a ∷ b ∷ []) (partial_size (omega arith))
reads fuel (a ∷ b ∷ c ∷ []) le each = stops (a ∷ b ∷ c ∷ []) (partial_size (omega arith))
reads zero (a ∷ b ∷ c ∷ d ∷ more) le each = absurd (omega (arith, le))
reads (suc fuel) (a ∷ b ∷ c ∷ d ∷ more) le each =
    let bytes : List ℕ = a ∷ b ∷ c ∷ d ∷ more in
    let n = number a b c d (All-get_or IsByte bytes 0 0 (omega arith) each)
    (All-get_or IsByte bytes 1 0 (omega arith) each) (All-get_or IsByte bytes 2 0 (omega arith) each)
    (All-get_or IsByte bytes 3 0 (omega arith) each) in
    let rest : All IsByte more = All-drop IsByte 4 bytes each in
    sized n.0 (a ∷ b ∷ c ∷ d ∷ []) more n.1 n.2
    (λ k. reads fuel (drop k more) (shorter k more fuel (omega (arith, le)))
    (All-drop IsByte k more rest))

-- Any bytes are items and a rest that begins with no whole item.
pub every_reading_lem : (bytes : List ℕ) → All (λ byte. byte < 256) bytes → (items : List Item)
    × (rest : List ℕ) × ReadsItems bytes items rest
every_reading_lem bytes each = reads (length bytes) bytes (omega arith) each
