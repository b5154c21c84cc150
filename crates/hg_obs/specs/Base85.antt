-- Base-85: the value of each group of digits, and the digits of each group of bytes. The digits are those of
-- RFC 1924, section 4.2.
use Rattle.std.specs.Prelude.{◌≡◌, ◌+◌, ◌-◌, ◌*◌, ◌/◌, ◌%◌, ◌^◌, ◌==◌, ℕ, Bool, List, [], ◌∷◌, ◌++◌, length}
use Rattle.std.specs.Prelude.{map, take, replicate, fold, codes, slice_index, nat_lt, Result, Ok, Err}
use Rattle.std.specs.Prelude.{if◌then◌else◌}
use Rattle.std.specs.List.{list_all, flat_map, position_or_len}
use Rattle.std.specs.Int.{w32, to_be_bytes, from_be_bytes}
use Rattle.hg_obs.specs.declared.fault.Base85Fault.{Base85Fault}
use Rattle.hg_obs.specs.declared.fault.Base85Fault.TheVariants.{BadDigit, BadLength, Overflow, NoMemory}

-- What a function returned, seen by view, is this, unless memory was refused.
abbrev pub DigitsGive : {X Y : Type 0} → (X → Y) → Result X Base85Fault → Result Y Base85Fault → Type 0
DigitsGive view (Ok x) answer = answer ≡ Ok (view x)
DigitsGive view (Err BadDigit) answer = answer ≡ Err BadDigit
DigitsGive view (Err BadLength) answer = answer ≡ Err BadLength
DigitsGive view (Err Overflow) answer = answer ≡ Err Overflow
DigitsGive view (Err NoMemory) answer = Unit {0}

-- the digits, in order of their values
abbrev pub all_digits : List ℕ
all_digits = codes "0123456789ABCDEFGHIJKLMNOPQRSTUVWXYZabcdefghijklmnopqrstuvwxyz!#$%&()*+-;<=>?@^_`{|}~"

-- a digit's place among the digits, or 85
abbrev pub place_of : ℕ → ℕ
place_of byte = position_or_len (λ digit. digit == byte) all_digits

-- the place of a byte among the digits; 85 where it is none
unfoldable pub digit_value : ℕ → ℕ
digit_value byte = place_of byte

-- the digit of a value
unfoldable pub digit_at : ℕ → ℕ
digit_at value = slice_index all_digits value

-- the byte is one of the 85 digits
abbrev pub is_digit : ℕ → Bool
is_digit byte = nat_lt (digit_value byte) 85

-- groups of five, and a last one of fewer
abbrev pub fives : List ℕ → List (List ℕ)
fives [] = []
fives (a ∷ []) = (a ∷ []) ∷ []
fives (a ∷ b ∷ []) = (a ∷ b ∷ []) ∷ []
fives (a ∷ b ∷ c ∷ []) = (a ∷ b ∷ c ∷ []) ∷ []
fives (a ∷ b ∷ c ∷ d ∷ []) = (a ∷ b ∷ c ∷ d ∷ []) ∷ []
fives (a ∷ b ∷ c ∷ d ∷ e ∷ rest) = (a ∷ b ∷ c ∷ d ∷ e ∷ []) ∷ fives rest

-- groups of four, and a last one of fewer
abbrev pub fours : List ℕ → List (List ℕ)
fours [] = []
fours (a ∷ []) = (a ∷ []) ∷ []
fours (a ∷ b ∷ []) = (a ∷ b ∷ []) ∷ []
fours (a ∷ b ∷ c ∷ []) = (a ∷ b ∷ c ∷ []) ∷ []
fours (a ∷ b ∷ c ∷ d ∷ rest) = (a ∷ b ∷ c ∷ d ∷ []) ∷ fours rest

-- so many, by more of the same
abbrev pub filled : ℕ → ℕ → List ℕ → List ℕ
filled count more group = take count (group ++ replicate count more)

-- the number of five digits, the most significant first
abbrev pub group_value : List ℕ → ℕ
group_value group = fold (λ n digit. n * 85 + digit_value digit) 0 group

-- the value of a group, which is filled with the greatest digit, `~`
abbrev pub filled_value : List ℕ → ℕ
filled_value group = group_value (filled 5 126 group)

-- one byte less than digits
abbrev pub group_bytes : List ℕ → List ℕ
group_bytes group = take (length group - 1) (to_be_bytes w32 (filled_value group))

-- the group's value has 32 bits
abbrev pub fits : List ℕ → Bool
fits group = nat_lt (filled_value group) (2 ^ 32)

-- the bytes of each group of five digits; a fault where one does not fit
abbrev pub decoded_groups : List ℕ → Result (List ℕ) Base85Fault
decoded_groups text = if list_all fits (fives text) then Ok (flat_map group_bytes (fives text))
    else Err Overflow

-- the bytes that a text stands for, or what is wrong with it
abbrev pub decoded : List ℕ → Result (List ℕ) Base85Fault
decoded text = if list_all is_digit text
    then (if length text % 5 == 1 then Err BadLength else decoded_groups text) else Err BadDigit

-- the values of a number's five digits, the most significant first
abbrev pub digits_of : ℕ → List ℕ
digits_of n = n / 85 ^ 4 ∷ n / 85 ^ 3 % 85 ∷ n / 85 ^ 2 % 85 ∷ n / 85 % 85 ∷ n % 85 ∷ []

-- one digit more than bytes, of a group that is filled with zeros
abbrev pub group_text : List ℕ → List ℕ
group_text group = take (length group + 1) (map digit_at (digits_of (from_be_bytes w32 (filled 4 0 group))))

-- the text that stands for bytes
abbrev pub encoded : List ℕ → List ℕ
encoded bytes = flat_map group_text (fours bytes)
