-- Names as the report writes them: by the set of the bytes that have escapes.
use Rattle.std.proofs.Common.{◌≡◌, ◌∙◌, ℕ, ◌<◌, Bool, true, false, not, List, [], ◌∷◌, ◌++◌, All, ap, refl}
use Rattle.std.specs.Prelude.{if◌then◌else◌}
use Rattle.std.specs.Char.{is_ascii_alphanumeric}
use Rattle.std.proofs.lemmas.Bool.{agree_below, agree_below_at}
use Rattle.std.proofs.lemmas.List.Elements.{All-head, All-tail}
use Rattle.percent_encoding.specs.declared.ascii_set.TheConstants.{NON_ALPHANUMERIC}
use Rattle.percent_encoding.specs.AsciiSet.{should_percent_encode}
use Rattle.percent_encoding.specs.Percent.{percent_encode, percent_encode_byte, encode_byte}
use Rattle.hg_repo.specs.Report.{escaped, escaped_byte}

is_escaped : ℕ → Bool
is_escaped b = not (is_ascii_alphanumeric b)

-- the bytes that are escaped are those that are no letters or digits
others : agree_below (should_percent_encode NON_ALPHANUMERIC) is_escaped 256 ≡ true
unfolding should_percent_encode is_escaped
others = refl

turned : (b : Bool) (xs ys : List ℕ) → (if not b then xs else ys) ≡ (if b then ys else xs)
turned true xs ys = refl
turned false xs ys = refl

one_byte : (b : ℕ) → b < 256 → encode_byte NON_ALPHANUMERIC b ≡ escaped_byte b
unfolding is_escaped
one_byte b small =
    let same = agree_below_at (should_percent_encode NON_ALPHANUMERIC) is_escaped 256 b others small in
    ap (λ test. if test then percent_encode_byte b else (b ∷ [])) same
    ∙ turned (is_ascii_alphanumeric b) (percent_encode_byte b) (b ∷ [])

pub name_escaped : (name : List ℕ) → All (λ b. b < 256) name
    → percent_encode NON_ALPHANUMERIC name ≡ escaped name
unfolding percent_encode
name_escaped [] small = refl
name_escaped (b ∷ bs) small =
    let first = one_byte b (All-head (λ (b : ℕ). b < 256) b bs small) in
    let rest = name_escaped bs (All-tail (λ (b : ℕ). b < 256) b bs small) in
    ap (λ bytes. bytes ++ percent_encode NON_ALPHANUMERIC bs) first
    ∙ ap (λ bytes. escaped_byte b ++ bytes) rest
