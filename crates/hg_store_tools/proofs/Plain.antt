-- Parts that are written as they stand.
use Rattle.std.proofs.Common.{◌≡◌, ℕ, ◌+◌, ◌<◌, ◌≤◌, ◌^◌, Bool, true, false, cond, List, [], ◌∷◌, ◌++◌, length, map}
use Rattle.std.proofs.Common.{take, drop, get_or, pos}
use Rattle.std.proofs.Common.{Some, None, option_map, append_assoc}
use Rattle.std.proofs.Common.{refl, sym, ap, ◌∙◌, arith}
use Rattle.std.specs.List.{cons_option, flat_map, list_any}
use Rattle.std.specs.Char.{is_ascii_uppercase, to_ascii_uppercase}
use Rattle.std.proofs.lemmas.List.{append-nil, length-append, length-map, take_more}
use Rattle.std.proofs.lemmas.List.Elements.{filter_map-append}
use Rattle.std.proofs.lemmas.Grind.{flat_map-append}
use Rattle.std.proofs.Math.Seq.{drop-append_seam}
use Rattle.hg_types.specs.declared.part.Param.{Param}
use Rattle.hg_types.specs.declared.part.Part.{Part}
use Rattle.hg_chunks.specs.Size.{size_bytes}
use Rattle.std.specs.Int.{w32, to_be_bytes}
use Rattle.hg_params.specs.Header.{all_params, param_data, param_sizes, spelling}
use Rattle.hg_params.specs.Writing.{CanStand, cased, fields_of, header_bytes, written_head}
use Rattle.hg_stream.specs.Block.{sized}
use Rattle.hg_parts.specs.PartTypes.{support_of}
use Rattle.hg_store_tools.specs.Canonical.{canonical_part, canonical_parts, names_by, plain_bytes, with_params_named}
use Rattle.hg_params.proofs.CallerLemmas.{header_small, read_back}

length_cased_by : (b : Bool) (kind : List ℕ)
    → length (cond b (map to_ascii_uppercase kind) kind) ≡ length kind
length_cased_by true kind = length-map kind to_ascii_uppercase
length_cased_by false kind = refl

length_cased : (kind : List ℕ) → length (cased kind) ≡ length kind
unfolding cased
length_cased kind = length_cased_by (list_any is_ascii_uppercase kind) kind

-- a header with its type cased, beside the same header with the type as it is
pub record IsCasedAlone (kind plain header : List ℕ) : Type 0 where
  pub some : 1 + length kind ≤ length header
  pub same_length : length header ≡ length plain
  pub spelled : plain ≡ length kind ∷ (kind ++ drop (1 + length kind) header)

replaced : (kind other rest : List ℕ) → length other ≡ length kind
    → IsCasedAlone kind ((length kind ∷ kind) ++ rest) ((length other ∷ other) ++ rest)
replaced kind other rest same =
    let long : length ((length other ∷ other) ++ rest) ≡ length (length other ∷ other) + length rest =
    length-append (length other ∷ other) rest in
    let short : length ((length kind ∷ kind) ++ rest) ≡ length (length kind ∷ kind) + length rest =
    length-append (length kind ∷ kind) rest in
    let at : 1 + length kind ≡ length (length other ∷ other) = omega arith in
    let behind : drop (1 + length kind) ((length other ∷ other) ++ rest) ≡ rest =
    ap (λ (n : ℕ). drop n ((length other ∷ other) ++ rest)) at ∙ drop-append_seam (length other ∷ other) rest in
    record {
      some = omega (arith, long);
      same_length = omega (arith, long, short);
      spelled = ap (λ (l : List ℕ). length kind ∷ (kind ++ l)) (sym behind);
    }

pub cased_alone : {A : Type 0} (kind : List ℕ) (id : ℕ) (params : List (Param A))
    → IsCasedAlone kind (header_bytes kind id params) (header_bytes (cased kind) id params)
unfolding header_bytes spelling
cased_alone kind id params =
    let f = fields_of kind id params in
    let rest = to_be_bytes w32 id ++ ((length f.mandatory ∷ length f.advisory ∷ [])
    ++ (flat_map param_sizes (all_params f) ++ flat_map param_data (all_params f))) in
    replaced kind (cased kind) rest (length_cased kind)

-- it is no larger than the greatest one
pub cased_small : {A : Type 0} (kind : List ℕ) (id : ℕ) (params : List (Param A)) → id < 2 ^ 32
    → CanStand kind params → length (header_bytes (cased kind) id params) < 2 ^ 31
cased_small kind id params number stands =
    let small = header_small (header_bytes (cased kind) id params) (written_head kind id params)
    (read_back kind id params number stands) in
    omega (arith, small.1)

-- a header that was written in pieces, with the type as it is
pub header_written : (a b c d out kind plain header fields : List ℕ) (n k : ℕ) → a ≡ out ++ size_bytes (pos n)
    → b ≡ a ++ k ∷ [] → c ≡ b ++ kind → d ≡ c ++ fields → n ≡ length header → k ≡ length kind
    → fields ≡ drop (1 + length kind) header → IsCasedAlone kind plain header → d ≡ out ++ sized plain
header_written a b c d out kind plain header fields n k ea eb ec ed n_is k_is fields_is alone =
    let joined : d ≡ out ++ (size_bytes (pos n) ++ (k ∷ (kind ++ fields))) = ed
    ∙ ap (λ (l : List ℕ). l ++ fields) (ec ∙ ap (λ (l : List ℕ). l ++ kind) (eb
    ∙ ap (λ (l : List ℕ). l ++ k ∷ []) ea)) ∙ simp append_assoc in
    let same : k ∷ (kind ++ fields) ≡ plain = ap (λ (m : ℕ). m ∷ (kind ++ fields)) k_is
    ∙ ap (λ (l : List ℕ). length kind ∷ (kind ++ l)) fields_is ∙ sym alone.spelled in
    joined ∙ ap (λ (l : List ℕ). out ++ (size_bytes (pos n) ++ l)) same
    ∙ ap (λ (m : ℕ). out ++ (size_bytes (pos m) ++ plain)) (n_is ∙ alone.same_length)

-- one part more was written, or passed over
pub one_part : {A : Type 0} (out new front : List ℕ) (parts : List (Part A)) (i : ℕ) (part : Part A)
    (written : List ℕ) → out ≡ front ++ flat_map plain_bytes (canonical_parts (take i parts)) → i < length parts
    → part ≡ get_or parts i part → written ≡ flat_map plain_bytes (canonical_parts (part ∷ []))
    → new ≡ out ++ written → new ≡ front ++ flat_map plain_bytes (canonical_parts (take (i + 1) parts))
one_part {A} out new front parts i part written before within here written_is more =
    let next : take (i + 1) parts ≡ take i parts ++ part ∷ [] = take_more parts i part within
    ∙ ap (λ (p : Part A). take i parts ++ p ∷ []) (sym here) in
    let all : flat_map plain_bytes (canonical_parts (take (i + 1) parts))
    ≡ flat_map plain_bytes (canonical_parts (take i parts)) ++ written =
    ap (λ (ps : List (Part A)). flat_map plain_bytes (canonical_parts ps)) next
    ∙ ap (flat_map plain_bytes) (filter_map-append canonical_part (take i parts) (part ∷ []))
    ∙ flat_map-append plain_bytes (canonical_parts (take i parts)) (canonical_parts (part ∷ []))
    ∙ ap (λ (l : List ℕ). flat_map plain_bytes (canonical_parts (take i parts)) ++ l) (sym written_is) in
    more ∙ ap (λ (l : List ℕ). l ++ written) before
    ∙ append_assoc front (flat_map plain_bytes (canonical_parts (take i parts))) written
    ∙ ap (λ (l : List ℕ). front ++ l) (sym all)

-- what is written of a part that is kept, and of one that is not
pub kept_part : {A : Type 0} (part : Part A) (names : List (List ℕ)) → names_by (support_of part) ≡ Some names
    → plain_bytes (with_params_named part names) ≡ flat_map plain_bytes (canonical_parts (part ∷ []))
kept_part part names is =
    sym (ap (λ o. flat_map plain_bytes (cons_option (option_map (with_params_named part) o) [])) is
    ∙ append-nil (plain_bytes (with_params_named part names)))

pub dropped_part : {A : Type 0} (part : Part A) → names_by (support_of part) ≡ None
    → [] ≡ flat_map plain_bytes (canonical_parts (part ∷ []))
dropped_part part is =
    sym (ap (λ o. flat_map plain_bytes (cons_option (option_map (with_params_named part) o) [])) is)
