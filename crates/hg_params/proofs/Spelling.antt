-- The bytes that are written one field after another are the spelling of a header.
use Rattle.std.proofs.Common.{◌≡◌, ℕ, Bool, true, false, cond, not, List, [], ◌∷◌, ◌++◌, length, map}
use Rattle.std.proofs.Common.{count_by, refl, sym, ap, ◌∙◌, append_assoc}
use Rattle.std.specs.Int.{w32, to_be_bytes}
use Rattle.std.specs.List.{flat_map, list_any}
use Rattle.std.specs.Char.{is_ascii_uppercase, to_ascii_uppercase}
use Rattle.std.proofs.lemmas.List.{length-map}
use Rattle.hg_types.specs.declared.part.Param.{Param}
use Rattle.hg_params.specs.Header.{KeyValue, spelling, param_sizes, param_data}
use Rattle.hg_params.specs.Writing.{cased, key_value, mandatory_of, advisory_of, header_bytes, AreInOrder}
use Rattle.hg_params.proofs.Ordering.{mandatory_counted, advisory_counted, values_in_order}

length_cased_by : (b : Bool) (kind : List ℕ)
    → length (cond b (map to_ascii_uppercase kind) kind) ≡ length kind
length_cased_by true kind = length-map kind to_ascii_uppercase
length_cased_by false kind = refl

pub length_cased : (kind : List ℕ) → length (cased kind) ≡ length kind
unfolding cased
length_cased kind = length_cased_by (list_any is_ascii_uppercase kind) kind

fields_joined : (a b d e f s t old kind id sizes texts : List ℕ) (k m n : ℕ)
    → a ≡ old ++ k ∷ [] → b ≡ a ++ kind → d ≡ b ++ id → e ≡ d ++ m ∷ [] → f ≡ e ++ n ∷ [] → s ≡ f ++ sizes
    → t ≡ s ++ texts
    → t ≡ old ++ ((k ∷ kind) ++ (id ++ ((m ∷ n ∷ []) ++ (sizes ++ texts))))
fields_joined a b d e f s t old kind id sizes texts k m n ea eb ed ee ef es et =
    let joined = et ∙ ap (λ (x : List ℕ). x ++ texts) (es
    ∙ ap (λ (x : List ℕ). x ++ sizes) (ef
    ∙ ap (λ (x : List ℕ). x ++ n ∷ []) (ee
    ∙ ap (λ (x : List ℕ). x ++ m ∷ []) (ed
    ∙ ap (λ (x : List ℕ). x ++ id) (eb ∙ ap (λ (x : List ℕ). x ++ kind) ea))))) in
    joined ∙ simp append_assoc

pub header_written : {A : Type 0} (a b d e f s t old kind : List ℕ) (id k m n : ℕ) (params : List (Param A))
    → AreInOrder params
    → k ≡ length kind → m ≡ count_by (λ p. p.mandatory) params → n ≡ count_by (λ p. not p.mandatory) params
    → a ≡ old ++ k ∷ [] → b ≡ a ++ cased kind → d ≡ b ++ to_be_bytes w32 id → e ≡ d ++ m ∷ [] → f ≡ e ++ n
    ∷ []
    → s ≡ f ++ flat_map param_sizes (map key_value params) → t ≡ s
    ++ flat_map param_data (map key_value params)
    → t ≡ old ++ header_bytes (cased kind) id params
unfolding header_bytes spelling
header_written {A} a b d e f s t old kind id k m n params order k_is m_is n_is ea eb ed ee ef es et =
    let values = values_in_order params order in
    let bytes : ℕ → ℕ → ℕ → List KeyValue → List ℕ = λ x y z vs. old
    ++ ((x ∷ cased kind) ++ (to_be_bytes w32 id
    ++ ((y ∷ z ∷ []) ++ (flat_map param_sizes vs ++ flat_map param_data vs)))) in
    fields_joined a b d e f s t old (cased kind) (to_be_bytes w32 id)
    (flat_map param_sizes (map key_value params)) (flat_map param_data (map key_value params)) k m n ea eb
    ed ee ef es et
    ∙ ap (λ (x : ℕ). bytes x m n (map key_value params)) (k_is ∙ sym (length_cased kind))
    ∙ ap (λ (x : ℕ). bytes (length (cased kind)) x n (map key_value params)) (m_is ∙ mandatory_counted params)
    ∙ ap (λ (x : ℕ). bytes (length (cased kind)) (length (mandatory_of params)) x (map key_value params))
    (n_is ∙ advisory_counted params)
    ∙ ap (λ (vs : List KeyValue). bytes (length (cased kind)) (length (mandatory_of params))
    (length (advisory_of params)) vs) values
