-- Any bytes are a header or have a fault, and give stream parameters or have a fault.
use Rattle.std.proofs.Common.{◌≡◌, ◌<◌, ◌⊎◌, ℕ, List, [], ◌∷◌, length, map, Result, Ok, Err, refl, sym, ◌∙◌}
use Rattle.std.proofs.Common.{inl, inr, arith, All, get_or}
use Rattle.std.specs.Str.{bytes_eq}
use Rattle.std.proofs.lemmas.Bool.{cases_Bool, cases_lt, false≢true}
use Rattle.std.proofs.lemmas.List.{get_or_past}
use Rattle.std.proofs.lemmas.List.Elements.{All-get_or}
use Rattle.std.proofs.lemmas.Slice.Eq.{bytes_eq-Decides}
use Rattle.hg_params.specs.declared.fault.ParamFault.{ParamFault}
use Rattle.hg_params.specs.declared.fault.ParamFault.TheVariants.{Leftover, BadType, RepeatedKey}
use Rattle.hg_params.specs.Header.{Fields, is_kind, all_params, keys_of, AreDistinct, HasFields, head_of}
use Rattle.hg_params.specs.Header.{IsHeaderFault}
use Rattle.hg_params.specs.Laws.{HasSomeReading, HasSomeParamsReading}
use Rattle.hg_params.specs.code.Reading.{Front, front_at, fields_in}
use Rattle.hg_params.specs.StreamParams.{faults_of, pieces, stream_param}
use Rattle.hg_params.proofs.Cutting.{IsBytes}
use Rattle.hg_params.proofs.FieldLaws.{ReadsFields, front_take}
use Rattle.hg_params.proofs.HeaderLaws.{fields_fault, has_fields, leftover, bad_type}
use Rattle.hg_params.proofs.Keys.{IsFresh}

abbrev IsByte : ℕ → Type 0
IsByte byte = byte < 256

bytes_are : (bytes : List ℕ) → All IsByte bytes → IsBytes bytes
bytes_are bytes each i =
    elim (cases_lt i (length bytes)) [
      | inl within ↦ All-get_or IsByte bytes i 0 within each
      | inr past ↦ let none : get_or bytes i 0 ≡ 0 = get_or_past bytes i 0 past in omega arith
    ]

-- a key stands in a list or it does not
fresh_or_not : (key : List ℕ) (keys : List (List ℕ)) → IsFresh key keys ⊎ ¬ (IsFresh key keys)
fresh_or_not key [] = inl tt
fresh_or_not key (later ∷ keys) =
    elim (cases_Bool (bytes_eq key later)) [
      | inl same ↦ inr (λ h. h.0 ((bytes_eq-Decides key later).0 same))
      | inr apart ↦ elim (fresh_or_not key keys) [
        | inl others ↦ inl ((λ same. false≢true (sym apart ∙ (bytes_eq-Decides key later).1 same)), others)
        | inr stands ↦ inr (λ h. stands h.1)
      ]
    ]

-- so some key stands twice, or none does
distinct_or_not : (keys : List (List ℕ)) → AreDistinct keys ⊎ ¬ (AreDistinct keys)
unfolding AreDistinct
distinct_or_not [] = inl tt
distinct_or_not (key ∷ keys) =
    elim (fresh_or_not key keys) [
      | inl fresh ↦ elim (distinct_or_not keys) [
        | inl others ↦ inl (fresh, others)
        | inr twice ↦ inr (λ h. twice h.1)
      ]
      | inr stands ↦ inr (λ h. stands h.0)
    ]

-- fields alone, by their type and their keys
of_fields : {A : Type 0} (bytes : List ℕ) (f : Fields) → HasFields bytes f → HasSomeReading A bytes
unfolding IsHeaderFault
of_fields bytes f has =
    elim (cases_Bool (is_kind f.kind)) [
      | inl is ↦ elim (distinct_or_not (keys_of (all_params f))) [
        | inl distinct ↦ inl (
          head_of f,
          record {
            fields = f;
            sound = record { has = has; kind = is; distinct = distinct };
            says = refl;
          },
        )
        | inr twice ↦ inr (RepeatedKey, record { fields = f; has = has; kind = is; repeated = twice })
      ]
      | inr none ↦ inr (BadType, bad_type bytes f has none)
    ]

-- fields, and what stands after them
of_front : {A : Type 0} (bytes : List ℕ) (front : Front) (rest : List ℕ) → ReadsFields bytes front rest
    → HasSomeReading A bytes
of_front bytes front [] reads = of_fields bytes (fields_in front) (has_fields bytes front [] reads refl)
of_front bytes front (byte ∷ rest) reads =
    inr (Leftover, leftover bytes front (byte ∷ rest) reads (omega arith))

of_result : {A : Type 0} (bytes : List ℕ) → IsBytes bytes → (read : Result (Front × List ℕ) ParamFault)
    → front_at bytes ≡ read → HasSomeReading A bytes
of_result bytes are (Ok found) e = of_front bytes found.0 found.1 (front_take bytes found.0 found.1 are e)
of_result bytes are (Err fault) e = inr (fault, fields_fault bytes fault fault e refl)

pub every_header : {A : Type 0} (bytes : List ℕ) → All IsByte bytes → HasSomeReading A bytes
every_header bytes each = of_result bytes (bytes_are bytes each) (front_at bytes) refl

of_faults : {A : Type 0} (bytes : List ℕ) (faults : List ParamFault) → faults_of bytes ≡ faults
    → HasSomeParamsReading A bytes
of_faults bytes [] e = inl (map stream_param (pieces bytes), record { sound = e; says = refl })
of_faults bytes (fault ∷ later) e = inr (fault, (later, e))

pub every_params_text : {A : Type 0} (bytes : List ℕ) → HasSomeParamsReading A bytes
every_params_text bytes = of_faults bytes (faults_of bytes) refl
