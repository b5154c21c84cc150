-- How long a header can be.
use Rattle.std.proofs.Common.{◌≡◌, ℕ, suc, ◌+◌, ◌*◌, ◌<◌, ◌≤◌, List, [], ◌∷◌, ◌++◌, length, sym, ap, subst}
use Rattle.std.proofs.Common.{◌∙◌, arith, length-append}
use Rattle.std.specs.Int.{w32, to_be_bytes}
use Rattle.std.specs.List.{AllByRecursion, flat_map}
use Rattle.hg_params.specs.declared.head.Head.{Head}
use Rattle.hg_params.specs.Header.{KeyValue, Fields, HeaderFits, FitsSizes, all_params, spelling, param_sizes}
use Rattle.hg_params.specs.Header.{param_data, IsHeader}
use Rattle.hg_params.proofs.Cutting.{length_sizes}

data_small : (ps : List KeyValue) → AllByRecursion FitsSizes ps
    → length (flat_map param_data ps) ≤ 510 * length ps
data_small [] h = omega arith
data_small (p ∷ ps) h =
    let ih = data_small ps h.1 in
    let key : length p.key < 256 = h.0.key in
    let value : length p.value < 256 = h.0.value in
    let both = length-append p.key p.value in
    let all = length-append (p.key ++ p.value) (flat_map param_data ps) in
    omega arith

joined : (a b c d : List ℕ) → length (a ++ (b ++ (c ++ d))) ≡ length a + (length b + (length c + length d))
joined a b c d = length-append a (b ++ (c ++ d))
    ∙ ap (λ (n : ℕ). length a + n) (length-append b (c ++ d)
    ∙ ap (λ (n : ℕ). length b + n) (length-append c d))

spelled_size : (f : Fields)
    → length (spelling f) ≡ suc
    (length f.kind) + (4 + (2 + (2 * length (all_params f) + length (flat_map param_data (all_params f)))))
unfolding spelling
spelled_size f =
    joined (length f.kind ∷ f.kind) (to_be_bytes w32 f.id) (length f.mandatory ∷ length f.advisory ∷ [])
    (flat_map param_sizes (all_params f) ++ flat_map param_data (all_params f))
    ∙ ap (λ (n : ℕ). suc (length f.kind) + (4 + (2 + n)))
    (length-append (flat_map param_sizes (all_params f)) (flat_map param_data (all_params f))
    ∙ ap (λ (n : ℕ). n + length (flat_map param_data (all_params f))) (length_sizes (all_params f)))

record IsSmallSpelling (f : Fields) : Type 0 where
  some : 0 < length (spelling f)
  small : length (spelling f) ≤ 261382

spelled_small : (f : Fields) → HeaderFits f → IsSmallSpelling f
spelled_small f fits =
    let size = spelled_size f in
    let data_fits = data_small (all_params f) fits.params in
    let params = length-append f.mandatory f.advisory in
    let kind : length f.kind < 256 = fits.kind in
    let mandatory : length f.mandatory < 256 = fits.mandatory in
    let advisory : length f.advisory < 256 = fits.advisory in
    record { some = omega arith; small = omega arith }

pub header_small : {A : Type 0} (bytes : List ℕ) (head : Head A) → IsHeader bytes head → (0 < length bytes)
    × (length bytes ≤ 261382)
header_small bytes head h =
    let small = spelled_small h.fields h.sound.has.fits in
    let size = ap length h.sound.has.spelled in
    (subst (λ (n : ℕ). 0 < n) (sym size) small.some, subst (λ (n : ℕ). n ≤ 261382) (sym size) small.small)
