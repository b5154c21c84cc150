-- The bundle of a push that sets one key can be written.
use Rattle.std.proofs.Common.{◌≡◌, ◌≢◌, ℕ, ◌<◌, ◌&&◌, Bool, true, false, true≢false, nat_le, List, [], ◌∷◌}
use Rattle.std.proofs.Common.{length}
use Rattle.std.proofs.Common.{refl, sym, ap, ◌∙◌, arith, lit<}
use Rattle.std.specs.Prelude.{All, codes, bytes_eq}
use Rattle.std.proofs.lemmas.Bool.Decides.{nat_tests}
use Rattle.std.proofs.lemmas.List.Elements.{All-nil, All-cons}
use Rattle.hg_types.specs.declared.part.Part.{Part}
use Rattle.hg_types.specs.declared.part.Param.{Param}
use Rattle.hg_params.specs.Header.{AreDistinct}
use Rattle.hg_params.specs.Writing.{FitsParam}
use Rattle.hg_stream.specs.Written.{CanBeWritten}
use Rattle.hg_http.specs.Keys.{fits, is_short, key_param, key_part, key_parts, replycaps_part}

both : (a b : Bool) → (a && b) ≡ true → (a ≡ true) × (b ≡ true)
both true b e = (refl, e)
both false b e = absurd (true≢false (sym e))

differ : (a b : List ℕ) → bytes_eq a a ≡ true → bytes_eq a b ≡ false → a ≢ b
differ a b one two same = true≢false (sym one ∙ (ap (λ l. bytes_eq a l) same ∙ two))

below : (value : List ℕ) → is_short value ≡ true → length value < 256
below value e = grind (arith, nat_tests, e)

module _ {A : Type 0} where
  replycaps_written : CanBeWritten {A = A} replycaps_part
  unfolding AreDistinct
  replycaps_written = let P : Param A → Type 0 = FitsParam in record {
    header = record {
      kind_is = refl;
      kind_fits = lit< tt;
      mandatory_fit = lit< tt;
      advisory_fit = lit< tt;
      in_order = refl;
      params_fit = All-nil P;
      distinct = tt;
    };
    payload = lit< tt;
  }

  key_written : (namespace key old new : List ℕ) → fits namespace key old new ≡ true
      → CanBeWritten {A = A} (key_part namespace key old new)
  unfolding AreDistinct
  key_written namespace key old new e =
      let first = both _ _ e in
      let second = both _ _ first.1 in
      let third = both _ _ second.1 in
      let P : Param A → Type 0 = FitsParam in
      let a : Param A = key_param (codes "namespace") namespace in
      let b : Param A = key_param (codes "key") key in
      let c : Param A = key_param (codes "old") old in
      let d : Param A = key_param (codes "new") new in
      record {
        header = record {
          kind_is = refl;
          kind_fits = lit< tt;
          mandatory_fit = lit< tt;
          advisory_fit = lit< tt;
          in_order = refl;
          params_fit = All-cons P a (b ∷ c ∷ d ∷ []) (record { key = lit< tt; value = below namespace first.0 })
              (All-cons P b (c ∷ d ∷ []) (record { key = lit< tt; value = below key second.0 })
              (All-cons P c (d ∷ []) (record { key = lit< tt; value = below old third.0 })
              (All-cons P d [] (record { key = lit< tt; value = below new third.1 }) (All-nil P))));
          distinct = (
            (
              differ (codes "namespace") (codes "key") refl refl,
              (
                differ (codes "namespace") (codes "old") refl refl,
                (differ (codes "namespace") (codes "new") refl refl, tt),
              ),
            ),
            (
              (
                differ (codes "key") (codes "old") refl refl,
                (differ (codes "key") (codes "new") refl refl, tt),
              ),
              ((differ (codes "old") (codes "new") refl refl, tt), (tt, tt)),
            ),
          );
        };
        payload = lit< tt;
      }

  pub are_written : (namespace key old new : List ℕ) → fits namespace key old new ≡ true
      → All CanBeWritten (key_parts {A = A} namespace key old new)
  are_written namespace key old new e =
      let P : Part A → Type 0 = CanBeWritten in
      let other : Part A = key_part namespace key old new in
      All-cons P replycaps_part (other ∷ []) replycaps_written
      (All-cons P other [] (key_written namespace key old new e) (All-nil P))
