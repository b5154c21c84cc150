-- Stores that grew, what stays sound in them, and the way back.
use Rattle.std.proofs.Common.{◌≡◌, ℕ, zero, suc, ◌≤◌, List, [], ◌∷◌, length, take, refl}
use Rattle.std.proofs.Common.{sym, ap, ◌∙◌, arith}
use Rattle.std.proofs.Math.Seq.{take-length}
use Rattle.std.proofs.lemmas.List.{take-append-le, length-append}
use Rattle.hg_types.specs.declared.limits.Settings.{Settings}
use Rattle.hg_phases.proofs.CallerLemmas.{for_none}
use Rattle.hg_obs.specs.declared.marker.Marker.{Marker}
use Rattle.hg_obs.specs.Markers.{fresh, merged, AreLawful as AreLawfulMarkers}
use Rattle.hg_parts.specs.declared.store.Store.{Store}
use Rattle.hg_parts.specs.declared.store.StoreSavepoint.{StoreSavepoint}
use Rattle.hg_parts.specs.Store.{IsSound, IsGrown, empty_store, with_savepoints, without_savepoints, CanGoBack}

take_less : {X : Type 0} (n m : ℕ) (xs : List X) → n ≤ m → take n (take m xs) ≡ take n xs
take_less {X} zero m xs low = refl
take_less {X} (suc n) zero xs low = absurd (omega (arith, low))
take_less {X} (suc n) (suc m) [] low = refl
take_less {X} (suc n) (suc m) (x ∷ xs) low =
    ap (λ (ys : List X). x ∷ ys) (take_less n m xs (omega (arith, low)))

front_on : {X : Type 0} (xs ys zs : List X) → length xs ≤ length ys → take (length xs) ys ≡ xs
    → take (length ys) zs ≡ ys → take (length xs) zs ≡ xs
front_on xs ys zs within one two = sym (take_less (length xs) (length ys) zs within)
    ∙ ap (take (length xs)) two ∙ one

module _ {A : Type 0} where
  -- ---- growing

  pub grown_same : (store : Store A) → IsGrown store store
  grown_same store = record {
    rows_within = omega arith;
    rows_front = take-length store.log.rows;
    limits = refl;
    markers_within = omega arith;
    markers_front = take-length store.markers;
    phases_saved = refl;
    bookmarks_saved = refl;
  }

  -- growing twice
  pub grown_on : (old middle new : Store A) → IsGrown old middle → IsGrown middle new → IsGrown old new
  grown_on old middle new one two = record {
    rows_within = omega (arith, one.rows_within, two.rows_within);
    rows_front = front_on old.log.rows middle.log.rows new.log.rows one.rows_within one.rows_front
        two.rows_front;
    limits = two.limits ∙ one.limits;
    markers_within = omega (arith, one.markers_within, two.markers_within);
    markers_front = front_on old.markers middle.markers new.markers one.markers_within one.markers_front
        two.markers_front;
    phases_saved = two.phases_saved ∙ one.phases_saved;
    bookmarks_saved = two.bookmarks_saved ∙ one.bookmarks_saved;
  }

  -- markers alone came
  pub grown_markers : (old : Store A) (markers : List (Marker A)) → length old.markers ≤ length markers
      → take (length old.markers) markers ≡ old.markers → IsGrown old (record old { markers = markers })
  grown_markers old markers within front = record {
    rows_within = omega arith;
    rows_front = take-length old.log.rows;
    limits = refl;
    markers_within = within;
    markers_front = front;
    phases_saved = refl;
    bookmarks_saved = refl;
  }

  -- markers were merged with those that are there
  pub grown_merged : (old : Store A) (added : List (Marker A))
      → IsGrown old (record old { markers = merged old.markers added })
  grown_merged old added =
      grown_markers old (merged old.markers added)
      (omega (arith, length-append old.markers (fresh old.markers added)))
      (take-append-le (length old.markers) old.markers (fresh old.markers added) (omega arith)
      ∙ take-length old.markers)

  -- ---- what stays sound

  pub sound_markers : (settings : Settings) (old : Store A) (markers : List (Marker A))
      → IsSound settings old → AreLawfulMarkers markers
      → IsSound settings (record old { markers = markers })
  sound_markers settings old markers sound lawful = record {
    fits = sound.fits;
    count = sound.count;
    limits = sound.limits;
    markers = lawful;
    bookmarks = sound.bookmarks;
  }

  pub sound_saved : (settings : Settings) (store : Store A) → IsSound settings store
      → IsSound settings (with_savepoints store)
  sound_saved settings store sound = record {
    fits = sound.fits;
    count = sound.count;
    limits = sound.limits;
    markers = sound.markers;
    bookmarks = sound.bookmarks;
  }

  pub sound_unsaved : (settings : Settings) (store : Store A) → IsSound settings store
      → IsSound settings (without_savepoints store)
  sound_unsaved settings store sound = record {
    fits = sound.fits;
    count = sound.count;
    limits = sound.limits;
    markers = sound.markers;
    bookmarks = sound.bookmarks;
  }

  -- nothing is sound
  pub sound_none : (settings : Settings) → IsSound settings (empty_store {A = A} settings.limits)
  sound_none settings = record {
    fits = for_none [];
    count = refl;
    limits = refl;
    markers = record {
      distinct = λ i j d less within. absurd (omega (arith, within));
      each = tt;
    };
    bookmarks = λ k d low. absurd (omega (arith, low));
  }

  -- ---- the way back

  -- it has grown since
  pub can_go_back_on : (before : Store A) (savepoint : StoreSavepoint) (now next : Store A)
      → CanGoBack before savepoint now → IsGrown now next → CanGoBack before savepoint next
  can_go_back_on before savepoint now next can grown = record {
    rows = can.rows;
    markers = can.markers;
    grown = grown_on (with_savepoints before) now next can.grown grown;
  }
