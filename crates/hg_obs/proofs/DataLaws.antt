-- All markers of marker data: reading is the grammar, marker by marker.
use Rattle.std.proofs.Common.{◌≡◌, ◌≢◌, ◌<◌, ◌≤◌, ◌==◌, ℕ, zero, suc, Bool, true, false, cond, List, [], ◌∷◌}
use Rattle.std.proofs.Common.{◌++◌, length, Result, Ok, Err, IfOk, IfErr, refl, sym, ap, subst, ◌∙◌}
use Rattle.std.proofs.Common.{append_assoc, arith, inl, inr, eqb-true, eq-eqb, ne_eqb}
use Rattle.std.proofs.lemmas.Bool.{eqb-false}
use Rattle.std.specs.List.{AllByRecursion, flat_map}
use Rattle.std.proofs.lemmas.List.{append-nil, length-append, drop_at, nil_from_length}
use Rattle.std.proofs.lemmas.List.Concat.{flat_map-cons}
use Rattle.std.proofs.lemmas.Map.Views.{list_any-from_Contains}
use Rattle.hg_types.specs.Bytes.{IsBytes}
use Rattle.hg_types.specs.NullId.{null_node}
use Rattle.hg_obs.specs.declared.marker.Marker.{Marker}
use Rattle.hg_obs.specs.declared.fault.MarkerFault.{MarkerFault}
use Rattle.hg_obs.specs.declared.fault.MarkerFault.TheVariants.{BadVersion, Short, BadMetadata, NullSuccessor}
use Rattle.hg_obs.specs.declared.fault.MarkerFault.TheVariants.{NoMemory}
use Rattle.hg_obs.specs.Marker.{marker_bytes, IsMarker}
use Rattle.hg_obs.specs.Grammar.{AreMarkers, IsMarkerFault, IsFaultBehind, IsFault}
use Rattle.hg_obs.specs.Reading.{◌>>=◌, MarkerFails, MarkerGives, Fields, byte_at, checked, marker_at, with_front}
use Rattle.hg_obs.specs.Reading.{markers_within, markers_at, markers_of}
use Rattle.hg_obs.proofs.ReadingLemmas.{bind_ok, ok_is, IsBytes-drop}
use Rattle.hg_obs.proofs.PlaceLemmas.{same_node_equiv}
use Rattle.hg_obs.proofs.MarkerLaws.{TakesMarker, marker_takes, marker_again, marker_fault, checked_is}
use Rattle.hg_obs.proofs.MarkerLaws.{reads_fields, fields_of, null_in, err_is}

record Faulty (A : Type 0) (d : MarkerFault) (bytes : List ℕ) : Type 0 where
  before : List (Marker A)
  each : AllByRecursion IsMarker before
  rest : List ℕ
  some : 0 < length rest
  spelled : bytes ≡ flat_map marker_bytes before ++ rest
  faulty : IsMarkerFault A d rest

tail_fits : (bytes rest : List ℕ) → IsBytes bytes → bytes ≡ 0 ∷ rest → IsBytes rest
tail_fits bytes rest fits e = let whole : IsBytes (0 ∷ rest) = subst IsBytes e fits in λ i. whole (suc i)

pub starts_fits : (bytes : List ℕ) (version : ℕ) (rest : List ℕ) → byte_at bytes ≡ Ok (version, rest)
    → IsBytes bytes → IsBytes rest
unfolding byte_at
starts_fits [] version rest e fits = absurd cc
starts_fits (b ∷ bytes) version rest e fits = let tail : IsBytes bytes = λ i. fits (suc i) in
    subst (λ (p : ℕ × List ℕ). IsBytes p.1) (ok_is (b, bytes) (version, rest) e) tail

module _ {A : Type 0} where
  abbrev then_markers : ℕ → Marker A × List ℕ → Result (List (Marker A)) MarkerFault
  then_markers most x = with_front (x.0 ∷ []) (markers_within most x.1)

  shorter : (bytes : List ℕ) (m : Marker A) (rest : List ℕ) → TakesMarker bytes m rest
      → length rest < length bytes
  shorter bytes m rest took = let sum = ap length took.spelled ∙ length-append (marker_bytes m) rest in
      omega arith

  -- how many markers at most doesn't matter
  enough : (k j : ℕ) (bytes : List ℕ) → IsBytes bytes → length bytes ≤ k → length bytes ≤ j
      → markers_within {A = A} k bytes ≡ markers_within j bytes
  unfolding markers_within
  enough zero zero [] fits h g = refl
  enough zero (suc j) [] fits h g = refl
  enough (suc k) zero [] fits h g = refl
  enough (suc k) (suc j) [] fits h g = refl
  enough zero zero (b ∷ bytes) fits h g = absurd (omega arith)
  enough zero (suc j) (b ∷ bytes) fits h g = absurd (omega arith)
  enough (suc k) zero (b ∷ bytes) fits h g = absurd (omega arith)
  enough (suc k) (suc j) (b ∷ bytes) fits h g = by (marker_at (b ∷ bytes)) refl (enough k j)
    where
      by : (r : Result (Marker A × List ℕ) MarkerFault) → marker_at (b ∷ bytes) ≡ r
          → ((rest : List ℕ) → IsBytes rest → length rest ≤ k → length rest ≤ j
          → markers_within {A = A} k rest ≡ markers_within j rest)
          → (r >>= then_markers k) ≡ (r >>= then_markers j)
      by (Ok x) e rest =
          let took = marker_takes (b ∷ bytes) x.0 x.1 fits e in
          let less : length x.1 < length (b ∷ bytes) = shorter (b ∷ bytes) x.0 x.1 took in
          ap (with_front (x.0 ∷ [])) (rest x.1 took.rest_fits (omega arith) (omega arith))
      by (Err d) e rest = refl

  step_ok : (b : ℕ) (bytes : List ℕ) (m : Marker A) (rest : List ℕ) → IsBytes (b ∷ bytes)
      → marker_at (b ∷ bytes) ≡ Ok (m, rest) → markers_at (b ∷ bytes) ≡ with_front (m ∷ []) (markers_at rest)
  unfolding markers_at markers_within
  step_ok b bytes m rest fits e =
      let took = marker_takes (b ∷ bytes) m rest fits e in
      let less : length rest < length (b ∷ bytes) = shorter (b ∷ bytes) m rest took in
      ap (λ (r : Result (Marker A × List ℕ) MarkerFault). r >>= then_markers (length bytes)) e
      ∙ ap (with_front (m ∷ []))
      (enough (length bytes) (length rest) rest took.rest_fits (omega arith) (omega arith))

  step_err : (b : ℕ) (bytes : List ℕ) (d : MarkerFault) → marker_at {A = A} (b ∷ bytes) ≡ Err d
      → markers_at {A = A} (b ∷ bytes) ≡ Err d
  unfolding markers_at markers_within
  step_err b bytes d e = ap (λ (r : Result (Marker A × List ℕ) MarkerFault). r
      >>= then_markers (length bytes)) e

  at_end : markers_at {A = A} [] ≡ Ok []
  unfolding markers_at markers_within
  at_end = refl

  -- ---- the loop

  pub no_front : (read : Result (List (Marker A)) MarkerFault) → with_front [] read ≡ read
  no_front (Ok ms) = refl
  no_front (Err d) = refl

  front_front : (front : List (Marker A)) (m : Marker A) (read : Result (List (Marker A)) MarkerFault)
      → with_front front (with_front (m ∷ []) read) ≡ with_front (front ++ m ∷ []) read
  front_front front m (Ok ms) = ap (λ (l : List (Marker A)). Ok l) (sym (append_assoc front (m ∷ []) ms))
  front_front front m (Err d) = refl

  pub goes_on : (front : List (Marker A)) (bytes : List ℕ) (m : Marker A) (rest : List ℕ)
      (all : Result (List (Marker A)) MarkerFault) → IsBytes bytes → 0 < length bytes
      → with_front front (markers_at bytes) ≡ all → marker_at bytes ≡ Ok (m, rest)
      → with_front (front ++ m ∷ []) (markers_at rest) ≡ all
  goes_on front [] m rest all fits some h e = absurd (omega arith)
  goes_on front (b ∷ bytes) m rest all fits some h e = sym (front_front front m (markers_at rest))
      ∙ ap (with_front front) (sym (step_ok b bytes m rest fits e)) ∙ h

  pub rest_fits : (bytes : List ℕ) (m : Marker A) (rest : List ℕ) → IsBytes bytes
      → marker_at bytes ≡ Ok (m, rest) → IsBytes rest
  rest_fits bytes m rest fits e = (marker_takes bytes m rest fits e).rest_fits

  pub is_shorter : (bytes : List ℕ) (m : Marker A) (rest : List ℕ) → IsBytes bytes
      → marker_at bytes ≡ Ok (m, rest) → length rest < length bytes
  is_shorter bytes m rest fits e = shorter bytes m rest (marker_takes bytes m rest fits e)

  stops : (front : List (Marker A)) (bytes : List ℕ) (d : MarkerFault)
      (all : Result (List (Marker A)) MarkerFault) → 0 < length bytes
      → with_front front (markers_at bytes) ≡ all → marker_at {A = A} bytes ≡ Err d → all ≡ Err d
  stops front [] d all some h e = absurd (omega arith)
  stops front (b ∷ bytes) d all some h e = sym h ∙ ap (with_front front) (step_err b bytes d e)

  pub fails_on : (front : List (Marker A)) (bytes : List ℕ) (d : MarkerFault)
      (all : Result (List (Marker A)) MarkerFault) → 0 < length bytes
      → with_front front (markers_at bytes) ≡ all → MarkerFails d (marker_at {A = A} bytes) → MarkerFails d all
  fails_on front bytes BadVersion all some h e = stops front bytes BadVersion all some h e
  fails_on front bytes Short all some h e = stops front bytes Short all some h e
  fails_on front bytes BadMetadata all some h e = stops front bytes BadMetadata all some h e
  fails_on front bytes NullSuccessor all some h e = stops front bytes NullSuccessor all some h e
  fails_on front bytes NoMemory all some h e = tt

  pub ends : (front : List (Marker A)) (bytes : List ℕ) (all : Result (List (Marker A)) MarkerFault)
      → length bytes ≡ 0 → with_front front (markers_at bytes) ≡ all → all ≡ Ok front
  ends front bytes all none h =
      sym h ∙ ap (λ (l : List ℕ). with_front front (markers_at l)) (nil_from_length bytes none)
      ∙ ap (with_front front) at_end ∙ ap (λ (l : List (Marker A)). Ok l) (append-nil front)

  -- ---- the version

  pub starts : (bytes : List ℕ) (version : ℕ) (rest : List ℕ) → byte_at bytes ≡ Ok (version, rest)
      → version ≡ 0 → markers_of {A = A} bytes ≡ markers_at rest
  unfolding byte_at markers_of
  starts [] version rest e zero-is = absurd cc
  starts (b ∷ bytes) version rest e zero-is =
      let both = ok_is (b, bytes) (version, rest) e in
      let first : b ≡ 0 = ap (λ (p : ℕ × List ℕ). p.0) both ∙ zero-is in
      ap (λ (c : Bool). cond c (markers_at {A = A} bytes) (Err BadVersion)) (eq-eqb b 0 first)
      ∙ ap (λ (p : ℕ × List ℕ). markers_at {A = A} p.1) both

  pub bad_version : (bytes : List ℕ) (version : ℕ) (rest : List ℕ) → byte_at bytes ≡ Ok (version, rest)
      → (version ≡ 0 → ⊥) → markers_of {A = A} bytes ≡ Err BadVersion
  unfolding byte_at markers_of
  bad_version [] version rest e other = absurd cc
  bad_version (b ∷ bytes) version rest e other =
      let both = ok_is (b, bytes) (version, rest) e in
      ap (λ (c : Bool). cond c (markers_at {A = A} bytes) (Err BadVersion))
      (ne_eqb b 0 (λ same. other (ap (λ (p : ℕ × List ℕ). p.0) (sym both) ∙ same)))

  -- there is no version
  no_version : (bytes : List ℕ) (d : MarkerFault) → byte_at bytes ≡ Err d → markers_of {A = A} bytes ≡ Err d
  unfolding byte_at markers_of
  no_version [] d e = ap (λ (x : MarkerFault). Err x) (err_is (ℕ × List ℕ) Short d e)
  no_version (b ∷ bytes) d e = absurd cc

  -- what the exit of a `?` gives
  pub gives_fault : (r : Result (List (Marker A)) MarkerFault) (fault d : MarkerFault)
      (read : Result (List (Marker A)) MarkerFault) → r ≡ Err fault → fault ≡ d → MarkerFails d read
      → MarkerGives (λ ms. ms) r read
  gives_fault r fault d read e same told =
      subst (λ (x : Result (List (Marker A)) MarkerFault). MarkerGives (λ ms. ms) x read)
      (sym (e ∙ ap (λ (x : MarkerFault). Err x) same)) told

  -- ---- what is read is in the grammar

  record Spells (bytes : List ℕ) (ms : List (Marker A)) : Type 0 where
    spelled : bytes ≡ flat_map marker_bytes ms
    each : AllByRecursion IsMarker ms

  within_takes : (k : ℕ) (bytes : List ℕ) (ms : List (Marker A)) → IsBytes bytes → length bytes ≤ k
      → markers_within k bytes ≡ Ok ms → Spells bytes ms
  unfolding markers_within
  within_takes zero [] ms fits h e = subst (Spells []) (ok_is [] ms e) (record { spelled = refl; each = tt })
  within_takes (suc k) [] ms fits h e =
      subst (Spells []) (ok_is [] ms e) (record { spelled = refl; each = tt })
  within_takes zero (b ∷ bytes) ms fits h e = absurd (omega arith)
  within_takes (suc k) (b ∷ bytes) ms fits h e =
      let first = bind_ok (marker_at (b ∷ bytes)) (then_markers k) ms e in
      let m : Marker A = first.0.0 in
      let after : List ℕ = first.0.1 in
      let others = bind_ok (markers_within k after) (λ (l : List (Marker A)). Ok ((m ∷ []) ++ l)) ms
      first.2 in
      let took = marker_takes (b ∷ bytes) m after fits first.1 in
      let less : length after < length (b ∷ bytes) = shorter (b ∷ bytes) m after took in
      let rest : Spells after others.0 = within_takes k after others.0 took.rest_fits
      (omega arith) others.1 in
      let spelled : b ∷ bytes ≡ flat_map marker_bytes (m ∷ others.0) = took.spelled
      ∙ ap (λ (l : List ℕ). marker_bytes m ++ l) rest.spelled
      ∙ sym (flat_map-cons marker_bytes m others.0) in
      subst (Spells (b ∷ bytes)) (ok_is (m ∷ others.0) ms others.2)
      (record { spelled = spelled; each = (took.good, rest.each) })

  pub found : (bytes : List ℕ) (ms : List (Marker A)) → IsBytes bytes → markers_of bytes ≡ Ok ms
      → AreMarkers bytes ms
  unfolding markers_of markers_at
  found [] ms fits e = absurd cc
  found (version ∷ bytes) ms fits e = by (version == 0) refl e
    where
      by : (b : Bool) → (version == 0) ≡ b
          → cond b (markers_within (length bytes) bytes) (Err BadVersion) ≡ Ok ms
          → AreMarkers (version ∷ bytes) ms
      by true zero-is e =
          let tail : IsBytes bytes = λ i. fits (suc i) in
          let rest = within_takes (length bytes) bytes ms tail (omega arith) e in
          record {
            spelled = ap (λ (n : ℕ). n ∷ bytes) (eqb-true version 0 zero-is)
                ∙ ap (λ (l : List ℕ). 0 ∷ l) rest.spelled;
            each = rest.each;
          }
      by false other e = absurd cc

  -- ---- a fault is the first one

  within_fault : (k : ℕ) (bytes : List ℕ) (d : MarkerFault) → IsBytes bytes → length bytes ≤ k
      → markers_within {A = A} k bytes ≡ Err d → Faulty A d bytes
  unfolding markers_within
  within_fault zero [] d fits h e = absurd cc
  within_fault (suc k) [] d fits h e = absurd cc
  within_fault zero (b ∷ bytes) d fits h e = absurd (omega arith)
  within_fault (suc k) (b ∷ bytes) d fits h e = by (marker_at (b ∷ bytes)) refl e (within_fault k)
    where
      with_others : (m : Marker A) (after : List ℕ) (read : Result (List (Marker A)) MarkerFault)
          → TakesMarker (b ∷ bytes) m after → (read ≡ Err d → Faulty A d after)
          → with_front (m ∷ []) read ≡ Err d → Faulty A d (b ∷ bytes)
      with_others m after (Ok ms) took rest e = absurd cc
      with_others m after (Err c) took rest e =
          let same : c ≡ d = err_is (List (Marker A)) c d e in
          let inner = rest (ap (λ (x : MarkerFault). Err x) same) in
          record {
            before = m ∷ inner.before;
            each = (took.good, inner.each);
            rest = inner.rest;
            some = inner.some;
            spelled =
                took.spelled ∙ ap (λ (l : List ℕ). marker_bytes m ++ l) inner.spelled
                ∙ sym (append_assoc (marker_bytes m) (flat_map marker_bytes inner.before) inner.rest)
                ∙ ap (λ (l : List ℕ). l ++ inner.rest) (sym (flat_map-cons marker_bytes m inner.before));
            faulty = inner.faulty;
          }

      by : (r : Result (Marker A × List ℕ) MarkerFault) → marker_at (b ∷ bytes) ≡ r
          → (r >>= then_markers k) ≡ Err d
          → ((after : List ℕ) (c : MarkerFault) → IsBytes after → length after ≤ k
          → markers_within {A = A} k after ≡ Err c → Faulty A c after) → Faulty A d (b ∷ bytes)
      by (Ok x) g e rest =
          let took = marker_takes (b ∷ bytes) x.0 x.1 fits g in
          let less : length x.1 < length (b ∷ bytes) = shorter (b ∷ bytes) x.0 x.1 took in
          with_others x.0 x.1 (markers_within k x.1) took (rest x.1 d took.rest_fits (omega arith)) e
      by (Err c) g e rest =
          let same : c ≡ d = err_is (List (Marker A)) c d e in
          let at : marker_at {A = A} (b ∷ bytes) ≡ Err d = g ∙ ap (λ (x : MarkerFault). Err x) same in
          record {
            before = [];
            each = tt;
            rest = b ∷ bytes;
            some = omega arith;
            spelled = refl;
            faulty = marker_fault (b ∷ bytes) d fits at;
          }

  -- after the version byte stands no fault of the version
  told : (d : MarkerFault) (bytes : List ℕ) → IsFaultBehind A d bytes → IsFault A d bytes
  told BadVersion bytes behind = absurd behind.faulty
  told Short bytes behind = inr behind
  told BadMetadata bytes behind = behind
  told NullSuccessor bytes behind = behind
  told NoMemory bytes behind = tt

  pub first_fault : (bytes : List ℕ) (d : MarkerFault) → IsBytes bytes → markers_of {A = A} bytes ≡ Err d
      → IsFault A d bytes
  unfolding markers_of markers_at
  first_fault [] d fits e =
      subst (λ (x : MarkerFault). IsFault A x []) (err_is (List (Marker A)) Short d e) (inl refl)
  first_fault (version ∷ bytes) d fits e = by (version == 0) refl e
    where
      by : (b : Bool) → (version == 0) ≡ b
          → cond b (markers_within {A = A} (length bytes) bytes) (Err BadVersion) ≡ Err d
          → IsFault A d (version ∷ bytes)
      by true zero-is e =
          let tail : IsBytes bytes = λ i. fits (suc i) in
          let behind = within_fault (length bytes) bytes d tail (omega arith) e in
          told d (version ∷ bytes) (record {
            before = behind.before;
            each = behind.each;
            rest = behind.rest;
            some = behind.some;
            spelled = ap (λ (n : ℕ). n ∷ bytes) (eqb-true version 0 zero-is)
                ∙ ap (λ (l : List ℕ). 0 ∷ l) behind.spelled;
            faulty = behind.faulty;
          })
      by false other e =
          subst (λ (x : MarkerFault). IsFault A x (version ∷ bytes)) (err_is (List (Marker A)) BadVersion d e)
          (version, bytes, refl, eqb-false version 0 other)

  -- the same of an answer
  pub found_from : (r : Result (List (Marker A)) MarkerFault) (bytes : List ℕ) → IsBytes bytes
      → MarkerGives (λ ms. ms) r (markers_of bytes) → IfOk r (AreMarkers bytes)
  found_from (Ok ms) bytes fits e = found bytes ms fits e
  found_from (Err d) bytes fits e = tt

  pub fault_from : (r : Result (List (Marker A)) MarkerFault) (bytes : List ℕ) → IsBytes bytes
      → MarkerGives (λ ms. ms) r (markers_of bytes) → IfErr r (λ d. IsFault A d bytes)
  fault_from (Ok ms) bytes fits e = tt
  fault_from (Err BadVersion) bytes fits e = first_fault bytes BadVersion fits e
  fault_from (Err Short) bytes fits e = first_fault bytes Short fits e
  fault_from (Err BadMetadata) bytes fits e = first_fault bytes BadMetadata fits e
  fault_from (Err NullSuccessor) bytes fits e = first_fault bytes NullSuccessor fits e
  fault_from (Err NoMemory) bytes fits e = tt

  -- ---- what is in the grammar is read

  front_again : (before : List (Marker A)) (rest : List ℕ) → IsBytes (flat_map marker_bytes before ++ rest)
      → AllByRecursion IsMarker before
      → markers_at (flat_map marker_bytes before ++ rest) ≡ with_front before (markers_at rest)
  front_again [] rest fits each = sym (no_front (markers_at rest))
  front_again (m ∷ ms) rest fits each =
      let cut : flat_map marker_bytes (m ∷ ms) ++ rest ≡ marker_bytes m
      ++ (flat_map marker_bytes ms ++ rest) =
      ap (λ (l : List ℕ). l ++ rest) (flat_map-cons marker_bytes m ms)
      ∙ append_assoc (marker_bytes m) (flat_map marker_bytes ms) rest in
      let fits_cut : IsBytes (marker_bytes m ++ (flat_map marker_bytes ms ++ rest)) =
      subst IsBytes cut fits in
      let fits_rest : IsBytes (flat_map marker_bytes ms ++ rest) = subst IsBytes
      (drop_at (marker_bytes m) (flat_map marker_bytes ms ++ rest) (length (marker_bytes m)) refl)
      (IsBytes-drop (length (marker_bytes m)) (marker_bytes m
      ++ (flat_map marker_bytes ms ++ rest)) fits_cut) in
      ap markers_at cut ∙ first m (flat_map marker_bytes ms ++ rest) each.0 fits_cut
      ∙ ap (with_front (m ∷ [])) (front_again ms rest fits_rest each.1) ∙ joined (markers_at rest)
    where
      first : (m : Marker A) (tail : List ℕ) → IsMarker m → IsBytes (marker_bytes m ++ tail)
          → markers_at (marker_bytes m ++ tail) ≡ with_front (m ∷ []) (markers_at tail)
      first m tail good fits = step_ok _ _ m tail fits (marker_again m tail good)

      joined : (read : Result (List (Marker A)) MarkerFault)
          → with_front (m ∷ []) (with_front ms read) ≡ with_front (m ∷ ms) read
      joined (Ok l) = refl
      joined (Err d) = refl

  version_0 : (bytes rest : List ℕ) → bytes ≡ 0 ∷ rest → markers_of {A = A} bytes ≡ markers_at rest
  unfolding markers_of
  version_0 bytes rest e = ap (markers_of {A = A}) e

  pub read_again : (bytes : List ℕ) (ms : List (Marker A)) → IsBytes bytes → AreMarkers bytes ms
      → markers_of bytes ≡ Ok ms
  read_again bytes ms fits are =
      let whole : flat_map marker_bytes ms
      ++ [] ≡ flat_map marker_bytes ms = append-nil (flat_map marker_bytes ms) in
      let fits_rest : IsBytes (flat_map marker_bytes ms ++ []) = subst IsBytes (sym whole)
      (tail_fits bytes (flat_map marker_bytes ms) fits are.spelled) in
      version_0 bytes (flat_map marker_bytes ms) are.spelled ∙ ap markers_at (sym whole)
      ∙ front_again ms [] fits_rest are.each ∙ ap (with_front ms) at_end
      ∙ ap (λ (l : List (Marker A)). Ok l) (append-nil ms)

  fault_again : (d : MarkerFault) (rest : List ℕ) → IsBytes rest → IsMarkerFault A d rest
      → marker_at {A = A} rest ≡ Err d
  unfolding marker_at
  fault_again BadVersion rest fits faulty = absurd faulty
  fault_again NoMemory rest fits faulty = absurd faulty
  fault_again BadMetadata rest fits faulty =
      ap (λ (r : Result (Fields × List ℕ) MarkerFault). r >>= checked {A = A})
      (reads_fields rest faulty.0 faulty.1)
      ∙ checked_is (fields_of faulty.0) faulty.1.more false (null_in (fields_of faulty.0)) faulty.2 refl
  fault_again NullSuccessor rest fits faulty =
      ap (λ (r : Result (Fields × List ℕ) MarkerFault). r >>= checked {A = A})
      (reads_fields rest faulty.0 faulty.1)
      ∙ checked_is (fields_of faulty.0) faulty.1.more true true faulty.2
      (list_any-from_Contains same_node_equiv null_node faulty.0.successors faulty.3)
  fault_again Short rest fits none = by (marker_at rest) refl
    where
      by_fault : (c : MarkerFault) → IsMarkerFault A c rest → c ≡ Short
      by_fault BadVersion faulty = absurd faulty
      by_fault Short faulty = refl
      by_fault BadMetadata faulty = absurd (none faulty.0 faulty.1)
      by_fault NullSuccessor faulty = absurd (none faulty.0 faulty.1)
      by_fault NoMemory faulty = absurd faulty

      by : (r : Result (Marker A × List ℕ) MarkerFault) → marker_at rest ≡ r → r ≡ Err Short
      by (Ok x) e = let took = marker_takes rest x.0 x.1 fits e in
          absurd (none x.0 (record {
            more = x.1;
            spelled = took.spelled;
            fits = took.good.fits;
            ids = took.good.ids;
          }))
      by (Err c) e = ap (λ (x : MarkerFault). Err x) (by_fault c (marker_fault rest c fits e))

  behind_again : (d : MarkerFault) (bytes : List ℕ) → IsBytes bytes → IsFaultBehind A d bytes
      → markers_of {A = A} bytes ≡ Err d
  behind_again d bytes fits behind =
      let whole : IsBytes (flat_map marker_bytes behind.before ++ behind.rest) = tail_fits bytes
      (flat_map marker_bytes behind.before ++ behind.rest) fits behind.spelled in
      let fits_rest : IsBytes behind.rest = subst IsBytes
      (drop_at (flat_map marker_bytes behind.before) behind.rest
      (length (flat_map marker_bytes behind.before)) refl)
      (IsBytes-drop (length (flat_map marker_bytes behind.before)) (flat_map marker_bytes behind.before
      ++ behind.rest) whole) in
      version_0 bytes (flat_map marker_bytes behind.before ++ behind.rest) behind.spelled
      ∙ front_again behind.before behind.rest whole behind.each
      ∙ ap (with_front behind.before)
      (at_rest behind.rest behind.some (fault_again d behind.rest fits_rest behind.faulty))
    where
      at_rest : (rest : List ℕ) → 0 < length rest → marker_at {A = A} rest ≡ Err d
          → markers_at {A = A} rest ≡ Err d
      at_rest [] some e = absurd (omega arith)
      at_rest (b ∷ bytes) some e = step_err b bytes d e

  pub fault_told : (d : MarkerFault) (bytes : List ℕ) → IsBytes bytes → d ≢ NoMemory → IsFault A d bytes
      → markers_of {A = A} bytes ≡ Err d
  unfolding markers_of
  fault_told BadVersion bytes fits other (version, rest, spelled, is) =
      ap (markers_of {A = A}) spelled
      ∙ ap (λ (b : Bool). cond b (markers_at {A = A} rest) (Err BadVersion)) (ne_eqb version 0 is)
  fault_told Short bytes fits other (inl none) = ap (markers_of {A = A}) none
  fault_told Short bytes fits other (inr behind) = behind_again Short bytes fits behind
  fault_told BadMetadata bytes fits other behind = behind_again BadMetadata bytes fits behind
  fault_told NullSuccessor bytes fits other behind = behind_again NullSuccessor bytes fits behind
  fault_told NoMemory bytes fits other behind = absurd (other refl)

pub no_version_told : (A : Type 0) (bytes : List ℕ) (d : MarkerFault) → MarkerFails d (byte_at bytes)
    → MarkerFails d (markers_of {A = A} bytes)
no_version_told A bytes BadVersion e = no_version {A = A} bytes BadVersion e
no_version_told A bytes Short e = no_version {A = A} bytes Short e
no_version_told A bytes BadMetadata e = no_version {A = A} bytes BadMetadata e
no_version_told A bytes NullSuccessor e = no_version {A = A} bytes NullSuccessor e
no_version_told A bytes NoMemory e = tt
