-- One marker, and all markers of marker data: reading is the grammar.
use Rattle.std.proofs.Common.{◌≡◌, ◌≢◌, ℕ, Bool, true, false, cond, List, [], ◌∷◌, ◌++◌, Result, Ok, Err}
use Rattle.std.proofs.Common.{refl, sym, ap, subst, ◌∙◌, true≢false, Contains, ◌||◌, map, nat_eq}
use Rattle.std.specs.Cmp.Lexicographic.{pointwise}
use Rattle.hg_obs.proofs.PlaceLemmas.{same_node_equiv}
use Rattle.std.specs.List.{AllByRecursion, list_any}
use Rattle.indexmap.proofs.CallerLemmas.{Contains-list_any}
use Rattle.hg_types.specs.declared.node.Node.{Node}
use Rattle.hg_types.specs.Bytes.{IsBytes}
use Rattle.hg_types.specs.NullId.{null_node}
use Rattle.hg_obs.specs.declared.marker.Marker.{Marker}
use Rattle.hg_obs.specs.declared.fault.MarkerFault.{MarkerFault}
use Rattle.hg_obs.specs.declared.fault.MarkerFault.TheVariants.{Short, BadMetadata, NullSuccessor}
use Rattle.hg_obs.specs.Marker.{marker_bytes, is_metadata, MarkerFits, HasIds, IsMarker}
use Rattle.hg_obs.specs.Same.{same_node, same_node_decides}
use Rattle.hg_obs.specs.Grammar.{BeginsWithMarker, IsMarkerFault}
use Rattle.hg_obs.specs.Reading.{◌>>=◌, Fields, node_of, kept_of, fields_at, checked, marker_at}
use Rattle.hg_obs.proofs.ReadingLemmas.{TakesFields, FieldsFit, fields_take, fields_again, fields_err}
use Rattle.hg_obs.proofs.ReadingLemmas.{bind_ok, ok_is}

-- ---- ids that are not null

no_null : (ids : List Node) → list_any (same_node null_node) ids ≡ false
    → AllByRecursion (λ id. id ≢ null_node) ids
no_null [] e = tt
no_null (id ∷ ids) e = by (same_node null_node id) refl e (no_null ids)
  where
    by : (b : Bool) → same_node null_node id ≡ b → (b || list_any (same_node null_node) ids) ≡ false
        → (list_any (same_node null_node) ids ≡ false → AllByRecursion (λ (n : Node). n ≢ null_node) ids)
        → (id ≢ null_node) × AllByRecursion (λ (n : Node). n ≢ null_node) ids
    by true s h rest = absurd (true≢false h)
    by false s h rest = (
      (λ same. true≢false (sym ((same_node_decides null_node id).1 (sym same)) ∙ s)),
      rest h,
    )

still_no_null : (ids : List Node) → AllByRecursion (λ id. id ≢ null_node) ids
    → list_any (same_node null_node) ids ≡ false
still_no_null [] each = refl
still_no_null (id ∷ ids) each = by (same_node null_node id) refl (still_no_null ids each.1)
  where
    by : (b : Bool) → same_node null_node id ≡ b → list_any (same_node null_node) ids ≡ false
        → (b || list_any (same_node null_node) ids) ≡ false
    by true s h = absurd (each.0 (sym ((same_node_decides null_node id).0 s)))
    by false s h = h

abbrev pub null_in : Fields → Bool
null_in f = list_any (same_node null_node) f.successors

abbrev fails : (A : Type 0) → MarkerFault → Result A MarkerFault
fails A d = Err d

pub err_is : (A : Type 0) (x y : MarkerFault) → fails A x ≡ fails A y → x ≡ y
err_is A x y e = cc

clash : (A : Type 0) (d : MarkerFault) (x : A) → fails A d ≡ Ok x → ⊥
clash A d x e = absurd cc

-- the code looks for the null id so
pub any_null : (ids : List (List ℕ))
    → list_any (λ id. pointwise nat_eq id null_node.0) ids ≡ list_any (same_node null_node) (map node_of ids)
any_null [] = refl
any_null (id ∷ ids) = ap (λ (b : Bool). b || list_any (λ i. pointwise nat_eq i null_node.0) ids)
    (same_node_equiv.symm (node_of id) null_node)
    ∙ ap (λ (b : Bool). same_node null_node (node_of id) || b) (any_null ids)

module _ {A : Type 0} where
  -- the fields of a marker
  abbrev pub fields_of : Marker A → Fields
  fields_of m = record {
    successors = m.successors;
    flags = m.flags;
    predecessor = m.predecessor;
    meta = m.meta;
  }

  fields_fit : (m : Marker A) → MarkerFits m → HasIds m → FieldsFit (fields_of m)
  fields_fit m fits ids = record {
    successors = fits.successors;
    meta = fits.meta;
    predecessor = ids.predecessor;
    each = ids.successors;
  }

  pub reads_fields : (bytes : List ℕ) (m : Marker A) (begins : BeginsWithMarker bytes m)
      → fields_at bytes ≡ Ok (fields_of m, begins.more)
  reads_fields bytes m begins =
      ap fields_at begins.spelled
      ∙ fields_again (fields_of m) begins.more (fields_fit m begins.fits begins.ids)

  abbrev pub begins : (bytes : List ℕ) (f : Fields) (rest : List ℕ) → TakesFields bytes f rest
      → BeginsWithMarker bytes (kept_of {A = A} f)
  begins bytes f rest took = record {
    more = rest;
    spelled = took.takes.parts;
    fits = record { successors = took.fits.successors; meta = took.fits.meta };
    ids = record { predecessor = took.fits.predecessor; successors = took.fits.each };
  }

  -- what `checked` is, by its two tests
  pub checked_is : (f : Fields) (rest : List ℕ) (metadata null : Bool) → is_metadata f.meta ≡ metadata
      → null_in f ≡ null
      → checked {A = A} (f, rest) ≡ cond metadata (cond null (Err NullSuccessor) (Ok (kept_of f, rest)))
      (Err BadMetadata)
  unfolding checked
  checked_is f rest metadata null e h = rw (e, h) refl

  -- what reading a marker gives, by what its fields are
  pub marker_is : (bytes : List ℕ) (f : Fields) (rest : List ℕ) (metadata null : Bool)
      → fields_at bytes ≡ Ok (f, rest) → is_metadata f.meta ≡ metadata → null_in f ≡ null
      → marker_at {A = A} bytes ≡ cond metadata (cond null (Err NullSuccessor) (Ok (kept_of f, rest)))
      (Err BadMetadata)
  unfolding marker_at
  marker_is bytes f rest metadata null e g h =
      ap (λ (r : Result (Fields × List ℕ) MarkerFault). r >>= checked {A = A}) e
      ∙ checked_is f rest metadata null g h

  pub record TakesMarker (bytes : List ℕ) (m : Marker A) (rest : List ℕ) : Type 0 where
    pub good : IsMarker m
    pub spelled : bytes ≡ marker_bytes m ++ rest
    pub rest_fits : IsBytes rest

  pub marker_takes : (bytes : List ℕ) (m : Marker A) (rest : List ℕ) → IsBytes bytes
      → marker_at bytes ≡ Ok (m, rest) → TakesMarker bytes m rest
  unfolding marker_at
  marker_takes bytes m rest fits e =
      let b = bind_ok (fields_at bytes) (checked {A = A}) (m, rest) e in
      let took = fields_take bytes b.0.0 b.0.1 fits b.1 in
      by b.0.0 b.0.1 took (is_metadata b.0.0.meta) (null_in b.0.0) refl refl b.2
    where
      by : (f : Fields) (after : List ℕ) → TakesFields bytes f after → (metadata null : Bool)
          → is_metadata f.meta ≡ metadata → null_in f ≡ null → checked (f, after) ≡ Ok (m, rest)
          → TakesMarker bytes m rest
      by f after took true true g h k =
          absurd (clash (Marker A × List ℕ) NullSuccessor (m, rest) (sym (checked_is f after true true g h)
          ∙ k))
      by f after took false null g h k =
          absurd (clash (Marker A × List ℕ) BadMetadata (m, rest) (sym (checked_is f after false null g h)
          ∙ k))
      by f after took true false g h k =
          let both = ok_is (kept_of {A = A} f, after) (m, rest) (sym (checked_is f after true false g h)
          ∙ k) in
          let starts = begins bytes f after took in
          let made : TakesMarker bytes (kept_of f) after = record {
            good = record {
              fits = starts.fits;
              ids = starts.ids;
              metadata = g;
              successors = no_null f.successors h;
            };
            spelled = starts.spelled;
            rest_fits = took.takes.rest_fits;
          } in
          subst (λ (p : Marker A × List ℕ). TakesMarker bytes p.0 p.1) both made

  pub marker_again : (m : Marker A) (rest : List ℕ) → IsMarker m
      → marker_at (marker_bytes m ++ rest) ≡ Ok (m, rest)
  unfolding marker_at
  marker_again m rest good =
      ap (λ (r : Result (Fields × List ℕ) MarkerFault). r >>= checked {A = A})
      (fields_again (fields_of m) rest (fields_fit m good.fits good.ids))
      ∙ checked_is (fields_of m) rest true false good.metadata (still_no_null m.successors good.successors)

  pub marker_fault : (bytes : List ℕ) (d : MarkerFault) → IsBytes bytes → marker_at {A = A} bytes ≡ Err d
      → IsMarkerFault A d bytes
  unfolding marker_at
  marker_fault bytes d fits e = by (fields_at bytes) refl e
    where
      by_checks : (f : Fields) (after : List ℕ) → TakesFields bytes f after → (metadata null : Bool)
          → is_metadata f.meta ≡ metadata → null_in f ≡ null → checked {A = A} (f, after) ≡ Err d
          → IsMarkerFault A d bytes
      by_checks f after took true false g h k =
          absurd (clash (Marker A × List ℕ) d (kept_of f, after) (sym k ∙ checked_is f after true false g h))
      by_checks f after took false null g h k =
          let same : BadMetadata ≡ d = err_is (Marker A × List ℕ) BadMetadata d
          (sym (checked_is f after false null g h) ∙ k) in
          subst (λ (x : MarkerFault). IsMarkerFault A x bytes) same (kept_of f, begins bytes f after took, g)
      by_checks f after took true true g h k =
          let same : NullSuccessor ≡ d = err_is (Marker A × List ℕ) NullSuccessor d
          (sym (checked_is f after true true g h) ∙ k) in
          let there : Contains f.successors null_node = Contains-list_any same_node
          (λ x y q. (same_node_decides x y).0 q) f.successors null_node h in
          subst (λ (x : MarkerFault). IsMarkerFault A x bytes) same (
            kept_of f,
            begins bytes f after took,
            g,
            there,
          )

      by : (r : Result (Fields × List ℕ) MarkerFault) → fields_at bytes ≡ r → (r >>= checked {A = A}) ≡ Err d
          → IsMarkerFault A d bytes
      by (Ok x) g h = by_checks x.0 x.1 (fields_take bytes x.0 x.1 fits g) (is_metadata x.0.meta)
          (null_in x.0) refl refl h
      by (Err c) g h =
          let same : c ≡ d = err_is (Marker A × List ℕ) c d h in
          let short : d ≡ Short = sym same ∙ fields_err bytes c g in
          subst (λ (x : MarkerFault). IsMarkerFault A x bytes) (sym short)
          (λ m starts. clash (Fields × List ℕ) c (fields_of m, starts.more) (sym g
          ∙ reads_fields bytes m starts))

  -- markers with the same bytes are equal
  pub same_from_bytes : (a b : Marker A) → MarkerFits a → HasIds a → MarkerFits b → HasIds b
      → marker_bytes a ≡ marker_bytes b → a ≡ b
  same_from_bytes a b a_fits a_ids b_fits b_ids e =
      let read : Ok (fields_of a, []) ≡ Ok (fields_of b, []) =
      sym (fields_again (fields_of a) [] (fields_fit a a_fits a_ids))
      ∙ ap (λ (bytes : List ℕ). fields_at (bytes ++ [])) e
      ∙ fields_again (fields_of b) [] (fields_fit b b_fits b_ids) in
      let same : fields_of a ≡ fields_of b = ap (λ (p : Fields × List ℕ). p.0)
      (ok_is (fields_of a, []) (fields_of b, []) read) in
      ap (kept_of {A = A}) same
