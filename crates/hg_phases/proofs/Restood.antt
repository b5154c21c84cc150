-- Rows that get the standing that their phases make, one after another.
use Rattle.std.proofs.Common.{◌≡◌, ◌⊎◌, ℕ, suc, ◌+◌, ◌<◌, ◌≤◌, List, length, set, get_or}
use Rattle.std.proofs.Common.{Option, Some, None, refl, sym, ap, ◌∙◌, subst, inl, inr, arith}
use Rattle.std.specs.Prelude.{⊤}
use Rattle.std.specs.List.{All}
use Rattle.std.proofs.lemmas.Bool.{cases_eq, cases_order}
use Rattle.std.proofs.lemmas.List.{get_or-set_same, get_or-set_other, length-set, length-map, map-set}
use Rattle.std.proofs.lemmas.List.{set-get_or}
use Rattle.hg_types.specs.declared.phase.Phase.{Phase}
use Rattle.hg_types.specs.declared.phase.Phase.TheVariants.{Public}
use Rattle.hg_types.specs.Phase.{number_of}
use Rattle.hg_log.specs.Parents.{IsParentIn, AreOrdered}
use Rattle.hg_log.specs.Children.{child_before}
use Rattle.hg_log.proofs.CallerLemmas.{before_some, before_nobody}
use Rattle.hg_phases.specs.declared.standing.Standing.{Standing}
use Rattle.hg_phases.specs.declared.standing.Standing.TheVariants.{PublicOnPublic, DraftOnPublic}
use Rattle.hg_phases.specs.declared.standing.Standing.TheVariants.{DraftOnDraft, SecretOnPublic}
use Rattle.hg_phases.specs.declared.standing.Standing.TheVariants.{SecretOnDraft, SecretOnSecret}
use Rattle.hg_phases.specs.Order.{greater, phase_at, phase_of, phase_above}
use Rattle.hg_phases.specs.Phases.{AreLawful}
use Rattle.hg_phases.specs.Standing.{standing_of, standing_at, phase_told, phases_told}
use Rattle.hg_phases.specs.code.Walk.{standing_in, AreStanding, AreRestood, IsTouched, IsListed}
use Rattle.hg_phases.specs.code.Walk.{IsHigher, IsHigherChild}
use Rattle.hg_phases.proofs.Rising.{parent_below}
use Rattle.hg_phases.proofs.Told.{phase_of_standing}
use Rattle.hg_phases.proofs.Standings.{phase_at_told}

-- no other standing is of a public row
only_public : (standing : Standing) → phase_told standing ≡ Public → standing ≡ PublicOnPublic
only_public PublicOnPublic is = refl
only_public DraftOnPublic is = absurd (omega (arith, ap number_of is))
only_public DraftOnDraft is = absurd (omega (arith, ap number_of is))
only_public SecretOnPublic is = absurd (omega (arith, ap number_of is))
only_public SecretOnDraft is = absurd (omega (arith, ap number_of is))
only_public SecretOnSecret is = absurd (omega (arith, ap number_of is))

module _ (parents : ℕ → Option ℕ × Option ℕ) where
  -- the phases stay where a row gets its standing
  set_same : (now : List Standing) (row : ℕ)
      → phases_told (set now row (standing_in parents (phases_told now) row)) ≡ phases_told now
  set_same now row =
      map-set phase_told now row (standing_in parents (phases_told now) row)
      ∙ ap (set (phases_told now) row) (phase_of_standing (phase_at (phases_told now) row)
      (phase_above parents (phases_told now) row))
      ∙ set-get_or (phases_told now) row Public

  -- a public row has its standing
  pub public_stands : (now : List Standing) (row : ℕ) → row < length now
      → phase_at (phases_told now) row ≡ Public
      → now ≡ set now row (standing_in parents (phases_told now) row)
  public_stands now row within public =
      sym (ap (set now row) (ap (λ (x : Phase). standing_of x (phase_above parents (phases_told now) row)) public
      ∙ sym (only_public (standing_at now row) (sym (phase_at_told now row within) ∙ public)))
      ∙ set-get_or now row PublicOnPublic)

  pub restood_none : (Asked : ℕ → Type 0) (old : List Standing)
      → ((r : ℕ) → r < length old → ¬ (Asked r)) → AreRestood parents Asked old old
  restood_none Asked old none = record {
    as_long = refl;
    phases = refl;
    each = λ r within. inr (refl, none r within);
  }

  -- others are asked for, of which none is new
  pub restood_fewer : (Asked Others : ℕ → Type 0) (old now : List Standing)
      → ((r : ℕ) → r < length old → Others r → Asked r)
      → AreRestood parents Asked old now → AreRestood parents Others old now
  restood_fewer Asked Others old now fewer are = record {
    as_long = are.as_long;
    phases = are.phases;
    each = λ r within. elim (are.each r within) [
      | inl right ↦ inl right
      | inr same ↦ inr (same.0, λ other. same.1 (fewer r within other))
    ];
  }

  -- one row more
  pub restood_set : (Asked Others : ℕ → Type 0) (old now next : List Standing) (row : ℕ)
      → row < length old → next ≡ set now row (standing_in parents (phases_told now) row)
      → ((r : ℕ) → r < length old → Others r → Asked r ⊎ (r ≡ row))
      → AreRestood parents Asked old now → AreRestood parents Others old next
  restood_set Asked Others old now next row within is which are = record {
    as_long = ap length is ∙ length-set now row _ ∙ are.as_long;
    phases = ap phases_told is ∙ set_same now row ∙ are.phases;
    each = λ r r_in. elim (cases_eq r row) [
      | inl e ↦ inl (ap (standing_at next) e ∙ ap (λ (rows : List Standing). standing_at rows row) is
          ∙ get_or-set_same now row _ PublicOnPublic (omega (arith, within, are.as_long))
          ∙ ap (λ (ps : List Phase). standing_in parents ps row) are.phases
          ∙ ap (standing_in parents (phases_told old)) (sym e))
      | inr other ↦
          let yet : standing_at next r ≡ standing_at now r =
          ap (λ (rows : List Standing). standing_at rows r) is
          ∙ get_or-set_other now row r _ PublicOnPublic other in
          elim (are.each r r_in) [
            | inl right ↦ inl (yet ∙ right)
            | inr same ↦ inr (
              yet ∙ same.0,
              λ asked. elim (which r r_in asked) [
                | inl before ↦ same.1 before
                | inr e ↦ other e
              ],
            )
          ]
    ];
  }

  -- some rows, and then others
  pub restood_on : (Asked More All : ℕ → Type 0) (old now next : List Standing)
      → ((r : ℕ) → r < length old → All r → Asked r ⊎ More r)
      → AreRestood parents Asked old now → AreRestood parents More now next
      → AreRestood parents All old next
  restood_on Asked More All old now next which one two = record {
    as_long = two.as_long ∙ one.as_long;
    phases = two.phases ∙ one.phases;
    each = λ r r_in. elim (two.each r (omega (arith, r_in, one.as_long))) [
      | inl right ↦ inl (right ∙ ap (λ (ps : List Phase). standing_in parents ps r) one.phases)
      | inr yet ↦ elim (one.each r r_in) [
        | inl right ↦ inl (yet.0 ∙ right)
        | inr same ↦ inr (
          yet.0 ∙ same.0,
          λ asked. elim (which r r_in asked) [
            | inl first ↦ same.1 first
            | inr second ↦ yet.1 second
          ],
        )
      ]
    ];
  }

  -- ---- the children of a row, from the last one back

  -- the child is after the one that is to come
  abbrev pub IsBehind : Option ℕ → ℕ → Type 0
  IsBehind None r = ⊤
  IsBehind (Some c) r = c < r

  abbrev pub IsLater : ℕ → Option ℕ → ℕ → Type 0
  IsLater row next r = IsParentIn parents row r × IsBehind next r

  -- the one that is to come is a child
  abbrev pub IsNext : ℕ → ℕ → Option ℕ → Type 0
  IsNext row n None = ⊤
  IsNext row n (Some c) = (c < n) × IsParentIn parents row c

  pub next_is : (row n : ℕ) (o : Option ℕ) → o ≡ child_before parents row n → IsNext row n o
  next_is row n None is = tt
  next_is row n (Some c) is = let some = before_some parents row n c (sym is) in (some.0, some.1)

  pub next_within : (row m n : ℕ) (o : Option ℕ) → m ≤ n → IsNext row m o → IsNext row n o
  next_within row m n None low is = tt
  next_within row m n (Some c) low is = (let less = is.0 in omega (arith, low, less), is.1)

  -- no child of those before a bound is after the last of them
  pub none_behind : (row n : ℕ) (o : Option ℕ) → o ≡ child_before parents row n → (r : ℕ) → r < n
      → ¬ (IsLater row o r)
  none_behind row n None is r low later = before_nobody parents row n (sym is) r low later.0
  none_behind row n (Some c) is r low later =
      (before_some parents row n c (sym is)).2 r later.1 low later.0

  -- so those after the next one are the child itself, and those after it
  pub behind_next : (row c : ℕ) (o : Option ℕ) → o ≡ child_before parents row c → (r : ℕ)
      → IsLater row o r → IsLater row (Some c) r ⊎ (r ≡ c)
  behind_next row c o is r later = elim (cases_order r c) [
    | inl e ↦ inr e
    | inr (inl less) ↦ absurd (none_behind row c o is r less later)
    | inr (inr more) ↦ inl (later.0, more)
  ]

  abbrev pub steps : Option ℕ → ℕ
  steps None = 0
  steps (Some c) = suc c

  pub fewer_steps : (row c : ℕ) (o : Option ℕ) → o ≡ child_before parents row c → steps o < suc c
  fewer_steps row c None is = omega arith
  fewer_steps row c (Some b) is = let less = (before_some parents row c b (sym is)).0 in omega (arith, less)

  -- ---- all rows

  -- one listed row and its children more
  pub touched_more : (target : Phase) (phases : List Phase) (listed : List ℕ) (n r : ℕ)
      → IsTouched parents target phases listed (n + 1) r
      → (IsTouched parents target phases listed n r ⊎ (r ≡ get_or listed n 0))
      ⊎ IsHigherChild parents target phases (get_or listed n 0) r
  touched_more target phases listed n r touched = elim (cases_eq touched.place n) [
    | inl e ↦ elim touched.is [
      | inl same ↦ inl (inr (sym (ap (λ (k : ℕ). get_or listed k 0) (sym e) ∙ same)))
      | inr child ↦ inr (subst (λ (k : ℕ). IsHigherChild parents target phases (get_or listed k 0) r) e child)
    ]
    | inr other ↦ inl (inl (record {
      place = touched.place;
      within = omega (arith, touched.within, other);
      is = touched.is;
    }))
  ]

  pub none_touched : (target : Phase) (phases : List Phase) (listed : List ℕ) (r : ℕ)
      → ¬ (IsTouched parents target phases listed 0 r)
  none_touched target phases listed r touched = absurd (omega (arith, touched.within))

  -- rows that stand as their phases make it stand so again, once those that are lowered are looked at with
  -- those of their children that are above the target
  pub stands_again : AreOrdered parents → (target : Phase) (old now next : List Standing) (listed : List ℕ)
      → AreLawful parents (phases_told old) → AreStanding parents old → length now ≡ length old
      → ((k : ℕ) → k < length listed → IsHigher target (phases_told old) (get_or listed k 0))
      → ((r : ℕ) → r < length old → (standing_at now r ≡ standing_at old r) ⊎ IsListed listed r)
      → AreRestood parents (λ r. IsTouched parents target (phases_told now) listed (length listed) r) now next
      → AreStanding parents next
  stands_again early target old now next listed lawful standing as_long above each are r r_in =
      elim (are.each r (omega (arith, r_in, are.as_long))) [
        | inl right ↦ right ∙ ap (λ (ps : List Phase). standing_in parents ps r) (sym are.phases)
        | inr same ↦
            same.0 ∙ unlisted same.1
            ∙ standing r in_old
            ∙ ap (λ (ps : List Phase). standing_in parents ps r) refl
            ∙ alike same.1
            ∙ ap (λ (ps : List Phase). standing_in parents ps r) (sym are.phases)
      ]
    where
      in_old : r < length old
      in_old = omega (arith, r_in, are.as_long, as_long)

      Apart : Type 0
      Apart = ¬ (IsTouched parents target (phases_told now) listed (length listed) r)

      unlisted : Apart → standing_at now r ≡ standing_at old r
      unlisted apart = elim (each r in_old) [
        | inl yet ↦ yet
        | inr at ↦ absurd (apart (record { place = at.0; within = at.1; is = inl at.2 }))
      ]

      phase_alike : (q : ℕ) → q < length old → standing_at now q ≡ standing_at old q
          → phase_at (phases_told old) q ≡ phase_at (phases_told now) q
      phase_alike q q_in yet = phase_at_told old q q_in ∙ ap phase_told (sym yet)
          ∙ sym (phase_at_told now q (omega (arith, q_in, as_long)))

      -- a child of a row that was lowered is above the target yet, where it was not lowered itself
      child_higher : Apart → (p : ℕ) → IsParentIn parents p r → IsListed listed p
          → IsHigher target (phases_told now) r
      child_higher apart p is at =
          let over : IsHigher target (phases_told old) p =
          subst (λ (q : ℕ). IsHigher target (phases_told old) q) at.2 (above at.0 at.1) in
          omega (
            arith,
            over,
            parent_below parents (phases_told old) p r is,
            lawful r (omega (arith, in_old, length-map old phase_told)),
            ap number_of (phase_alike r in_old (unlisted apart)),
          )

      of_alike : Apart → (o : Option ℕ)
          → ((p : ℕ) → o ≡ Some p → IsParentIn parents p r)
          → phase_of (phases_told old) o ≡ phase_of (phases_told now) o
      of_alike apart None is = refl
      of_alike apart (Some p) is =
          let less : p < r = early p r (is p refl) in
          elim (each p (omega (arith, less, in_old))) [
            | inl yet ↦ phase_alike p (omega (arith, less, in_old)) yet
            | inr at ↦ absurd (apart (record {
              place = at.0;
              within = at.1;
              is = inr (
                subst (λ (k : ℕ). IsParentIn parents k r) (sym at.2) (is p refl),
                child_higher apart p (is p refl) at,
              );
            }))
          ]

      alike : Apart → standing_in parents (phases_told old) r ≡ standing_in parents (phases_told now) r
      alike apart =
          ap (λ (x : Phase). standing_of x (phase_above parents (phases_told old) r))
          (phase_alike r in_old (unlisted apart))
          ∙ ap (λ (x : Phase). standing_of (phase_at (phases_told now) r)
          (greater x (phase_of (phases_told old) (parents r).1)))
          (of_alike apart (parents r).0 (λ p e. inl e))
          ∙ ap (λ (y : Phase). standing_of (phase_at (phases_told now) r)
          (greater (phase_of (phases_told now) (parents r).0) y))
          (of_alike apart (parents r).1 (λ p e. inr e))
