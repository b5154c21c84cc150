-- How many rows are in each phase, with one row more, one less, and one in the place of another.
use Rattle.std.proofs.Common.{◌≡◌, ℕ, ◌+◌, ◌<◌, ◌≤◌, true, false, cond, List, [], ◌∷◌, ◌++◌, length, set}
use Rattle.std.proofs.Common.{get_or, refl, sym, ap, ◌∙◌, arith}
use Rattle.std.proofs.lemmas.List.{map_push, map-set, length-map, get_or-map}
use Rattle.std.proofs.lemmas.List.Sums.{sum_by-set, sum_by_push, count_by-le-length}
use Rattle.hg_types.specs.declared.phase.Phase.{Phase}
use Rattle.hg_types.specs.declared.phase.Phase.TheVariants.{Public, Draft, Secret}
use Rattle.hg_phases.specs.declared.counts.PhaseCounts.{PhaseCounts}
use Rattle.hg_phases.specs.declared.standing.Standing.{Standing}
use Rattle.hg_phases.specs.declared.standing.Standing.TheVariants.{PublicOnPublic, DraftOnDraft}
use Rattle.hg_phases.specs.Counts.{is_phase, count_of, counts_of}
use Rattle.hg_phases.specs.Standing.{phase_told, phases_told}
use Rattle.hg_phases.specs.code.Counts.{one_more, one_less, count_in}

-- 1 where it is that phase
abbrev once : Phase → Phase → ℕ
once phase other = cond (is_phase phase other) 1 0

count_push : (phase : Phase) (rows : List Standing) (row : Standing)
    → count_of phase (phases_told (rows ++ row ∷ []))
    ≡ count_of phase (phases_told rows) + once phase (phase_told row)
count_push phase rows row = ap (count_of phase) (map_push phase_told rows row)
    ∙ sum_by_push (once phase) (phases_told rows) (phase_told row)

count_set : (phase : Phase) (rows : List Standing) (i : ℕ) (row was : Standing) → i < length rows
    → was ≡ get_or rows i PublicOnPublic
    → count_of phase (phases_told (set rows i row)) + once phase (phase_told was)
    ≡ count_of phase (phases_told rows) + once phase (phase_told row)
count_set phase rows i row was low is =
    let at : phase_told was ≡ get_or (phases_told rows) i Public = ap phase_told is
    ∙ sym (get_or-map phase_told rows i PublicOnPublic Public low) in
    ap (λ (n : ℕ). n + once phase (phase_told was)) (ap (count_of phase) (map-set phase_told rows i row))
    ∙ ap (λ (q : Phase). count_of phase (set (phases_told rows) i (phase_told row)) + once phase q) at
    ∙ sum_by-set (once phase) (phases_told rows) i (phase_told row) Public
    (omega (arith, low, length-map rows phase_told))

-- counts by phase are the same where each of the three is
abbrev as_counts : ℕ → ℕ → ℕ → PhaseCounts
as_counts public draft secret = record { public = public; draft = draft; secret = secret }

same_counts : (a b c d e f : ℕ) → a ≡ d → b ≡ e → c ≡ f → as_counts a b c ≡ as_counts d e f
same_counts a b c d e f p q r =
    ap (λ (n : ℕ). as_counts n b c) p ∙ ap (λ (n : ℕ). as_counts d n c) q ∙ ap (as_counts d e) r

-- one row more
more_in : (phase other : Phase) (rows : List Standing) (row : Standing) → phase_told row ≡ other
    → count_of phase (phases_told (rows ++ row ∷ [])) ≡ count_of phase (phases_told rows) + once phase other
more_in phase other rows row is = count_push phase rows row
    ∙ ap (λ (q : Phase). count_of phase (phases_told rows) + once phase q) is

pushed : (phase : Phase) (rows : List Standing) (row : Standing) → phase_told row ≡ phase
    → counts_of (phases_told (rows ++ row ∷ [])) ≡ one_more phase (counts_of (phases_told rows))
unfolding counts_of
pushed Public rows row is = same_counts _ _ _ _ _ _ (more_in Public Public rows row is)
    (omega (arith, more_in Draft Public rows row is)) (omega (arith, more_in Secret Public rows row is))
pushed Draft rows row is = same_counts _ _ _ _ _ _ (omega (arith, more_in Public Draft rows row is))
    (more_in Draft Draft rows row is) (omega (arith, more_in Secret Draft rows row is))
pushed Secret rows row is = same_counts _ _ _ _ _ _ (omega (arith, more_in Public Secret rows row is))
    (omega (arith, more_in Draft Secret rows row is)) (more_in Secret Secret rows row is)

pub counts_push : (rows : List Standing) (row : Standing)
    → counts_of (phases_told (rows ++ row ∷ [])) ≡ one_more (phase_told row) (counts_of (phases_told rows))
counts_push rows row = pushed (phase_told row) rows row refl

-- one more and one less of a phase
less_more : (phase : Phase) (counts : PhaseCounts) → one_less phase (one_more phase counts) ≡ counts
less_more Public counts = same_counts _ _ _ _ _ _ (omega arith) refl refl
less_more Draft counts = same_counts _ _ _ _ _ _ refl (omega arith) refl
less_more Secret counts = same_counts _ _ _ _ _ _ refl refl (omega arith)

more_some : (phase : Phase) (counts : PhaseCounts) → count_in phase (one_more phase counts) ≡ count_in phase counts + 1
more_some Public counts = refl
more_some Draft counts = refl
more_some Secret counts = refl

-- the last row is taken away
pub counts_pop : (rows rest : List Standing) (row : Standing) → rows ≡ rest ++ row ∷ []
    → counts_of (phases_told rest) ≡ one_less (phase_told row) (counts_of (phases_told rows))
counts_pop rows rest row is =
    sym (ap (λ (xs : List Standing). one_less (phase_told row) (counts_of (phases_told xs))) is
    ∙ ap (one_less (phase_told row)) (counts_push rest row)
    ∙ less_more (phase_told row) (counts_of (phases_told rest)))

pub some_last : (rows rest : List Standing) (row : Standing) → rows ≡ rest ++ row ∷ []
    → 0 < count_in (phase_told row) (counts_of (phases_told rows))
some_last rows rest row is =
    let more = ap (λ (xs : List Standing). count_in (phase_told row) (counts_of (phases_told xs))) is
    ∙ ap (count_in (phase_told row)) (counts_push rest row)
    ∙ more_some (phase_told row) (counts_of (phases_told rest)) in
    omega (arith, more)

-- a phase that some row has counts one at least, and none counts more than there are rows
counted : (phase : Phase) (rows : List Standing) → count_in phase (counts_of (phases_told rows))
    ≡ count_of phase (phases_told rows)
unfolding counts_of
counted Public rows = refl
counted Draft rows = refl
counted Secret rows = refl

-- a row of another phase than that
abbrev elsewhere : Phase → Standing
elsewhere Public = DraftOnDraft
elsewhere Draft = PublicOnPublic
elsewhere Secret = PublicOnPublic

not_here : (phase : Phase) → is_phase phase (phase_told (elsewhere phase)) ≡ false
not_here Public = refl
not_here Draft = refl
not_here Secret = refl

here : (phase : Phase) → is_phase phase phase ≡ true
here Public = refl
here Draft = refl
here Secret = refl

pub some_in : (rows : List Standing) (i : ℕ) (was : Standing) → i < length rows
    → was ≡ get_or rows i PublicOnPublic → 0 < count_in (phase_told was) (counts_of (phases_told rows))
some_in rows i was low is =
    let phase = phase_told was in
    let changed = count_set phase rows i (elsewhere phase) was low is in
    let less = rw (here phase, not_here phase) at changed in
    omega (arith, counted phase rows, less)

pub few_in : (phase : Phase) (rows : List Standing) → count_in phase (counts_of (phases_told rows)) ≤ length rows
few_in phase rows = omega (
  arith,
  counted phase rows,
  count_by-le-length (is_phase phase) (phases_told rows),
  length-map rows phase_told,
)

-- counts once a row of one phase is of another
moved : (one other : Phase) (was now : PhaseCounts)
    → now.public + once Public one ≡ was.public + once Public other
    → now.draft + once Draft one ≡ was.draft + once Draft other
    → now.secret + once Secret one ≡ was.secret + once Secret other
    → 0 < count_in one was → now ≡ one_more other (one_less one was)
moved Public Public was now public draft secret some = same_counts _ _ _ _ _ _ (omega (arith, public, some))
    (omega (arith, draft, some)) (omega (arith, secret, some))
moved Public Draft was now public draft secret some = same_counts _ _ _ _ _ _ (omega (arith, public, some))
    (omega (arith, draft, some)) (omega (arith, secret, some))
moved Public Secret was now public draft secret some = same_counts _ _ _ _ _ _ (omega (arith, public, some))
    (omega (arith, draft, some)) (omega (arith, secret, some))
moved Draft Public was now public draft secret some = same_counts _ _ _ _ _ _ (omega (arith, public, some))
    (omega (arith, draft, some)) (omega (arith, secret, some))
moved Draft Draft was now public draft secret some = same_counts _ _ _ _ _ _ (omega (arith, public, some))
    (omega (arith, draft, some)) (omega (arith, secret, some))
moved Draft Secret was now public draft secret some = same_counts _ _ _ _ _ _ (omega (arith, public, some))
    (omega (arith, draft, some)) (omega (arith, secret, some))
moved Secret Public was now public draft secret some = same_counts _ _ _ _ _ _ (omega (arith, public, some))
    (omega (arith, draft, some)) (omega (arith, secret, some))
moved Secret Draft was now public draft secret some = same_counts _ _ _ _ _ _ (omega (arith, public, some))
    (omega (arith, draft, some)) (omega (arith, secret, some))
moved Secret Secret was now public draft secret some = same_counts _ _ _ _ _ _ (omega (arith, public, some))
    (omega (arith, draft, some)) (omega (arith, secret, some))

pub counts_set : (rows : List Standing) (i : ℕ) (row was : Standing) → i < length rows
    → was ≡ get_or rows i PublicOnPublic → counts_of (phases_told (set rows i row))
    ≡ one_more (phase_told row) (one_less (phase_told was) (counts_of (phases_told rows)))
unfolding counts_of
counts_set rows i row was low is =
    let change = λ (phase : Phase). count_set phase rows i row was low is in
    moved (phase_told was) (phase_told row) (counts_of (phases_told rows))
    (counts_of (phases_told (set rows i row))) (change Public) (change Draft) (change Secret)
    (some_in rows i was low is)

-- no more are in a phase once one is taken away
pub few_less : (phase other : Phase) (counts : PhaseCounts) → count_in phase (one_less other counts)
    ≤ count_in phase counts
few_less Public Public counts = omega arith
few_less Public Draft counts = omega arith
few_less Public Secret counts = omega arith
few_less Draft Public counts = omega arith
few_less Draft Draft counts = omega arith
few_less Draft Secret counts = omega arith
few_less Secret Public counts = omega arith
few_less Secret Draft counts = omega arith
few_less Secret Secret counts = omega arith
