-- Changesets that are public stay public, and a view goes on.
use Rattle.std.proofs.Common.{◌≡◌, ℕ, ◌<◌, ◌≤◌, Bool, true, false, cond, List, ◌∷◌, [], ◌++◌, length, Option}
use Rattle.std.proofs.Common.{refl, sym, ap}
use Rattle.std.proofs.Common.{◌∙◌, subst, arith, min, take}
use Rattle.std.specs.Prelude.{Contains, nat_lt}
use Rattle.std.proofs.lemmas.Bool.{and_from, lt-ltb}
use Rattle.std.proofs.lemmas.List.{append_assoc, get_or_append_left, length-take, length_push, take_at, take_min}
use Rattle.std.proofs.lemmas.List.FromFn.{length-map-range_with_len, get_or-map-range_with_len}
use mathlib.Core.List.{IsPrefix}
use Rattle.hg_types.specs.declared.phase.Phase.{Phase}
use Rattle.hg_types.specs.declared.phase.Phase.TheVariants.{Public, Draft, Secret}
use Rattle.hg_phases.specs.Order.{greater, lesser, phase_above, phase_at}
use Rattle.hg_phases.specs.Phases.{advanced, advanced_at, is_reached, registered}
use Rattle.hg_log.specs.Changeset.{Changeset}
use Rattle.hg_obs.specs.declared.marker.Marker.{Marker}
use Rattle.hg_wireproto.specs.Hidden.{is_public}
use Rattle.hg_wireproto.specs.Viewed.{is_shown, shown_of, AreSeen, IsBefore, IsFrontOf, Since, StayPublic, Viewed}
use Rattle.hg_wireproto.proofs.Mapping.{has_filter}

pub stay_same : (phases : List Phase) → StayPublic phases phases
stay_same phases = record { as_many = omega arith; each = λ r low is. is }

pub stay_on : (old middle new : List Phase) → StayPublic old middle → StayPublic middle new → StayPublic old new
stay_on old middle new first rest = record {
  as_many = omega (arith, first.as_many, rest.as_many);
  each = λ r low is. rest.each r (omega (arith, low, first.as_many)) (first.each r low is);
}

-- one more has a phase
pub stay_registered : (parents : ℕ → Option ℕ × Option ℕ) (target : Phase) (phases : List Phase)
    → StayPublic phases (registered parents target phases)
unfolding registered
stay_registered parents target phases =
    let last = greater target (phase_above parents phases (length phases)) in
    record {
      as_many = omega (arith, length_push phases last);
      each = λ r low is. ap is_public (get_or_append_left phases (last ∷ []) Public r low) ∙ is;
    }

public_lesser : (target phase : Phase) → is_public phase ≡ true → is_public (lesser target phase) ≡ true
public_lesser Public Public is = refl
public_lesser Draft Public is = refl
public_lesser Secret Public is = refl
public_lesser target Draft is = absurd (let e = is in cc)
public_lesser target Secret is = absurd (let e = is in cc)

public_either : (test : Bool) (target phase : Phase) → is_public phase ≡ true
    → is_public (cond test (lesser target phase) phase) ≡ true
public_either true target phase is = public_lesser target phase is
public_either false target phase is = is

-- some are advanced
pub stay_advanced : (parents : ℕ → Option ℕ × Option ℕ) (target : Phase) (heads : List ℕ) (phases : List Phase)
    → StayPublic phases (advanced parents target heads phases)
unfolding advanced
stay_advanced parents target heads phases =
    let at = advanced_at parents target heads phases in
    record {
      as_many = omega (arith, length-map-range_with_len at 0 (length phases));
      each = λ r low is. ap is_public (get_or-map-range_with_len at 0 (length phases) r r Public low (omega arith))
          ∙ public_either (is_reached parents heads r) target (phase_at phases r) is;
    }

-- ---- a view goes on

prefix_taken : {X : Type 0} (xs ys : List X) → IsPrefix xs ys → xs ≡ take (min (length xs) (length ys)) ys
prefix_taken xs ys p =
    sym (take_min (length xs) ys ∙ ap (take (length xs)) (sym p.1) ∙ take_at xs p.0 (length xs) refl)

prefix_long : {X : Type 0} (xs ys : List X) → IsPrefix xs ys → min (length xs) (length ys) ≡ length xs
prefix_long xs ys p =
    sym (length-take (length xs) ys)
    ∙ ap length (ap (take (length xs)) (sym p.1) ∙ take_at xs p.0 (length xs) refl)

-- one of the first that is public is listed
shown_listed : (first : ℕ) (phases : List Phase) (seen : List ℕ) (r : ℕ) → r < first
    → is_public (phase_at phases r) ≡ true → Contains seen r → Contains (shown_of first phases seen) r
shown_listed first phases seen r low is has =
    has_filter (is_shown first phases) seen r has (and_from (nat_lt r first) _ (lt-ltb r first low) is)

-- what came to so many goes on from a view of them
pub goes_on : {A : Type 0} (view : Viewed A) (came : Since A) (first known : ℕ) (seen : List ℕ)
    (rows : List Changeset) (markers : List (Marker A)) (phases : List Phase) → first ≡ length view.rows
    → known ≡ length view.markers → AreSeen view seen → length view.rows ≤ length view.phases
    → IsFrontOf view rows markers phases → came ≡ record {
      first = min first (length rows);
      known = min known (length markers);
      public = shown_of (min first (length rows)) phases seen;
      rows = rows;
      markers = markers;
      phases = phases;
    } → IsBefore view came
goes_on {A} view came first known seen rows markers phases first_is known_is seen_is count front is =
    let all : min first (length rows) ≡ length view.rows =
    ap (λ n. min n (length rows)) first_is ∙ prefix_long view.rows rows front.rows in
    subst (λ (s : Since A). IsBefore view s) (sym is) (record {
      rows = prefix_taken view.rows rows front.rows
          ∙ ap (λ (n : ℕ). take (min n (length rows)) rows) (sym first_is);
      markers = prefix_taken view.markers markers front.markers
          ∙ ap (λ (n : ℕ). take (min n (length markers)) markers) (sym known_is);
      stay = λ r low public. front.stay.each r (omega (arith, low, all, count)) public;
      listed = λ r low obsolete public.
          shown_listed _ phases seen r low public (seen_is r (omega (arith, low, all)) obsolete);
    })

-- a view of nothing is of the first of any
pub nothing_front : {A : Type 0} (view : Viewed A) (rows : List Changeset) (markers : List (Marker A))
    (phases : List Phase) → view ≡ record { rows = []; markers = []; phases = [] }
    → IsFrontOf view rows markers phases
nothing_front {A} view rows markers phases none =
    subst (λ (v : Viewed A). IsFrontOf v rows markers phases) (sym none) (record {
      rows = (rows, refl);
      markers = (markers, refl);
      stay = record { as_many = omega arith; each = λ r low public. absurd (omega (arith, low)) };
    })

pub prefix_on : {X : Type 0} (xs ys zs : List X) → IsPrefix xs ys → IsPrefix ys zs → IsPrefix xs zs
prefix_on xs ys zs p q = (p.0 ++ q.0, sym (append_assoc xs p.0 q.0) ∙ (ap (λ l. l ++ q.0) p.1 ∙ q.1))

-- what is of the first of some is of the first of more
pub front_on : {A : Type 0} (view : Viewed A) (rows more : List Changeset) (markers added : List (Marker A))
    (phases later : List Phase) → IsFrontOf view rows markers phases → IsPrefix rows more → IsPrefix markers added
    → StayPublic phases later → IsFrontOf view more added later
front_on view rows more markers added phases later front rows_on markers_on stay = record {
  rows = prefix_on view.rows rows more front.rows rows_on;
  markers = prefix_on view.markers markers added front.markers markers_on;
  stay = stay_on view.phases phases later front.stay stay;
}
