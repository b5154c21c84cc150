-- How often rows are parents, as rows come and go.
use Rattle.std.proofs.Common.{◌≡◌, ◌≢◌, ◌↔◌, ℕ, zero, suc, ◌+◌, ◌-◌, ◌*◌, ◌<◌, ◌≤◌, ◌^◌, eqb, List, [], ◌∷◌}
use Rattle.std.proofs.Common.{◌++◌, length, take, set, slice_get, slice_index, Option, Some, None, IfSome}
use Rattle.std.proofs.Common.{refl, sym, ap, ◌∙◌, subst, inl, inr, ⊎_elim, arith}
use Rattle.std.proofs.lemmas.List.{length-set, length-take-le, get_or-set_same, get_or-set_other, get_or-take}
use Rattle.std.proofs.lemmas.List.{get_or_append_left, get_or_push, length_push}
use Rattle.std.proofs.lemmas.List.Sums.{sum_by-cons, sum_by_push}
use Rattle.std.proofs.lemmas.Bool.{cases_eq, eq-eqb, ne_eqb, cases_Bool}
use Rattle.std.proofs.lemmas.Option.{slice_get_within}
use Rattle.hg_log.specs.declared.graph.Parents.{Parents}
use Rattle.hg_log.specs.code.Graph.{HasParent, AreEarlier, AllAreEarlier, AreCounted, is_named, times_named}
use Rattle.hg_log.specs.code.ChildCounts.{one_more, one_less}
use Rattle.hg_log.proofs.Lists.{slice_get_front, slice_get_last, slice_get_pushed}

children : ℕ → Parents → ℕ
children row parents = is_named row parents.p1 + is_named row parents.p2

named_once : (row : ℕ) (o : Option ℕ) → is_named row o ≤ 1
named_once row None = omega arith
named_once row (Some p) = ⊎_elim (λ e. rw e (omega arith)) (λ e. rw e (omega arith)) (cases_Bool (eqb p row))

named_here : (row : ℕ) → is_named row (Some row) ≡ 1
named_here row = rw (eq-eqb row row refl)

named_there : (row p : ℕ) → p ≢ row → is_named row (Some p) ≡ 0
named_there row p ne = rw (ne_eqb p row ne)

named_is : (row : ℕ) (o : Option ℕ) → o ≡ Some row → is_named row o ≡ 1
named_is row o e = ap (is_named row) e ∙ named_here row

named_not : (row : ℕ) (o : Option ℕ) → o ≢ Some row → is_named row o ≡ 0
named_not row None ne = refl
named_not row (Some p) ne = named_there row p (λ e. ne (ap (λ (x : ℕ). Some x) e))

named_high : (bound row : ℕ) (o : Option ℕ) → IfSome o (λ p. p < bound) → bound ≤ row → is_named row o ≡ 0
named_high bound row None low high = refl
named_high bound row (Some p) low high = named_there row p (λ e. absurd (omega arith))

pub times_pushed : (row : ℕ) (graph : List Parents) (parents : Parents)
    → times_named row (graph ++ parents
    ∷ []) ≡ times_named row graph + (is_named row parents.p1 + is_named row parents.p2)
times_pushed row graph parents =
    sum_by_push (λ (ps : Parents). is_named row ps.p1 + is_named row ps.p2) graph parents

times_cons : (row : ℕ) (parents : Parents) (graph : List Parents)
    → times_named row (parents ∷ graph) ≡ (is_named row parents.p1 + is_named row parents.p2) + times_named
    row graph
times_cons row parents graph =
    sum_by-cons (λ (ps : Parents). is_named row ps.p1 + is_named row ps.p2) parents graph

pub times_few : (row : ℕ) (graph : List Parents) → times_named row graph ≤ 2 * length graph
times_few row [] = omega arith
times_few row (ps ∷ graph) =
    omega (arith, times_cons row ps graph, times_few row graph, named_once row ps.p1, named_once row ps.p2)

-- no row is the parent of one that stands before it
times_high : (bound row : ℕ) (graph : List Parents)
    → ((r : ℕ) (ps : Parents) → slice_get graph r ≡ Some ps → AreEarlier bound ps) → bound ≤ row
    → times_named row graph ≡ 0
times_high bound row [] low high = refl
times_high bound row (ps ∷ graph) low high =
    let here = low zero ps refl in
    omega (
      arith,
      times_cons row ps graph,
      times_high bound row graph (λ r qs at. low (suc r) qs at) high,
      named_high bound row ps.p1 here.0 high,
      named_high bound row ps.p2 here.1 high,
    )

pub below : (r bound : ℕ) (o : Option ℕ) → IfSome o (λ p. p < r) → r ≤ bound → IfSome o (λ p. p < bound)
below r bound None low le = low
below r bound (Some p) low le = omega arith

earlier_below : (graph : List Parents) → AllAreEarlier graph → (r : ℕ) (ps : Parents)
    → slice_get graph r ≡ Some ps → AreEarlier (length graph) ps
earlier_below graph earlier r ps at =
    let within = slice_get_within graph r ps at in
    let e = earlier r ps at in
    (below r (length graph) ps.p1 e.0 (omega arith), below r (length graph) ps.p2 e.1 (omega arith))

pub times_new : (graph : List Parents) (row : ℕ) → AllAreEarlier graph → length graph ≤ row
    → times_named row graph ≡ 0
times_new graph row earlier high = times_high (length graph) row graph (earlier_below graph earlier) high

pub length-one_more : (o : Option ℕ) (counts : List ℕ) → length (one_more o counts) ≡ length counts
length-one_more None counts = refl
length-one_more (Some p) counts = length-set counts p _

pub more_at : (o : Option ℕ) (counts : List ℕ) (row : ℕ) → IfSome o (λ p. p < length counts)
    → slice_index (one_more o counts) row ≡ slice_index counts row + is_named row o
more_at None counts row low = omega arith
more_at (Some p) counts row low = ⊎_elim
    (λ e. omega (
      arith,
      named_is row (Some p) (ap (λ (x : ℕ). Some x) (sym e)),
      ap (slice_index (set counts p (slice_index counts p + 1))) e,
      get_or-set_same counts p (slice_index counts p + 1) 0 low,
      ap (slice_index counts) e,
    ))
    (λ ne. let other : is_named row (Some p) ≡ 0 = named_there row p (λ e. ne (sym e)) in
    omega (arith, other, get_or-set_other counts p row (slice_index counts p + 1) 0 ne))
    (cases_eq row p)

-- the counts after one more row
pub counted_pushed : (graph : List Parents) (counts : List ℕ) (parents : Parents) → AreCounted graph counts
    → length graph + 1 < 2 ^ 31 → AreEarlier (length graph) parents
    → AreCounted (graph ++ parents ∷ []) (one_more parents.p2 (one_more parents.p1 (counts ++ 0 ∷ [])))
counted_pushed graph counts parents counted few early = record {
  as_long = length-one_more parents.p2 _ ∙ length-one_more parents.p1 _ ∙ len
      ∙ sym (length_push graph parents);
  earlier = earlier;
  few = omega (arith, length_push graph parents, few);
  counted = λ row row_in. each row (omega (arith, length_push graph parents, row_in));
}
  where
    len : length (counts ++ 0 ∷ []) ≡ length graph + 1
    len = length_push counts 0 ∙ ap (λ n. n + 1) counted.as_long

    earlier : AllAreEarlier (graph ++ parents ∷ [])
    earlier r ps at = elim (slice_get_pushed graph parents ps r at) [
      | inl old ↦ counted.earlier r ps old
      | inr new ↦ subst (λ qs. AreEarlier r qs) new.1 (subst (λ n. AreEarlier n parents) (sym new.0) early)
    ]

    first : IfSome parents.p1 (λ p. p < length (counts ++ 0 ∷ []))
    first = below (length graph) (length (counts ++ 0 ∷ [])) parents.p1 early.0 (omega (arith, len))

    second : IfSome parents.p2 (λ p. p < length (one_more parents.p1 (counts ++ 0 ∷ [])))
    second = below (length graph) (length (one_more parents.p1 (counts ++ 0 ∷ []))) parents.p2 early.1
        (omega (arith, len, length-one_more parents.p1 (counts ++ 0 ∷ [])))

    old : (row : ℕ) → row < length graph + 1 → slice_index (counts ++ 0 ∷ []) row ≡ times_named row graph
    old row row_in = elim (cases_eq row (length graph)) [
      | inl e ↦ get_or_push counts 0 0 row (counted.as_long ∙ sym e)
          ∙ sym (times_new graph row counted.earlier (omega arith))
      | inr ne ↦ get_or_append_left counts (0 ∷ []) 0 row (omega (arith, counted.as_long, ne))
          ∙ counted.counted row (omega (arith, ne))
    ]

    each : (row : ℕ) → row < length graph + 1
        → slice_index (one_more parents.p2 (one_more parents.p1 (counts ++ 0 ∷ []))) row ≡ times_named row
        (graph ++ parents ∷ [])
    each row row_in = omega (
      arith,
      more_at parents.p2 (one_more parents.p1 (counts ++ 0 ∷ [])) row second,
      more_at parents.p1 (counts ++ 0 ∷ []) row first,
      old row row_in,
      times_pushed row graph parents,
    )

-- what the two calls for a new row's parents ask
few_at : (graph : List Parents) (counts : List ℕ) (row : ℕ) → AreCounted graph counts
    → length graph + 1 < 2 ^ 31 → row < length graph → slice_index (counts ++ 0 ∷ []) row ≤ 2 * length graph
few_at graph counts row counted few row_in =
    omega (
      arith,
      get_or_append_left counts (0 ∷ []) 0 row (omega (arith, counted.as_long)),
      counted.counted row row_in,
      times_few row graph,
    )

pub few_first : (graph : List Parents) (counts : List ℕ) (o : Option ℕ) → AreCounted graph counts
    → length graph + 1 < 2 ^ 31 → IfSome o (λ p. p < length graph)
    → IfSome o (λ p. slice_index (counts ++ 0 ∷ []) p + 1 < 2 ^ 32)
few_first graph counts None counted few low = low
few_first graph counts (Some p) counted few low = omega (arith, few_at graph counts p counted few low)

pub few_second : (graph : List Parents) (counts : List ℕ) (o q : Option ℕ) → AreCounted graph counts
    → length graph + 1 < 2 ^ 31 → IfSome o (λ p. p < length graph) → IfSome q (λ p. p < length graph)
    → IfSome q (λ p. slice_index (one_more o (counts ++ 0 ∷ [])) p + 1 < 2 ^ 32)
few_second graph counts o None counted few low high = high
few_second graph counts o (Some p) counted few low high =
    omega (
      arith,
      more_at o (counts ++ 0 ∷ []) p
          (below (length graph) (length (counts ++ 0 ∷ [])) o low
          (omega (arith, length_push counts 0, counted.as_long))),
      named_once p o,
      few_at graph counts p counted few high,
    )

pub length-one_less : (o : Option ℕ) (counts : List ℕ) → length (one_less o counts) ≡ length counts
length-one_less None counts = refl
length-one_less (Some p) counts = length-set counts p _

pub less_at : (o : Option ℕ) (counts : List ℕ) (row : ℕ) → IfSome o (λ p. p < length counts)
    → slice_index (one_less o counts) row ≡ slice_index counts row - is_named row o
less_at None counts row low = omega arith
less_at (Some p) counts row low = ⊎_elim
    (λ e. omega (
      arith,
      named_is row (Some p) (ap (λ (x : ℕ). Some x) (sym e)),
      ap (slice_index (set counts p (slice_index counts p - 1))) e,
      get_or-set_same counts p (slice_index counts p - 1) 0 low,
      ap (slice_index counts) e,
    ))
    (λ ne. let other : is_named row (Some p) ≡ 0 = named_there row p (λ e. ne (sym e)) in
    omega (arith, other, get_or-set_other counts p row (slice_index counts p - 1) 0 ne))
    (cases_eq row p)

module _ (graph : List Parents) (counts : List ℕ) (parents : Parents)
    (counted : AreCounted (graph ++ parents ∷ []) counts) where
  both : length (graph ++ parents ∷ []) ≡ length graph + 1
  both = length_push graph parents

  pub popped_early : AreEarlier (length graph) parents
  popped_early = counted.earlier (length graph) parents (slice_get_last graph parents)

  popped_earlier : AllAreEarlier graph
  popped_earlier r ps at =
      counted.earlier r ps (slice_get_front graph (parents ∷ []) r (slice_get_within graph r ps at) ∙ at)

  pub last_childless : slice_index counts (length graph) ≡ 0
  last_childless =
      let early = popped_early in
      omega (
        arith,
        counted.counted (length graph) (omega (arith, both)),
        times_pushed (length graph) graph parents,
        times_new graph (length graph) popped_earlier (omega arith),
        named_high (length graph) (length graph) parents.p1 early.0 (omega arith),
        named_high (length graph) (length graph) parents.p2 early.1 (omega arith),
      )

  cut_len : length (take (length graph) counts) ≡ length graph
  cut_len = length-take-le (length graph) counts (omega (arith, counted.as_long, both))

  cut_at : (row : ℕ) → row < length graph
      → slice_index (take (length graph) counts) row ≡ times_named row
      graph + (is_named row parents.p1 + is_named row parents.p2)
  cut_at row row_in = get_or-take (length graph) counts row 0 row_in
      ∙ counted.counted row (omega (arith, both)) ∙ times_pushed row graph parents

  pub first : IfSome parents.p1 (λ p. p < length (take (length graph) counts))
  first = below (length graph) (length (take (length graph) counts)) parents.p1 popped_early.0
      (omega (arith, cut_len))

  pub second : IfSome parents.p2 (λ p. p < length (one_less parents.p1 (take (length graph) counts)))
  second = below (length graph) (length (one_less parents.p1 (take (length graph) counts))) parents.p2
      popped_early.1 (omega (arith, cut_len, length-one_less parents.p1 (take (length graph) counts)))

  -- what the two calls for the parents of the row that goes ask
  some_of : (o : Option ℕ) (counts : List ℕ) (bound : ℕ) → IfSome o (λ p. p < bound)
      → ((p : ℕ) → p < bound → o ≡ Some p → 0 < slice_index counts p)
      → IfSome o (λ p. 0 < slice_index counts p)
  some_of None cs bound low each = low
  some_of (Some p) cs bound low each = each p low refl

  pub some_first : IfSome parents.p1 (λ p. 0 < slice_index (take (length graph) counts) p)
  some_first = some_of parents.p1 (take (length graph) counts) (length graph) popped_early.0
      (λ p p_in is. omega (arith, cut_at p p_in, named_is p parents.p1 is))

  pub some_second : IfSome parents.p2
      (λ p. 0 < slice_index (one_less parents.p1 (take (length graph) counts)) p)
  some_second = some_of parents.p2 (one_less parents.p1 (take (length graph) counts))
      (length graph) popped_early.1
      (λ p p_in is. omega (
        arith,
        less_at parents.p1 (take (length graph) counts) p first,
        cut_at p p_in,
        named_is p parents.p2 is,
      ))

  -- the counts after the last row is taken away
  pub counted_popped : AreCounted graph
      (one_less parents.p2 (one_less parents.p1 (take (length graph) counts)))
  counted_popped = record {
    as_long = length-one_less parents.p2 _ ∙ length-one_less parents.p1 _ ∙ cut_len;
    earlier = popped_earlier;
    few = omega (arith, both, counted.few);
    counted = λ row row_in. omega (
      arith,
      less_at parents.p2 (one_less parents.p1 (take (length graph) counts)) row second,
      less_at parents.p1 (take (length graph) counts) row first,
      cut_at row row_in,
    );
  }

-- a row is a parent of some row just where it is named
has_parent_named : (graph : List Parents) (row child : ℕ) → HasParent graph row child
    → 0 < times_named row graph
has_parent_named [] row child has = absurd (let none = has.row_at in cc)
has_parent_named (ps ∷ graph) row zero has =
    let same : ps ≡ has.parents = cc in
    elim has.named [
      | inl e ↦ omega (
        arith,
        times_cons row ps graph,
        named_is row ps.p1 (ap (λ (q : Parents). q.p1) same ∙ e),
      )
      | inr e ↦ omega (
        arith,
        times_cons row ps graph,
        named_is row ps.p2 (ap (λ (q : Parents). q.p2) same ∙ e),
      )
    ]
has_parent_named (ps ∷ graph) row (suc child) has =
    omega (
      arith,
      times_cons row ps graph,
      has_parent_named graph row child
          (record { parents = has.parents; row_at = has.row_at; named = has.named }),
    )

not_named : (graph : List Parents) (row : ℕ) → ((child : ℕ) → ¬ (HasParent graph row child))
    → times_named row graph ≡ 0
not_named [] row none = refl
not_named (ps ∷ graph) row none =
    omega (
      arith,
      times_cons row ps graph,
      named_not row ps.p1 (λ e. none zero (record { parents = ps; row_at = refl; named = inl e })),
      named_not row ps.p2 (λ e. none zero (record { parents = ps; row_at = refl; named = inr e })),
      not_named graph row (λ child has. none (suc child)
          (record { parents = has.parents; row_at = has.row_at; named = has.named })),
    )

pub childless_each : (graph : List Parents) (counts : List ℕ) (row : ℕ) → AreCounted graph counts
    → ((row < length counts) × (slice_index counts row ≡ 0)) ↔ ((row < length graph)
    × ((child : ℕ) → ¬ (HasParent graph row child)))
childless_each graph counts row counted = (
  (λ (row_in, free). let within : row < length graph = omega (arith, counted.as_long) in (
    within,
    λ child has. absurd
        (omega (arith, free, counted.counted row within, has_parent_named graph row child has)),
  )),
  (λ (row_in, none). (omega (arith, counted.as_long), counted.counted row row_in ∙ not_named graph row none)),
)
