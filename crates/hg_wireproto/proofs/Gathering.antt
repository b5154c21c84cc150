-- The pass down the rows, which gives each parent the sets of its children.
use Rattle.std.proofs.Common.{◌≡◌, ◌≢◌, ◌⊎◌, ◌↔◌, ℕ, zero, suc, ◌+◌, ◌<◌, ◌≤◌, List, [], ◌∷◌, ◌++◌, length, get_or}
use Rattle.std.proofs.Common.{set, Option, None, Some, refl, sym, ap, ◌∙◌, subst, inl, inr, arith}
use Rattle.std.proofs.Common.{get_or-set_same, get_or-set_other}
use Rattle.std.specs.Prelude.{IfSome}
use Rattle.std.specs.Int.{bit_at}
use Rattle.std.specs.Int.RustNames.{bit_or}
use Rattle.std.proofs.lemmas.Bool.{cases_eq}
use Rattle.std.proofs.lemmas.List.{length-set}
use Rattle.std.proofs.lemmas.Option.{slice_get_within}
use Rattle.std.proofs.lemmas.Nat.Bits.{bit_at_or, bit_at-lt, bit_at-zero}
use Rattle.hg_log.specs.Ancestors.{IsAncestor}
use Rattle.hg_log.specs.Changeset.{Changeset}
use Rattle.hg_log.specs.Rows.{AreLawful}
use Rattle.hg_log.specs.Parents.{parents_of, IsParentIn, AreOrdered, Leads}
use Rattle.hg_log.specs.Parents.Leads.{itself, of_parent}
use Rattle.hg_log.specs.Ancestors.IsAncestor.{itself as same_row, of_parent as by_parent}
use Rattle.hg_log.proofs.CallerLemmas.{ordered, leads_on, leads_ancestor, ancestor_leads, not_later}
use Rattle.hg_wireproto.specs.code.Behind.{AreAdded, AreBehind, HasBehind, IsIn}

pub none_more : (xs : List ℕ) (r : ℕ) → ((k : ℕ) → get_or xs k 0 ≡ 0) → get_or (xs ++ 0 ∷ []) r 0 ≡ 0
none_more [] zero none = refl
none_more [] (suc r) none = refl
none_more (x ∷ xs) zero none = none zero
none_more (x ∷ xs) (suc r) none = none_more xs r (λ k. none (suc k))

pub either : (a b k : ℕ) → bit_at (bit_or a b) k ≡ 1 → (bit_at a k ≡ 1) ⊎ (bit_at b k ≡ 1)
either a b k is =
    let whole = bit_at_or a b k in
    elim (cases_eq (bit_at a k) 1) [
      | inl is_a ↦ inl is_a
      | inr not_a ↦ inr (omega (arith, whole, is, not_a, bit_at-lt a k, bit_at-lt b k))
    ]

pub both : (a b k : ℕ) → (bit_at a k ≡ 1) ⊎ (bit_at b k ≡ 1) → bit_at (bit_or a b) k ≡ 1
both a b k (inl is) = omega (arith, bit_at_or a b k, is, bit_at-lt a k, bit_at-lt b k)
both a b k (inr is) = omega (arith, bit_at_or a b k, is, bit_at-lt a k, bit_at-lt b k)

pub added_none : (sets : ℕ) (old : List ℕ) → AreAdded None sets old old
added_none sets old = record {
  as_long = refl;
  each = λ r k. ((λ is. inl is), (λ e. elim e [ inl is ↦ is | inr both ↦ absurd (let f = both.0 in cc) ]));
}

pub added_one : (p sets : ℕ) (old new : List ℕ) → p < length old → new ≡ set old p (bit_or (get_or old p 0) sets)
    → AreAdded (Some p) sets old new
added_one p sets old new within same = record {
  as_long = ap length same ∙ length-set old p _;
  each = λ r k. elim (cases_eq r p) [
    | inl e ↦
        let here : get_or new r 0 ≡ bit_or (get_or old r 0) sets =
        ap (λ (x : ℕ). get_or new x 0) e ∙ ap (λ (xs : List ℕ). get_or xs p 0) same
        ∙ get_or-set_same old p _ 0 within ∙ ap (λ (x : ℕ). bit_or (get_or old x 0) sets) (sym e) in (
          λ is. elim (either (get_or old r 0) sets k (ap (λ (x : ℕ). bit_at x k) (sym here) ∙ is)) [
            | inl a ↦ inl a
            | inr b ↦ inr (ap (λ (x : ℕ). Some x) (sym e), b)
          ],
          λ is. ap (λ (x : ℕ). bit_at x k) here ∙ both (get_or old r 0) sets k
              (elim is [ inl a ↦ inl a | inr b ↦ inr b.1 ]),
        )
    | inr ne ↦
        let there : get_or new r 0 ≡ get_or old r 0 =
        ap (λ (xs : List ℕ). get_or xs r 0) same ∙ get_or-set_other old p r _ 0 ne in (
          λ is. inl (ap (λ (x : ℕ). bit_at x k) (sym there) ∙ is),
          λ is. elim is [
            | inl a ↦ ap (λ (x : ℕ). bit_at x k) there ∙ a
            | inr b ↦ absurd (let f = b.0 in let e : p ≡ r = cc in ne (sym e))
          ],
        )
  ];
}

pub added_at : (row : Option ℕ) (p sets : ℕ) (old new : List ℕ) → row ≡ Some p → p < length old
    → new ≡ set old p (bit_or (get_or old p 0) sets) → AreAdded row sets old new
added_at row p sets old new is within same =
    subst (λ (o : Option ℕ). AreAdded o sets old new) (sym is) (added_one p sets old new within same)

pub ancestor_within : (rows : List Changeset) (a r : ℕ) → IsAncestor rows a r → r < length rows
ancestor_within rows a r (same_row within) = within
ancestor_within rows a r (by_parent p q is more) = slice_get_within rows q is.child is.child_at

pub some_within : (row : Option ℕ) (p n : ℕ) → row ≡ Some p → IfSome row (λ q. q < n) → p < n
some_within row p n is within = subst (λ (o : Option ℕ). IfSome o (λ q. q < n)) is within

module _ (rows : List Changeset) (sets : List ℕ) where
  -- a child from that row on is in the set, or has a descendant in it
  pub record IsFed (behind : List ℕ) (n p k : ℕ) : Type 0 where
    pub child : ℕ
    pub from : n ≤ child
    pub within : child < length rows
    pub is_parent : IsParentIn (parents_of rows) p child
    pub is_in : IsIn sets child k ⊎ IsIn behind child k

  -- the rows from that one on gave their sets to their parents
  pub record AreGathered (n : ℕ) (behind : List ℕ) : Type 0 where
    pub as_long : length behind ≡ length rows
    pub each : (p k : ℕ) → IsIn behind p k ↔ IsFed behind n p k

  pub gathered_none : (behind : List ℕ) → length behind ≡ length rows → ((r : ℕ) → get_or behind r 0 ≡ 0)
      → AreGathered (length rows) behind
  gathered_none behind as_long none = record {
    as_long = as_long;
    each = λ p k. (
      λ is. absurd (
          let zeroes : bit_at (get_or behind p 0) k ≡ 0 =
          ap (λ (x : ℕ). bit_at x k) (none p) ∙ bit_at-zero k in
          omega (arith, is, zeroes)
          ),
      λ fed. absurd (omega (arith, fed.from, fed.within)),
    );
  }

  pub gathered_more : AreOrdered (parents_of rows) → (r own : ℕ) (p1 p2 : Option ℕ) (old one two : List ℕ)
      → r < length rows → AreGathered (r + 1) old → own ≡ bit_or (get_or sets r 0) (get_or old r 0)
      → p1 ≡ (parents_of rows r).0 → p2 ≡ (parents_of rows r).1 → AreAdded p1 own old one
      → AreAdded p2 own one two → AreGathered r two
  gathered_more early r own p1 p2 old one two within gathered owned first second at_one at_two = record {
    as_long = at_two.as_long ∙ at_one.as_long ∙ gathered.as_long;
    each = λ p k. (fed p k, told p k);
  }
    where
      grows : (q k : ℕ) → IsIn old q k → IsIn two q k
      grows q k is = (at_two.each q k).1 (inl ((at_one.each q k).1 (inl is)))

      -- rows that are no parents of this one are as they were
      stays : (q k : ℕ) → r ≤ q → IsIn two q k → IsIn old q k
      stays q k high is = elim ((at_two.each q k).0 is) [
        | inl mid ↦ elim ((at_one.each q k).0 mid) [
          | inl is_old ↦ is_old
          | inr both ↦ absurd (let low = early q r (inl (sym first ∙ both.0)) in omega (arith, low, high))
        ]
        | inr both ↦ absurd (let low = early q r (inr (sym second ∙ both.0)) in omega (arith, low, high))
      ]

      own_in : (k : ℕ) → bit_at own k ≡ 1 → IsIn sets r k ⊎ IsIn two r k
      own_in k is = elim (either (get_or sets r 0) (get_or old r 0) k (ap (λ (x : ℕ). bit_at x k) (sym owned) ∙ is)) [
        | inl a ↦ inl a
        | inr b ↦ inr (grows r k b)
      ]

      fed : (p k : ℕ) → IsIn two p k → IsFed two r p k
      fed p k is = elim ((at_two.each p k).0 is) [
        | inl mid ↦ elim ((at_one.each p k).0 mid) [
          | inl is_old ↦ let f = (gathered.each p k).0 is_old in
              record {
                child = f.child;
                from = omega (arith, f.from);
                within = f.within;
                is_parent = f.is_parent;
                is_in = elim f.is_in [ inl a ↦ inl a | inr b ↦ inr (grows f.child k b) ];
              }
          | inr both ↦
              record {
                child = r;
                from = omega arith;
                within = within;
                is_parent = inl (sym first ∙ both.0);
                is_in = own_in k both.1;
              }
        ]
        | inr both ↦
            record {
              child = r;
              from = omega arith;
              within = within;
              is_parent = inr (sym second ∙ both.0);
              is_in = own_in k both.1;
            }
      ]

      given : (p k : ℕ) → IsParentIn (parents_of rows) p r → bit_at own k ≡ 1 → IsIn two p k
      given p k (inl is) own_is = (at_two.each p k).1 (inl ((at_one.each p k).1 (inr (first ∙ is, own_is))))
      given p k (inr is) own_is = (at_two.each p k).1 (inr (second ∙ is, own_is))

      told : (p k : ℕ) → IsFed two r p k → IsIn two p k
      told p k f = elim (cases_eq f.child r) [
        | inl e ↦
            let in_own : bit_at own k ≡ 1 = ap (λ (x : ℕ). bit_at x k) owned
            ∙ both (get_or sets r 0) (get_or old r 0) k (elim f.is_in [
              | inl a ↦ inl (subst (λ q. IsIn sets q k) e a)
              | inr b ↦ inr (stays r k (omega arith) (subst (λ q. IsIn two q k) e b))
            ]) in
            given p k (subst (IsParentIn (parents_of rows) p) e f.is_parent) in_own
        | inr ne ↦ grows p k ((gathered.each p k).1 (record {
          child = f.child;
          from = omega (arith, f.from, ne);
          within = f.within;
          is_parent = f.is_parent;
          is_in = elim f.is_in [ inl a ↦ inl a | inr b ↦ inr (stays f.child k f.from b) ];
        }))
      ]

  module _ (lawful : AreLawful rows) (behind : List ℕ) (all : AreGathered 0 behind) where
    -- there is a descendant
    found : (m p k : ℕ) → length rows ≤ p + m → p < length rows → IsIn behind p k → HasBehind rows sets p k
    found zero p k past within is = absurd (omega (arith, past, within))
    found (suc m) p k past within is =
        let f = (all.each p k).0 is in
        let later = ordered rows lawful p f.child f.is_parent in
        let step : Leads (parents_of rows) p f.child = of_parent p f.child f.is_parent itself in
        elim f.is_in [
          | inl a ↦ record {
            other = f.child;
            descends = leads_ancestor rows lawful p f.child f.within step;
            proper = λ e. omega (arith, later, e);
            is_in = a;
          }
          | inr b ↦
              let more = found m f.child k (omega (arith, past, later)) f.within b in
              let leads = ancestor_leads rows lawful f.child more.other more.descends in
              record {
                other = more.other;
                descends = leads_ancestor rows lawful p more.other
                    (ancestor_within rows f.child more.other more.descends)
                    (leads_on (parents_of rows) p f.child more.other step leads);
                proper = λ e. omega (
                  arith,
                  later,
                  e,
                  not_later (parents_of rows) (ordered rows lawful) f.child more.other leads,
                );
                is_in = more.is_in;
              }
        ]

    told_up : (k a r : ℕ) → Leads (parents_of rows) a r → r < length rows → IsIn behind r k → IsIn behind a k
    told_up k a r itself within is = is
    told_up k a r (of_parent p q is_parent more) within is =
        let low = ordered rows lawful p q is_parent in
        told_up k a p more (omega (arith, low, within))
        ((all.each p k).1 (record {
          child = q;
          from = omega arith;
          within = within;
          is_parent = is_parent;
          is_in = inr is;
        }))

    shown : (k a r : ℕ) → Leads (parents_of rows) a r → r < length rows → r ≢ a → IsIn sets r k → IsIn behind a k
    shown k a r itself within other is = absurd (other refl)
    shown k a r (of_parent p q is_parent more) within other is =
        let low = ordered rows lawful p q is_parent in
        told_up k a p more (omega (arith, low, within))
        ((all.each p k).1 (record {
          child = q;
          from = omega arith;
          within = within;
          is_parent = is_parent;
          is_in = inl is;
        }))

    pub behind_all : AreBehind rows sets behind
    behind_all = record {
      as_long = all.as_long;
      each = λ r k within. (
        λ is. found (length rows) r k (omega arith) within is,
        λ has. shown k r has.other (ancestor_leads rows lawful r has.other has.descends)
            (ancestor_within rows r has.other has.descends) has.proper has.is_in,
      );
    }
