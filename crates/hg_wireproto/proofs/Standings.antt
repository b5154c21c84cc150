-- How a row stands among the first rows, by a pass over those from it on.
use Rattle.std.proofs.Common.{◌≡◌, ◌↔◌, ◌⊎◌, ℕ, ◌+◌, ◌-◌, ◌<◌, Bool, true, false, List, [], ◌∷◌}
use Rattle.std.proofs.Common.{◌++◌, length, get_or, Option, Some, None, refl, sym, ap, ◌∙◌, subst, inl, inr, arith}
use Rattle.std.proofs.lemmas.Bool.{both_ways, cases_eq, cases_lt}
use Rattle.std.specs.Int.{bit_at}
use Rattle.std.proofs.lemmas.List.{length_push}
use Rattle.std.proofs.lemmas.Nat.Bits.{bit_at-lt}
use Rattle.hg_log.specs.Changeset.{Changeset}
use Rattle.hg_log.specs.Parents.{parents_of, IsParentIn, Leads}
use Rattle.hg_log.specs.Parents.Leads.{itself, of_parent}
use Rattle.hg_log.specs.Rows.{AreLawful}
use Rattle.hg_log.proofs.CallerLemmas.{leads_on, not_later, ordered}
use Rattle.hg_types.specs.declared.phase.Phase.{Phase}
use Rattle.hg_obs.specs.declared.marker.Marker.{Marker}
use Rattle.hg_wireproto.specs.Hidden.{IsObsolete}
use Rattle.hg_wireproto.specs.declared.standing.Line.{Line}
use Rattle.hg_wireproto.specs.code.Branches.{branch_at}
use Rattle.hg_wireproto.specs.code.Covered.{IsHeadTo, IsHiddenTo}
use Rattle.hg_wireproto.specs.code.Hiding.{TellsKept}
use Rattle.hg_wireproto.specs.code.Standing.{AreLines, IsBehind, IsLine, IsLineAt}
use Rattle.hg_wireproto.proofs.Covering.{back}
use Rattle.hg_wireproto.proofs.Hiding.{each_more}

-- ---- tests

-- one of two was said
pub first_said : (b one two : Bool) → one ≡ true → b ≡ one → (b ≡ true) ↔ ((one ≡ true) ⊎ (two ≡ true))
first_said b one two so is = (λ _. inl so, λ _. is ∙ so)

pub second_said : (b one two : Bool) → one ≡ false → b ≡ two → (b ≡ true) ↔ ((one ≡ true) ⊎ (two ≡ true))
second_said b one two not_one is = (
  λ so. inr (sym is ∙ so),
  λ either. elim either [ inl so ↦ absurd (both_ways _ not_one so) | inr so ↦ is ∙ so ],
)

-- or something else was
pub either_said : (b one two : Bool) (Own : Type 0) → (b ≡ true) ↔ ((one ≡ true) ⊎ (two ≡ true)) → b ≡ true
    → (b ≡ true) ↔ ((one ≡ true) ⊎ ((two ≡ true) ⊎ Own))
either_said b one two Own said is = (
  λ so. elim (said.0 so) [ inl by_one ↦ inl by_one | inr by_two ↦ inr (inl by_two) ],
  λ _. is,
)

pub other_said : (b e one two : Bool) (Own : Type 0) → (b ≡ true) ↔ ((one ≡ true) ⊎ (two ≡ true)) → b ≡ false
    → (e ≡ true) ↔ Own → (e ≡ true) ↔ ((one ≡ true) ⊎ ((two ≡ true) ⊎ Own))
other_said b e one two Own said is_not own = (
  λ so. inr (inr (own.0 so)),
  λ any. elim any [
    | inl by_one ↦ absurd (both_ways _ is_not (said.1 (inl by_one)))
    | inr rest ↦ elim rest [
      | inl by_two ↦ absurd (both_ways _ is_not (said.1 (inr by_two)))
      | inr by_own ↦ own.1 by_own
    ]
  ],
)

-- the lowest bit says whether a row is kept
pub kept_so : {A : Type 0} (rows : List Changeset) (markers : List (Marker A)) (phases : List Phase) (r set : ℕ)
    (b : Bool) → TellsKept rows markers phases r set → (b ≡ true) ↔ (bit_at set 0 ≡ 1)
    → (b ≡ true → ¬ (IsObsolete rows markers phases r)) × (b ≡ false → IsObsolete rows markers phases r)
kept_so rows markers phases r set b tells said = (
  λ so. tells.kept (said.0 so),
  λ is_not. elim (cases_eq (bit_at set 0) 1) [
    | inl one ↦ absurd (both_ways _ is_not (said.1 one))
    | inr other ↦ tells.obsolete (omega (arith, other, bit_at-lt set 0))
  ],
)

-- ---- one row more

module _ (rows : List Changeset) (lawful : AreLawful rows) (a : ℕ) where
  -- a row that is behind comes later
  behind_later : (r : ℕ) → IsBehind rows a r → a < r
  behind_later r is =
      let first = not_later (parents_of rows) (ordered rows lawful) a is.other is.leads in
      let then = not_later (parents_of rows) (ordered rows lawful) is.other r is.on in
      elim (cases_eq is.other a) [
        | inl same ↦ absurd (is.proper same)
        | inr other ↦ omega (arith, first, then, other)
      ]

  -- the row itself
  line_here : (line : Line) → line.below ≡ true → line.behind ≡ false → IsLine rows a a line
  line_here line below behind = record {
    below = (λ _. itself, λ _. below);
    behind = (
      λ is. absurd (both_ways _ behind is),
      λ is. absurd (let later = behind_later a is in omega (arith, later)),
    );
  }

  -- what a line says of a parent
  line_over : (lines : List Line) (parent : Option ℕ) (line : Line) → AreLines rows a lines
      → ((p : ℕ) → parent ≡ Some p → p < a + length lines) → IsLineAt lines a parent line
      → (p : ℕ) → parent ≡ Some p → IsLine rows a p line
  line_over lines parent line are within is p here = elim (cases_lt p a) [
    | inl before ↦
        let none = is.earlier (λ q at. subst (λ k. k < a) (let e = sym here ∙ at in cc) before) in
        record {
          below = (
            λ so. absurd (both_ways _ none.0 so),
            λ leads. absurd (let later = not_later (parents_of rows) (ordered rows lawful) a p leads in
                omega (arith, later, before)),
          );
          behind = (
            λ so. absurd (both_ways _ none.1 so),
            λ behind. absurd (let later = behind_later p behind in omega (arith, later, before)),
          );
        }
    | inr from ↦
        let low : p - a < length lines = omega (arith, within p here, from) in
        let place : a + (p - a) ≡ p = omega (arith, from) in
        subst (λ l. IsLine rows a p l) (sym (is.there p here from))
        (subst (λ k. IsLine rows a k (get_or lines (p - a) line)) place (are (p - a) line low))
  ]

  -- where there is no parent nothing is said
  line_nowhere : (lines : List Line) (parent : Option ℕ) (line : Line) → IsLineAt lines a parent line
      → parent ≡ None → (line.below ≡ false) × (line.behind ≡ false)
  line_nowhere lines parent line is none = is.earlier (λ p at. absurd (let e = sym none ∙ at in cc))

  -- so what is said is said of a parent
  line_some : (lines : List Line) (parent : Option ℕ) (line : Line) → AreLines rows a lines
      → ((p : ℕ) → parent ≡ Some p → p < a + length lines) → IsLineAt lines a parent line
      → ((line.below ≡ true) → (p : ℕ) × (parent ≡ Some p) × Leads (parents_of rows) a p)
      × ((line.behind ≡ true) → (p : ℕ) × (parent ≡ Some p) × IsBehind rows a p)
  line_some lines None line are within is =
      let none = line_nowhere lines None line is refl in
      (λ so. absurd (both_ways _ none.0 so), λ so. absurd (both_ways _ none.1 so))
  line_some lines (Some p) line are within is =
      let said = line_over lines (Some p) line are within is p refl in
      (λ so. (p, refl, said.below.0 so), λ so. (p, refl, said.behind.0 so))

  -- the line of the next row, by those of its parents
  pub line_next : (lines : List Line) (r : ℕ) (one two line : Line) → a < r → a + length lines ≡ r
      → AreLines rows a lines → IsLineAt lines a (parents_of rows r).0 one
      → IsLineAt lines a (parents_of rows r).1 two
      → (line.below ≡ true) ↔ ((one.below ≡ true) ⊎ (two.below ≡ true))
      → (line.behind ≡ true) ↔ ((one.behind ≡ true) ⊎ ((two.behind ≡ true)
      ⊎ ((line.below ≡ true) × (branch_at rows r ≡ branch_at rows a))))
      → IsLine rows a r line
  line_next lines r one two line later long are first second below behind =
      let early = λ (p : ℕ) (is : IsParentIn (parents_of rows) p r). ordered rows lawful p r is in
      let in_one : (p : ℕ) → (parents_of rows r).0 ≡ Some p → p < a + length lines =
      λ p at. let low = early p (inl at) in omega (arith, low, long) in
      let in_two : (p : ℕ) → (parents_of rows r).1 ≡ Some p → p < a + length lines =
      λ p at. let low = early p (inr at) in omega (arith, low, long) in
      let some_one = line_some lines (parents_of rows r).0 one are in_one first in
      let some_two = line_some lines (parents_of rows r).1 two are in_two second in
      let over_one = line_over lines (parents_of rows r).0 one are in_one first in
      let over_two = line_over lines (parents_of rows r).1 two are in_two second in
      let leads_to : (line.below ≡ true) → Leads (parents_of rows) a r =
      λ so. elim (below.0 so) [
        | inl by_one ↦ let p = some_one.0 by_one in of_parent p.0 r (inl p.1) p.2
        | inr by_two ↦ let p = some_two.0 by_two in of_parent p.0 r (inr p.1) p.2
      ] in
      let to_below : Leads (parents_of rows) a r → line.below ≡ true =
      λ leads. elim (back rows a r leads) [
        | inl same ↦ absurd (omega (arith, same, later))
        | inr through ↦ below.1 (elim through.1 [
          | inl at ↦ inl ((over_one through.0 at).below.1 through.2)
          | inr at ↦ inr ((over_two through.0 at).below.1 through.2)
        ])
      ] in
      let on = λ (p : ℕ) (is : IsParentIn (parents_of rows) p r) (has : IsBehind rows a p).
      let made : IsBehind rows a r = record {
        other = has.other;
        proper = has.proper;
        named = has.named;
        leads = has.leads;
        on = of_parent p r is has.on;
      } in made in
      record {
        below = (leads_to, to_below);
        behind = (
          λ so. elim (behind.0 so) [
            | inl by_one ↦ let p = some_one.1 by_one in on p.0 (inl p.1) p.2
            | inr rest ↦ elim rest [
              | inl by_two ↦ let p = some_two.1 by_two in on p.0 (inr p.1) p.2
              | inr own ↦ record {
                other = r;
                proper = λ same. omega (arith, same, later);
                named = own.1;
                leads = leads_to own.0;
                on = itself;
              }
            ]
          ],
          λ is. behind.1 (elim (back rows is.other r is.on) [
            | inl same ↦ inr (inr (
              to_below (subst (λ k. Leads (parents_of rows) a k) same is.leads),
              sym (ap (branch_at rows) same) ∙ is.named,
            ))
            | inr through ↦
                let has : IsBehind rows a through.0 = record {
                  other = is.other;
                  proper = is.proper;
                  named = is.named;
                  leads = is.leads;
                  on = through.2;
                } in
                elim through.1 [
                  | inl at ↦ inl ((over_one through.0 at).behind.1 has)
                  | inr at ↦ inr (inl ((over_two through.0 at).behind.1 has))
                ]
          ]),
        );
      }

  -- one line more
  pub lines_more : (old new : List Line) (line : Line) (n : ℕ) → a + length old ≡ n → new ≡ old ++ line ∷ []
      → AreLines rows a old → IsLine rows a n line → AreLines rows a new
  lines_more old new line n long is are here k other low =
      each_more (λ i l. IsLine rows a (a + i) l) old new line other (length old) refl is
      (λ i under. are i other under) (subst (λ m. IsLine rows a m line) (sym long) here) k
      (omega (arith, low, ap length is, length_push old line))

  pub first_line : (lines : List Line) (line : Line) → lines ≡ line ∷ [] → line.below ≡ true → line.behind ≡ false
      → (a + length lines ≡ a + 1) × AreLines rows a lines
  first_line lines line is below behind = (
    ap (λ (l : List Line). a + length l) is,
    lines_more [] lines line a (omega arith) is (λ k other low. absurd (omega (arith, low)))
        (line_here line below behind),
  )

-- ---- what was found of the first rows

-- whether the row leads to one of the first n that is not obsolete, and none that is behind it is not
pub record Looked {A : Type 0} (rows : List Changeset) (markers : List (Marker A)) (phases : List Phase)
    (a n : ℕ) (shown : Bool) : Type 0 where
  pub some : shown ≡ true → (d : ℕ) × (d < n) × Leads (parents_of rows) a d × ¬ (IsObsolete rows markers phases d)
  pub none : shown ≡ false → (d : ℕ) → d < n → Leads (parents_of rows) a d → IsObsolete rows markers phases d
  pub behind : (d : ℕ) → d < n → IsBehind rows a d → IsObsolete rows markers phases d

module _ {A : Type 0} (rows : List Changeset) (markers : List (Marker A)) (phases : List Phase)
    (lawful : AreLawful rows) (a : ℕ) where
  -- the row itself
  pub looked_here : (shown : Bool) → (shown ≡ true → ¬ (IsObsolete rows markers phases a))
      → (shown ≡ false → IsObsolete rows markers phases a) → Looked rows markers phases a (a + 1) shown
  looked_here shown kept gone = record {
    some = λ so. (a, omega arith, itself, kept so);
    none = λ so d low leads.
        let later = not_later (parents_of rows) (ordered rows lawful) a d leads in
        let same : a ≡ d = omega (arith, low, later) in
        subst (IsObsolete rows markers phases) same (gone so);
    behind = λ d low is. absurd (let later = behind_later rows lawful a d is in omega (arith, low, later));
  }

  -- one row more, which the row does not lead to, or which is obsolete
  pub looked_past : (n : ℕ) (shown : Bool) → (Leads (parents_of rows) a n → IsObsolete rows markers phases n)
      → Looked rows markers phases a n shown → Looked rows markers phases a (n + 1) shown
  looked_past n shown past held = record {
    some = λ so. let it = held.some so in (it.0, omega (arith, it.1), it.2, it.3);
    none = λ so d low leads. elim (cases_eq d n) [
      | inl e ↦ subst (IsObsolete rows markers phases) (sym e) (past (subst (λ k. Leads (parents_of rows) a k) e leads))
      | inr ne ↦ held.none so d (omega (arith, low, ne)) leads
    ];
    behind = λ d low is. elim (cases_eq d n) [
      | inl e ↦ subst (IsObsolete rows markers phases) (sym e)
          (past (subst (λ k. Leads (parents_of rows) a k) e (leads_on (parents_of rows) a is.other d is.leads is.on)))
      | inr ne ↦ held.behind d (omega (arith, low, ne)) is
    ];
  }

  -- one that it leads to, which is not behind it
  pub looked_kept : (n : ℕ) (shown : Bool) → Leads (parents_of rows) a n → ¬ (IsObsolete rows markers phases n)
      → ¬ (IsBehind rows a n)
      → Looked rows markers phases a n shown → Looked rows markers phases a (n + 1) true
  looked_kept n shown leads kept apart held = record {
    some = λ so. (n, omega arith, leads, kept);
    none = λ so. absurd (both_ways true so refl);
    behind = λ d low is. elim (cases_eq d n) [
      | inl e ↦ absurd (apart (subst (IsBehind rows a) e is))
      | inr ne ↦ held.behind d (omega (arith, low, ne)) is
    ];
  }

  -- all rows were looked at: it is a head
  pub looked_head : (n : ℕ) (shown : Bool) → shown ≡ true → Looked rows markers phases a n shown
      → IsHeadTo rows markers phases n a
  looked_head n shown so held = record {
    shown = λ hid. let it = held.some so in it.3 (hid it.0 it.1 it.2);
    last = λ d low same apart leads. elim (cases_eq d a) [
      | inl e ↦ e
      | inr ne ↦ absurd (apart (λ e under on. held.behind e under (record {
        other = d;
        proper = ne;
        named = same;
        leads = leads;
        on = on;
      })))
    ];
  }

  -- one that is behind it is not obsolete: it is neither
  pub looked_covered : (n r : ℕ) → r < n → IsBehind rows a r → ¬ (IsObsolete rows markers phases r)
      → (¬ (IsHiddenTo rows markers phases n a)) × (¬ (IsHeadTo rows markers phases n a))
  looked_covered n r low is kept =
      let later = not_later (parents_of rows) (ordered rows lawful) is.other r is.on in (
        λ hid. kept (hid r low (leads_on (parents_of rows) a is.other r is.leads is.on)),
        λ head. is.proper (head.last is.other (omega (arith, low, later)) is.named (λ hid. kept (hid r low is.on))
            is.leads),
      )
