-- Which rows are no heads of their branches, once some became obsolete.
use Rattle.std.proofs.Common.{◌≡◌, ◌↔◌, ◌⊎◌, ℕ, zero, suc, ◌+◌, ◌<◌, ◌≤◌, Bool, true, false, List, [], ◌∷◌, ◌++◌}
use Rattle.std.proofs.Common.{length, get_or, set, take, Option, Some, None, refl, sym, ap, ◌∙◌, subst, inl, inr, arith}
use Rattle.std.specs.Prelude.{All, Contains}
use Rattle.std.specs.Int.{bit_at}
use Rattle.std.proofs.lemmas.Bool.{both_ways, cases_eq}
use Rattle.std.proofs.lemmas.List.{append_assoc, append-nil, get_or-set_other, get_or-set_same, length-set}
use Rattle.std.proofs.lemmas.List.{length-take-le}
use Rattle.std.proofs.lemmas.List.{take_all, take_more, take-append-le}
use Rattle.std.proofs.lemmas.List.Elements.{All-append, All-push, Contains-append_left, Contains-append_right}
use Rattle.std.proofs.lemmas.List.Elements.{Contains-push, Contains-push_cases}
use Rattle.std.proofs.lemmas.Nat.Bits.{bit_at-lt}
use Rattle.hg_log.specs.Changeset.{Changeset}
use Rattle.hg_log.specs.Parents.{parents_of, IsParentIn, Leads}
use Rattle.hg_log.specs.Parents.Leads.{itself, of_parent}
use Rattle.hg_log.specs.Rows.{AreLawful}
use Rattle.hg_log.proofs.CallerLemmas.{leads_on, not_later, ordered}
use Rattle.hg_types.specs.declared.phase.Phase.{Phase}
use Rattle.hg_obs.specs.declared.marker.Marker.{Marker}
use Rattle.hg_wireproto.specs.Hidden.{IsObsolete}
use Rattle.hg_wireproto.specs.code.Branches.{branch_at}
use Rattle.hg_wireproto.specs.code.Covered.{AreCovered, AreCoveredTo, IsHeadTo, IsHiddenTo}
use Rattle.hg_wireproto.specs.code.Hiding.{TellsKept}
use Rattle.hg_wireproto.specs.code.Settled.{AreHeadsAmong, ArePushed, AreSettled, HasParentsOf, IsPushed, IsSettled}
use Rattle.hg_wireproto.proofs.Covering.{covered_was, HeadBy, HiddenBy}

-- ---- what changes where rows become obsolete

-- Rows that were obsolete are. Of those that became so, each that was a head is listed, and so are the parents of each
-- that is listed and hidden now: they are of its branch. A row that is not listed is a head where it was one.
module _ (rows : List Changeset) (n : ℕ) (lawful : AreLawful rows) (was is : ℕ → Type 0)
    (stable : (r : ℕ) → r < n → ¬ (¬ (was r)) → was r) (grows : (r : ℕ) → r < n → was r → is r) (gone : List ℕ)
    (marked : (r : ℕ) → r < n → is r → was r ⊎ Contains gone r)
    (covered : List Bool)
    (told : (r : ℕ) → r < n → (get_or covered r false ≡ false) ↔ HeadBy was rows n r) (revs : List ℕ)
    (has : (r : ℕ) → Contains gone r → get_or covered r false ≡ false → Contains revs r)
    (closed : (r : ℕ) → Contains revs r → (p : ℕ) → HiddenBy is rows n r → IsParentIn (parents_of rows) p r
    → Contains revs p × (branch_at rows p ≡ branch_at rows r)) where
  -- what a hidden row leads to is hidden
  under : (d e : ℕ) → Leads (parents_of rows) d e → HiddenBy is rows n d → HiddenBy is rows n e
  under d e leads hid f low more = hid f low (leads_on (parents_of rows) d e f leads more)

  -- a hidden row is listed where it leads to one that is
  listed_up : (d e : ℕ) → Leads (parents_of rows) d e → Contains revs e → HiddenBy is rows n d → Contains revs d
  listed_up d e itself in_revs hid = in_revs
  listed_up d e (of_parent p q parent more) in_revs hid =
      listed_up d p more (closed q in_revs p (under d q (of_parent p q parent more) hid) parent).0 hid

  -- all that a hidden row leads to was obsolete, where the row is not listed
  all_were : (k d e : ℕ) → n ≤ e + k → e < n → Leads (parents_of rows) d e → HiddenBy is rows n d
      → ¬ (Contains revs d) → was e
  all_were zero d e past low leads hid apart = absurd (omega (arith, past, low))
  all_were (suc k) d e past low leads hid apart = elim (marked e low (hid e low leads)) [
    | inl before ↦ before
    | inr came ↦ stable e low (λ not_before.
        let head : HeadBy was rows n e = record {
          shown = λ hidden. not_before (hidden e low itself);
          last = λ x within same shown to. elim (cases_eq x e) [
            | inl same_row ↦ same_row
            | inr other ↦ absurd (shown (λ y low_y on.
                let after_e = not_later (parents_of rows) (ordered rows lawful) e x to in
                let after_x = not_later (parents_of rows) (ordered rows lawful) x y on in
                all_were k d y (omega (arith, past, after_e, after_x, other)) low_y
                (leads_on (parents_of rows) d e y leads (leads_on (parents_of rows) e x y to on)) hid apart))
          ];
        } in
        apart (listed_up d e leads (has e came ((told e low).1 head)) hid))
  ]

  hidden_was : (d : ℕ) → HiddenBy is rows n d → ¬ (Contains revs d) → HiddenBy was rows n d
  hidden_was d hid apart e low leads = all_were n d e (omega arith) low leads hid apart

  hidden_is : (d : ℕ) → HiddenBy was rows n d → HiddenBy is rows n d
  hidden_is d hid e low leads = grows e low (hid e low leads)

  -- a head leads to no row of its branch that is listed and hidden, unless it is listed
  not_listed_below : (r d : ℕ) → HeadBy is rows n r → ¬ (Contains revs r) → Leads (parents_of rows) r d → d < n
      → Contains revs d → HiddenBy is rows n d → branch_at rows d ≡ branch_at rows r → ⊥
  not_listed_below r d head apart itself low in_revs hid same = apart in_revs
  not_listed_below r d head apart (of_parent p q parent more) low in_revs hid same =
      let up = closed q in_revs p hid parent in
      let early = ordered rows lawful p q parent in
      let within : p < n = omega (arith, early, low) in
      let own : branch_at rows p ≡ branch_at rows r = up.1 ∙ same in
      let is_r : p ≡ r = head.last p within own
      (λ hid_p. not_listed_below r p head apart more within up.0 hid_p own) more in
      apart (subst (Contains revs) is_r up.0)

  pub stays_head : (r : ℕ) → ¬ (Contains revs r) → HeadBy was rows n r → HeadBy is rows n r
  stays_head r apart head = record {
    shown = λ hid. head.shown (hidden_was r hid apart);
    last = λ d low same shown leads. head.last d low same (λ hid. shown (hidden_is d hid)) leads;
  }

  pub was_head : (r : ℕ) → ¬ (Contains revs r) → HeadBy is rows n r → HeadBy was rows n r
  was_head r apart head = record {
    shown = λ hid. head.shown (hidden_is r hid);
    last = λ d low same shown leads. head.last d low same
        (λ hid. shown (hidden_was d hid (λ in_revs. not_listed_below r d head apart leads low in_revs hid same)))
        leads;
  }

-- ---- a view whose rows became obsolete

pub listed_or : (xs : List ℕ) (r : ℕ) → Contains xs r ⊎ (¬ (Contains xs r))
listed_or [] r = inr (λ has. omega (arith, has.1))
listed_or (x ∷ xs) r = elim (cases_eq x r) [
  | inl e ↦ inl (0, omega arith, e)
  | inr ne ↦ elim (listed_or xs r) [
    | inl has ↦ inl (suc has.0, omega (arith, has.1), has.2)
    | inr lacks ↦ inr (λ has. not_first has.0 has.1 has.2 ne lacks)
  ]
]
  where
    not_first : (k : ℕ) → k < length (x ∷ xs) → get_or (x ∷ xs) k r ≡ r → (x ≡ r → ⊥) → ¬ (Contains xs r) → ⊥
    not_first zero low at ne lacks = ne at
    not_first (suc k) low at ne lacks = lacks (k, omega (arith, low), at)

-- a row that is not said to be kept is obsolete
kept_stable : {A : Type 0} (rows : List Changeset) (markers : List (Marker A)) (phases : List Phase) (r set : ℕ)
    → TellsKept rows markers phases r set → ¬ (¬ (IsObsolete rows markers phases r)) → IsObsolete rows markers phases r
kept_stable rows markers phases r set tells not_not = elim (cases_eq (bit_at set 0) 1) [
  | inl one ↦ absurd (not_not (tells.kept one))
  | inr other ↦ tells.obsolete (omega (arith, other, bit_at-lt set 0))
]

-- a view has as many rows as it was made of
pub front_long : (rows few : List Changeset) (n : ℕ) → n ≤ length rows → few ≡ take n rows → length few ≡ n
front_long rows few n within is = ap length is ∙ length-take-le n rows within

-- what is said anew, of rows that became obsolete, is right of all where what was said of a view of them was
pub covered_settled : {A : Type 0} (rows few : List Changeset) (markers known : List (Marker A))
    (phases was : List Phase) (n : ℕ) (covered settled : List Bool) (kept gone heads : List ℕ) → AreLawful rows
    → AreLawful few → n ≤ length rows → few ≡ take n rows
    → ((r : ℕ) → r < n → TellsKept few known was r (get_or kept r 0))
    → ((r : ℕ) → r < n → IsObsolete few known was r → IsObsolete rows markers phases r)
    → ((r : ℕ) → r < n → IsObsolete rows markers phases r → IsObsolete few known was r ⊎ Contains gone r)
    → AreHeadsAmong covered gone heads → AreCovered few known was covered
    → AreSettled rows markers phases (length covered) heads covered settled
    → AreCoveredTo rows markers phases (length covered) settled
covered_settled {A} rows few markers known phases was n covered settled kept gone heads lawful lawful_few within few_is
    tells grows marked among told is =
    let first = covered_was rows few known was n covered lawful lawful_few within few_is told in
    let size = first.0 in
    let closed : (r : ℕ) → Contains is.revs r → (p : ℕ) → HiddenBy (IsObsolete rows markers phases) rows n r
    → IsParentIn (parents_of rows) p r → Contains is.revs p × (branch_at rows p ≡ branch_at rows r) =
    λ r in_revs p hid parent. is.closed r in_revs p (λ d low. hid d (omega (arith, low, size))) parent in
    let stable = λ (r : ℕ) (low : r < n) (not_not : ¬ (¬ (IsObsolete few known was r))).
    kept_stable few known was r (get_or kept r 0) (tells r low) not_not in
    let has = λ (r : ℕ) (came : Contains gone r) (head : get_or covered r false ≡ false).
    is.has r (among.each r came head) in
    let To : ℕ → ℕ → Type 0 = λ m r. IsHeadTo rows markers phases m r in
    record {
      as_long = is.as_long;
      each = λ r under.
          let low : r < n = omega (arith, under, size) in
          elim (listed_or is.revs r) [
            | inl in_revs ↦ is.told r in_revs
            | inr apart ↦ elim (is.others r) [
              | inr in_revs ↦ absurd (apart in_revs)
              | inl same ↦ (
                λ not_covered.
                    let now = stays_head rows n lawful (IsObsolete few known was) (IsObsolete rows markers phases)
                    stable grows gone marked covered first.1 is.revs has closed r apart
                    ((first.1 r low).0 (sym same ∙ not_covered)) in
                    subst (λ m. To m r) (sym size) (record { shown = now.shown; last = now.last }),
                λ head.
                    let there = subst (λ m. To m r) size head in
                    same ∙ (first.1 r low).1 (was_head rows n lawful (IsObsolete few known was)
                    (IsObsolete rows markers phases) stable grows gone marked covered first.1 is.revs has closed r
                    apart (record { shown = there.shown; last = there.last })),
              )
            ]
          ];
    }

-- ---- rows in turn

-- the heads among the first of some rows, with one row more
pub among_none : (covered : List Bool) → AreHeadsAmong covered [] []
among_none covered = record {
  within = λ k d low. absurd (omega (arith, low));
  each = λ r has head. absurd (omega (arith, has.1));
}

pub among_more : (covered : List Bool) (revs old new : List ℕ) (i rev : ℕ) → i < length revs → rev ≡ get_or revs i 0
    → ((r : ℕ) → Contains old r → Contains new r)
    → (get_or covered rev false ≡ false → Contains new rev) → All (λ r. r < length covered) new
    → AreHeadsAmong covered (take i revs) old → AreHeadsAmong covered (take (i + 1) revs) new
among_more covered revs old new i rev within read stays here low held =
    let more : take (i + 1) revs ≡ take i revs ++ rev ∷ [] =
    take_more revs i 0 within ∙ ap (λ x. take i revs ++ x ∷ []) (sym read) in
    record {
      within = low;
      each = λ r has head.
          elim (Contains-push_cases (take i revs) rev r (subst (λ (l : List ℕ). Contains l r) more has)) [
            | inl before ↦ stays r (held.each r before head)
            | inr same ↦ subst (Contains new) same
                (here (subst (λ k. get_or covered k false ≡ false) (sym same) head))
          ];
    }

pub among_pushed : (covered : List Bool) (revs old new : List ℕ) (i rev : ℕ) → i < length revs → rev ≡ get_or revs i 0
    → rev < length covered → new ≡ old ++ rev ∷ [] → AreHeadsAmong covered (take i revs) old
    → AreHeadsAmong covered (take (i + 1) revs) new
among_pushed covered revs old new i rev within read low is held =
    among_more covered revs old new i rev within read
    (λ r has. subst (λ (l : List ℕ). Contains l r) (sym is) (Contains-append_left old (rev ∷ []) r has))
    (λ _. subst (λ (l : List ℕ). Contains l rev) (sym is) (Contains-push old rev))
    (subst (λ (l : List ℕ). All (λ r. r < length covered) l) (sym is)
    (All-push (λ r. r < length covered) old rev held.within low)) held

pub among_passed : (covered : List Bool) (revs old new : List ℕ) (i rev : ℕ) → i < length revs → rev ≡ get_or revs i 0
    → get_or covered rev false ≡ true → new ≡ old → AreHeadsAmong covered (take i revs) old
    → AreHeadsAmong covered (take (i + 1) revs) new
among_passed covered revs old new i rev within read so is held =
    subst (AreHeadsAmong covered (take (i + 1) revs)) (sym is)
    (among_more covered revs old old i rev within read (λ r has. has) (λ is_not. absurd (both_ways _ is_not so))
    held.within held)

pub among_all : (covered : List Bool) (revs heads : List ℕ) (i : ℕ) → length revs ≤ i
    → AreHeadsAmong covered (take i revs) heads → AreHeadsAmong covered revs heads
among_all covered revs heads i past held =
    subst (λ (rs : List ℕ). AreHeadsAmong covered rs heads) (take_all i revs past) held

-- it is said of the first k of some rows
pub record SettledTo {A : Type 0} (rows : List Changeset) (markers : List (Marker A)) (phases : List Phase) (n : ℕ)
    (heads revs : List ℕ) (k : ℕ) (old new : List Bool) : Type 0 where
  pub as_long : length new ≡ length old
  pub within : All (λ r. r < n) revs
  pub has : (r : ℕ) → Contains heads r → Contains revs r
  pub closed : (r : ℕ) → Contains (take k revs) r → HasParentsOf rows markers phases n r revs
  pub told : (r : ℕ) → Contains (take k revs) r
      → (get_or new r false ≡ false) ↔ IsHeadTo rows markers phases n r
  pub others : (r : ℕ) → (get_or new r false ≡ get_or old r false) ⊎ Contains (take k revs) r

module _ {A : Type 0} (rows : List Changeset) (markers : List (Marker A)) (phases : List Phase) (n : ℕ)
    (heads : List ℕ) (old : List Bool) where
  pub settled_none : All (λ r. r < n) heads → SettledTo rows markers phases n heads heads 0 old old
  settled_none within = record {
    as_long = refl;
    within = within;
    has = λ r has. has;
    closed = λ r has. absurd (omega (arith, has.1));
    told = λ r has. absurd (omega (arith, has.1));
    others = λ r. inl refl;
  }

  pub settled_one : (revs next : List ℕ) (k rev : ℕ) (now new : List Bool) → k < length revs
      → rev ≡ get_or revs k 0 → IsSettled rows markers phases n rev revs next now new
      → SettledTo rows markers phases n heads revs k old now
      → SettledTo rows markers phases n heads next (k + 1) old new
  settled_one revs next k rev now new low read is held =
      let taken : take (k + 1) next ≡ take k revs ++ rev ∷ [] =
      ap (take (k + 1)) is.is_more ∙ take-append-le (k + 1) revs is.more (omega (arith, low))
      ∙ take_more revs k 0 low ∙ ap (λ x. take k revs ++ x ∷ []) (sym read) in
      let stays = λ (r : ℕ) (has : Contains revs r).
      subst (λ (l : List ℕ). Contains l r) (sym is.is_more) (Contains-append_left revs is.more r has) in
      let cases = λ (r : ℕ) (has : Contains (take (k + 1) next) r).
      Contains-push_cases (take k revs) rev r (subst (λ (l : List ℕ). Contains l r) taken has) in
      record {
        as_long = is.as_long ∙ held.as_long;
        within = subst (λ (l : List ℕ). All (λ r. r < n) l) (sym is.is_more)
            (All-append (λ r. r < n) revs is.more held.within is.earlier);
        has = λ r has. stays r (held.has r has);
        closed = λ r has. elim (cases r has) [
          | inl before ↦ λ p hid parent.
              let on = held.closed r before p hid parent in (stays p on.0, on.1)
          | inr same ↦ subst (λ q. HasParentsOf rows markers phases n q next) same is.closed
        ];
        told = λ r has. elim (cases_eq r rev) [
          | inl e ↦ subst (λ q. (get_or new q false ≡ false) ↔ IsHeadTo rows markers phases n q) (sym e) is.told
          | inr ne ↦ elim (cases r has) [
            | inl before ↦ subst (λ b. (b ≡ false) ↔ IsHeadTo rows markers phases n r) (sym (is.others r ne))
                (held.told r before)
            | inr same ↦ absurd (ne (sym same))
          ]
        ];
        others = λ r. elim (cases_eq r rev) [
          | inl e ↦ inr (subst (λ (l : List ℕ). Contains l r) (sym taken)
              (subst (Contains (take k revs ++ rev ∷ [])) (sym e) (Contains-push (take k revs) rev)))
          | inr ne ↦ elim (held.others r) [
            | inl same ↦ inl (is.others r ne ∙ same)
            | inr has ↦ inr (subst (λ (l : List ℕ). Contains l r) (sym taken)
                (Contains-append_left (take k revs) (rev ∷ []) r has))
          ]
        ];
      }

  pub settled_all : (revs : List ℕ) (k : ℕ) (new : List Bool) → length revs ≤ k
      → SettledTo rows markers phases n heads revs k old new → AreSettled rows markers phases n heads old new
  settled_all revs k new past held =
      let all = take_all k revs past in
      let in_all = λ (r : ℕ) (has : Contains revs r). subst (λ (l : List ℕ). Contains l r) (sym all) has in
      record {
        as_long = held.as_long;
        revs = revs;
        has = held.has;
        closed = λ r has. held.closed r (in_all r has);
        told = λ r has. held.told r (in_all r has);
        others = λ r. elim (held.others r) [
          | inl same ↦ inl same
          | inr has ↦ inr (subst (λ (l : List ℕ). Contains l r) all has)
        ];
      }

-- ---- one row

-- no parents are added of a row that is not hidden
pub settled_shown : {A : Type 0} (rows : List Changeset) (markers : List (Marker A)) (phases : List Phase) (n r : ℕ)
    (revs : List ℕ) (old new : List Bool) (b : Bool) → r < length old → new ≡ set old r b
    → ¬ (IsHiddenTo rows markers phases n r) → (b ≡ false) ↔ IsHeadTo rows markers phases n r
    → IsSettled rows markers phases n r revs revs old new
settled_shown rows markers phases n r revs old new b low is shown head = record {
  as_long = ap length is ∙ length-set old r b;
  more = [];
  is_more = sym (append-nil revs);
  earlier = λ k d under. absurd (omega (arith, under));
  closed = λ p hid. absurd (shown hid);
  told = subst (λ (l : List Bool). (get_or l r false ≡ false) ↔ IsHeadTo rows markers phases n r) (sym is)
      (subst (λ c. (c ≡ false) ↔ IsHeadTo rows markers phases n r) (sym (get_or-set_same old r b false low)) head);
  others = λ k ne. ap (λ (l : List Bool). get_or l k false) is ∙ get_or-set_other old r k b false ne;
}

-- those of one that is are
pub settled_hidden : {A : Type 0} (rows : List Changeset) (markers : List (Marker A)) (phases : List Phase) (n r : ℕ)
    (revs next : List ℕ) (old new : List Bool) → r < length old → r ≤ n → new ≡ set old r true
    → IsHiddenTo rows markers phases n r → ArePushed rows r revs next
    → IsSettled rows markers phases n r revs next old new
settled_hidden rows markers phases n r revs next old new low within is hid pushed = record {
  as_long = ap length is ∙ length-set old r true;
  more = pushed.more;
  is_more = pushed.is_more;
  earlier = λ k d under. let early = pushed.earlier k d under in omega (arith, early, within);
  closed = λ p hidden parent.
      let has = pushed.has p parent in (
        subst (λ (l : List ℕ). Contains l p) (sym pushed.is_more) (Contains-append_right revs pushed.more p has.0),
        has.1,
      );
  told = subst (λ (l : List Bool). (get_or l r false ≡ false) ↔ IsHeadTo rows markers phases n r) (sym is)
      (subst (λ c. (c ≡ false) ↔ IsHeadTo rows markers phases n r) (sym (get_or-set_same old r true false low))
      (λ so. absurd (both_ways true so refl), λ head. absurd (head.shown hid)));
  others = λ k ne. ap (λ (l : List Bool). get_or l k false) is ∙ get_or-set_other old r k true false ne;
}

-- the first parent is added, and then the second
pub both_pushed : (rows : List Changeset) (r : ℕ) (old one two : List ℕ)
    → IsPushed rows r (parents_of rows r).0 old one → IsPushed rows r (parents_of rows r).1 one two
    → ArePushed rows r old two
both_pushed rows r old one two first second = record {
  more = first.more ++ second.more;
  is_more = second.is_more ∙ ap (λ (l : List ℕ). l ++ second.more) first.is_more
      ∙ append_assoc old first.more second.more;
  earlier = All-append (λ p. p < r) first.more second.more first.earlier second.earlier;
  has = λ p parent. elim parent [
    | inl at ↦ let it = first.has p at in (Contains-append_left first.more second.more p it.0, it.1)
    | inr at ↦ let it = second.has p at in (Contains-append_right first.more second.more p it.0, it.1)
  ];
}

pub none_pushed : (rows : List Changeset) (r : ℕ) (parent : Option ℕ) (revs : List ℕ) → parent ≡ None
    → IsPushed rows r parent revs revs
none_pushed rows r parent revs none = record {
  more = [];
  is_more = sym (append-nil revs);
  earlier = λ k d under. absurd (omega (arith, under));
  has = λ p at. absurd (let e = sym none ∙ at in cc);
}

pub one_pushed : (rows : List Changeset) (r p : ℕ) (parent : Option ℕ) (old new : List ℕ) → parent ≡ Some p → p < r
    → branch_at rows p ≡ branch_at rows r → new ≡ old ++ p ∷ [] → IsPushed rows r parent old new
one_pushed rows r p parent old new one low own is = record {
  more = p ∷ [];
  is_more = is;
  earlier = All-push (λ q. q < r) [] p (λ k d under. absurd (omega (arith, under))) low;
  has = λ q at.
      let same : p ≡ q = let e = sym one ∙ at in cc in
      (subst (Contains (p ∷ [])) same (Contains-push [] p), ap (branch_at rows) (sym same) ∙ own);
}
