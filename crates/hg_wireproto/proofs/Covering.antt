-- Which rows are no heads of their branches, with one row more, and with all.
use Rattle.std.proofs.Common.{◌≡◌, ◌↔◌, ◌⊎◌, ℕ, ◌+◌, ◌<◌, ◌≤◌, Bool, false, List, [], ◌∷◌, ◌++◌, length, get_or, take}
use Rattle.std.proofs.Common.{refl, sym, ap, ◌∙◌, subst, inl, inr, arith}
use Rattle.std.proofs.lemmas.Bool.{cases_eq}
use Rattle.std.proofs.lemmas.List.{length-take-le, length_push}
use Rattle.std.proofs.lemmas.Option.{slice_get-get_or, slice_get_within}
use Rattle.hg_log.specs.Changeset.{Changeset}
use Rattle.hg_log.specs.Parents.{parents_of, IsParentIn, Leads}
use Rattle.hg_log.specs.Parents.Leads.{itself, of_parent}
use Rattle.hg_log.specs.Rows.{AreLawful}
use Rattle.hg_log.proofs.CallerLemmas.{ancestor_leads, leads_ancestor, leads_same, not_later, ordered, parents_kept}
use Rattle.hg_types.specs.declared.phase.Phase.{Phase}
use Rattle.hg_obs.specs.declared.marker.Marker.{Marker}
use Rattle.hg_wireproto.specs.Branch.{branch_of}
use Rattle.hg_wireproto.specs.BranchMap.{IsBranchHead, IsOfBranch}
use Rattle.hg_wireproto.specs.Hidden.{IsHidden, IsObsolete}
use Rattle.hg_wireproto.specs.code.Branches.{branch_at, text_of}
use Rattle.hg_wireproto.specs.code.Covered.{AreCovered, AreCoveredTo, IsHeadTo, IsHiddenTo, IsOwnParent, IsPlain}
use Rattle.hg_wireproto.proofs.Coming.{slice_get_taken}
use Rattle.hg_wireproto.proofs.Gathering.{ancestor_within}
use Rattle.hg_wireproto.proofs.Hiding.{pushed_before, pushed_here}

-- ---- one row more

-- what leads to a row is the row, or leads to a parent of it
pub back : (rows : List Changeset) (a r : ℕ) → Leads (parents_of rows) a r
    → (a ≡ r) ⊎ ((p : ℕ) × IsParentIn (parents_of rows) p r × Leads (parents_of rows) a p)
back rows a r itself = inl refl
back rows a r (of_parent p q is more) = inr (p, is, more)

module _ {A : Type 0} (rows : List Changeset) (markers : List (Marker A)) (phases : List Phase)
    (n : ℕ) (lawful : AreLawful rows)
    (covered : List Bool) (plain : IsPlain rows markers phases covered n)
    (told : AreCoveredTo rows markers phases n covered) where
  hidden_fewer : (r : ℕ) → IsHiddenTo rows markers phases (n + 1) r → IsHiddenTo rows markers phases n r
  hidden_fewer r hid d low leads = hid d (omega (arith, low)) leads

  -- a row before it is hidden with it where it is without it
  hidden_more : (r : ℕ) → r < n → IsHiddenTo rows markers phases n r → IsHiddenTo rows markers phases (n + 1) r
  hidden_more r before hid d low leads = elim (cases_eq d n) [
    | inl e ↦ elim (back rows r n (subst (λ k. Leads (parents_of rows) r k) e leads)) [
      | inl same ↦ absurd (omega (arith, before, same))
      | inr through ↦ absurd (plain.parents_kept through.0 through.1
          (hid through.0 (ordered rows lawful through.0 n through.1) through.2))
    ]
    | inr ne ↦ hid d (omega (arith, low, ne)) leads
  ]

  shown_parent : (p : ℕ) → IsParentIn (parents_of rows) p n → ¬ (IsHiddenTo rows markers phases n p)
  shown_parent p is hid = plain.parents_kept p is (hid p (ordered rows lawful p n is) itself)

  shown_here : ¬ (IsHiddenTo rows markers phases (n + 1) n)
  shown_here hid = plain.kept (hid n (omega arith) itself)

  head_here : IsHeadTo rows markers phases (n + 1) n
  head_here = record {
    shown = shown_here;
    last = λ d low same shown leads.
        let later = not_later (parents_of rows) (ordered rows lawful) n d leads in omega (arith, low, later);
  }

  -- a head stays one, unless it is a parent of the same branch
  head_stays : (r : ℕ) → r < n → IsHeadTo rows markers phases n r → ¬ (IsOwnParent rows r n)
      → IsHeadTo rows markers phases (n + 1) r
  head_stays r before head apart = record {
    shown = λ hid. head.shown (hidden_fewer r hid);
    last = λ d low same shown leads. elim (cases_eq d n) [
      | inl e ↦
          let named : branch_at rows r ≡ branch_at rows n = sym same ∙ ap (branch_at rows) e in
          elim (back rows r n (subst (λ k. Leads (parents_of rows) r k) e leads)) [
            | inl is_here ↦ absurd (omega (arith, before, is_here))
            | inr through ↦
                let p = through.0 in
                let early = ordered rows lawful p n through.1 in
                absurd (elim (plain.reached p r through.1 before ((told.each r before).1 head) named) [
                  | inl own ↦
                      let is : p ≡ r = head.last p early (own ∙ sym named) (shown_parent p through.1) through.2 in
                      apart (subst (λ q. IsParentIn (parents_of rows) q n) is through.1, named)
                  | inr parent ↦ apart (parent, named)
                ])
          ]
      | inr ne ↦
          let low2 : d < n = omega (arith, low, ne) in
          head.last d low2 same (λ hid. shown (hidden_more d low2 hid)) leads
    ];
  }

  head_was : (r : ℕ) → r < n → IsHeadTo rows markers phases (n + 1) r
      → IsHeadTo rows markers phases n r × ¬ (IsOwnParent rows r n)
  head_was r before head = (
    record {
      shown = λ hid. head.shown (hidden_more r before hid);
      last = λ d low same shown leads.
          head.last d (omega (arith, low)) same (λ hid. shown (hidden_fewer d hid)) leads;
    },
    λ own. let is = head.last n (omega arith) (sym own.1) shown_here (of_parent r n own.0 itself) in
        omega (arith, is, before),
  )

  covered_more : (next : List Bool) → length next ≡ n + 1 → get_or next n false ≡ false
      → ((r : ℕ) → r < n → (get_or next r false ≡ false)
      ↔ ((get_or covered r false ≡ false) × ¬ (IsOwnParent rows r n)))
      → AreCoveredTo rows markers phases (n + 1) next
  covered_more next long here before = record {
    as_long = long;
    each = λ r low. elim (cases_eq r n) [
      | inl e ↦ (
        λ is. subst (λ k. IsHeadTo rows markers phases (n + 1) k) (sym e) head_here,
        λ head. ap (λ k. get_or next k false) e ∙ here,
      )
      | inr ne ↦
          let low2 : r < n = omega (arith, low, ne) in (
            λ is. let parts = (before r low2).0 is in
                head_stays r low2 ((told.each r low2).0 parts.0) parts.1,
            λ head. let parts = head_was r low2 head in
                (before r low2).1 ((told.each r low2).1 parts.0, parts.1),
          )
    ];
  }

  pub covered_pushed : (two next : List Bool) → length two ≡ length covered → next ≡ two ++ false ∷ []
      → ((r : ℕ) → (get_or two r false ≡ false) ↔ ((get_or covered r false ≡ false) × ¬ (IsOwnParent rows r n)))
      → AreCoveredTo rows markers phases (n + 1) next
  covered_pushed two next long pushed each =
      let size : length two ≡ n = long ∙ told.as_long in
      covered_more next (omega (arith, ap length pushed, length_push two false, size))
      (ap (λ (bs : List Bool). get_or bs n false) pushed
      ∙ ap (λ k. get_or (two ++ false ∷ []) k false) (sym size) ∙ pushed_here two false false)
      (λ r low.
      subst (λ b. (b ≡ false) ↔ ((get_or covered r false ≡ false) × ¬ (IsOwnParent rows r n)))
      (sym (ap (λ (bs : List Bool). get_or bs r false) pushed
      ∙ pushed_before two false false r (omega (arith, low, size)))) (each r))

-- ---- all rows

-- the branch of a row, by its text
pub branch_is : {A : Type 0} (rows : List Changeset) (markers : List (Marker A)) (phases : List Phase)
    (name : List ℕ) (r : ℕ)
    → IsOfBranch rows markers phases name r → (r < length rows) × (branch_at rows r ≡ name)
branch_is rows markers phases name r of = (
  slice_get_within rows r of.has_text.row of.has_text.row_at,
  ap (λ o. branch_of (text_of o)) of.has_text.row_at ∙ ap branch_of of.has_text.text_is ∙ of.named,
)

pub is_of : {A : Type 0} (rows : List Changeset) (markers : List (Marker A)) (phases : List Phase)
    (name : List ℕ) (r : ℕ)
    → r < length rows → branch_at rows r ≡ name → ¬ (IsHidden rows markers phases r)
    → IsOfBranch rows markers phases name r
is_of rows markers phases name r within named shown =
    let none : Changeset = record { node = []; p1 = []; p2 = []; text = [] } in
    let at = slice_get-get_or rows r none within in
    record {
      text = (get_or rows r none).text;
      has_text = record { row = get_or rows r none; row_at = at; text_is = refl };
      named = ap (λ o. branch_of (text_of o)) (sym at) ∙ named;
      shown = shown;
    }

module _ {A : Type 0} (rows : List Changeset) (markers : List (Marker A)) (phases : List Phase)
    (lawful : AreLawful rows) where
  hidden_whole : (r : ℕ) → IsHiddenTo rows markers phases (length rows) r → IsHidden rows markers phases r
  hidden_whole r hid d is = hid d (ancestor_within rows r d is) (ancestor_leads rows lawful r d is)

  whole_hidden : (r : ℕ) → IsHidden rows markers phases r → IsHiddenTo rows markers phases (length rows) r
  whole_hidden r hid d low leads = hid d (leads_ancestor rows lawful r d low leads)

  head_whole : (r : ℕ) → r < length rows → IsHeadTo rows markers phases (length rows) r
      → IsBranchHead rows markers phases (branch_at rows r) r
  head_whole r within head = record {
    of_branch = is_of rows markers phases (branch_at rows r) r within refl (λ hid. head.shown (whole_hidden r hid));
    last = λ d of leads.
        let at = branch_is rows markers phases (branch_at rows r) d of in
        head.last d at.0 at.1 (λ hid. of.shown (hidden_whole d hid)) (ancestor_leads rows lawful r d leads);
  }

  whole_head : (r : ℕ) → IsBranchHead rows markers phases (branch_at rows r) r
      → IsHeadTo rows markers phases (length rows) r
  whole_head r head = record {
    shown = λ hid. head.of_branch.shown (hidden_whole r hid);
    last = λ d low same shown leads.
        head.last d (is_of rows markers phases (branch_at rows r) d low same (λ hid. shown (whole_hidden d hid)))
        (leads_ancestor rows lawful r d low leads);
  }

  pub covered_whole : (covered : List Bool) → AreCoveredTo rows markers phases (length rows) covered
      → AreCovered rows markers phases covered
  covered_whole covered told = record {
    as_long = told.as_long;
    each = λ r low. (
      λ is. head_whole r low ((told.each r low).0 is),
      λ head. (told.each r low).1 (whole_head r head),
    );
  }

  whole_covered : (covered : List Bool) → AreCovered rows markers phases covered
      → AreCoveredTo rows markers phases (length rows) covered
  whole_covered covered told = record {
    as_long = told.as_long;
    each = λ r low. (
      λ is. whole_head r ((told.each r low).0 is),
      λ head. (told.each r low).1 (head_whole r low head),
    );
  }

-- ---- the first rows among all

-- all of the first n rows that descend from that one are said to be obsolete
abbrev pub HiddenBy : (ℕ → Type 0) → List Changeset → ℕ → ℕ → Type 0
HiddenBy obsolete rows n r = (d : ℕ) → d < n → Leads (parents_of rows) r d → obsolete d

-- the row is a head of its branch, where it is said of each row whether it is obsolete
pub record HeadBy (obsolete : ℕ → Type 0) (rows : List Changeset) (n r : ℕ) : Type 0 where
  pub shown : ¬ (HiddenBy obsolete rows n r)
  pub last : (d : ℕ) → d < n → branch_at rows d ≡ branch_at rows r → ¬ (HiddenBy obsolete rows n d)
      → Leads (parents_of rows) r d → d ≡ r

-- a head is one by other rows that have the same parents and branches
head_by : (obsolete : ℕ → Type 0) (rows others : List Changeset) (n : ℕ)
    → ((a d : ℕ) → d < n → Leads (parents_of rows) a d ↔ Leads (parents_of others) a d)
    → ((d : ℕ) → d < n → branch_at rows d ≡ branch_at others d)
    → (r : ℕ) → r < n → HeadBy obsolete rows n r → HeadBy obsolete others n r
head_by obsolete rows others n leads named r low head = record {
  shown = λ hid. head.shown (λ d under to. hid d under ((leads r d under).0 to));
  last = λ d under same shown to.
      head.last d under (named d under ∙ same ∙ sym (named r low))
      (λ hid. shown (λ e below on. hid e below ((leads d e below).1 on))) ((leads r d under).1 to);
}

-- what is said of a view of the first rows, by all rows
pub covered_was : {A : Type 0} (rows few : List Changeset) (known : List (Marker A)) (was : List Phase)
    (n : ℕ) (covered : List Bool) → AreLawful rows → AreLawful few → n ≤ length rows → few ≡ take n rows
    → AreCovered few known was covered
    → (length covered ≡ n) × ((r : ℕ) → r < n
    → (get_or covered r false ≡ false) ↔ HeadBy (IsObsolete few known was) rows n r)
covered_was {A} rows few known was n covered lawful lawful_few within few_is told =
    let long : length few ≡ n = ap length few_is ∙ length-take-le n rows within in
    let parents : (r : ℕ) → r < n → parents_of few r ≡ parents_of rows r =
    λ r low. ap (λ rs. parents_of rs r) few_is ∙ parents_kept rows n r within lawful low in
    let leads : (a d : ℕ) → d < n → Leads (parents_of few) a d ↔ Leads (parents_of rows) a d =
    λ a d low. (
      leads_same (parents_of few) (parents_of rows) n (ordered few lawful_few) parents a d low,
      leads_same (parents_of rows) (parents_of few) n (ordered rows lawful) (λ r under. sym (parents r under)) a d low,
    ) in
    let named : (d : ℕ) → d < n → branch_at few d ≡ branch_at rows d =
    λ d low. ap (λ rs. branch_at rs d) few_is ∙ ap (λ o. branch_of (text_of o)) (slice_get_taken rows n d low) in
    let first =
    subst (λ m. AreCoveredTo few known was m covered) long (whole_covered few known was lawful_few covered told) in (
      told.as_long ∙ long,
      λ r low. (
        λ is. let head = (first.each r low).0 is in
            head_by (IsObsolete few known was) few rows n leads named r low
            (record { shown = head.shown; last = head.last }),
        λ head.
            let back = head_by (IsObsolete few known was) rows few n
            (λ a d under. ((leads a d under).1, (leads a d under).0)) (λ d under. sym (named d under)) r low head in
            (first.each r low).1 (record { shown = back.shown; last = back.last }),
      ),
    )
