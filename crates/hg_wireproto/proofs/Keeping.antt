-- Which changesets are not obsolete, by a number for each, and a list of those that are.
use Rattle.std.proofs.Common.{◌≡◌, ◌≢◌, ℕ, ◌+◌, ◌<◌, ◌≤◌, List, [], ◌∷◌, ◌++◌, length, get_or, set, take}
use Rattle.std.proofs.Common.{refl, sym, ap, ◌∙◌, subst, inl, inr, arith}
use Rattle.std.specs.Prelude.{All, Contains}
use Rattle.std.specs.Int.{bit_at}
use Rattle.std.proofs.lemmas.Bool.{cases_eq}
use Rattle.std.proofs.lemmas.List.{get_or-set_other, get_or-set_same, length-set, length_push, take_all, take_more}
use Rattle.std.proofs.lemmas.List.Elements.{Contains-append_left, Contains-push, Contains-push_cases}
use Rattle.hg_wireproto.specs.code.Kept.{AreListedZeros, AreSaid, IsListedZero}
use Rattle.hg_wireproto.proofs.Hiding.{pushed_before}

-- ---- what is said of some

pub none_said : (value : ℕ) (old : List ℕ) → AreSaid value [] old old
none_said value old = record {
  as_long = refl;
  listed = λ r has. absurd (omega (arith, has.1));
  others = λ r. inl refl;
}

-- of one more
pub one_said : (value : ℕ) (revs old now next : List ℕ) (i rev : ℕ) → i < length revs → rev ≡ get_or revs i 0
    → rev < length now → next ≡ set now rev value → AreSaid value (take i revs) old now
    → AreSaid value (take (i + 1) revs) old next
one_said value revs old now next i rev within read low is held =
    let more : take (i + 1) revs ≡ take i revs ++ rev ∷ [] =
    take_more revs i 0 within ∙ ap (λ x. take i revs ++ x ∷ []) (sym read) in
    let here : get_or next rev 0 ≡ value =
    ap (λ (l : List ℕ). get_or l rev 0) is ∙ get_or-set_same now rev value 0 low in
    let there : (r : ℕ) → r ≢ rev → get_or next r 0 ≡ get_or now r 0 =
    λ r ne. ap (λ (l : List ℕ). get_or l r 0) is ∙ get_or-set_other now rev r value 0 ne in
    record {
      as_long = ap length is ∙ length-set now rev value ∙ held.as_long;
      listed = λ r has. elim (cases_eq r rev) [
        | inl e ↦ ap (λ k. get_or next k 0) e ∙ here
        | inr ne ↦ elim (Contains-push_cases (take i revs) rev r (subst (λ (l : List ℕ). Contains l r) more has)) [
          | inl before ↦ there r ne ∙ held.listed r before
          | inr same ↦ absurd (ne (sym same))
        ]
      ];
      others = λ r. elim (cases_eq r rev) [
        | inl e ↦ inr (subst (λ (l : List ℕ). Contains l r) (sym more)
            (subst (Contains (take i revs ++ rev ∷ [])) (sym e) (Contains-push (take i revs) rev)))
        | inr ne ↦ elim (held.others r) [
          | inl same ↦ inl (there r ne ∙ same)
          | inr has ↦ inr (subst (λ (l : List ℕ). Contains l r) (sym more)
              (Contains-append_left (take i revs) (rev ∷ []) r has))
        ]
      ];
    }

pub all_said : (value : ℕ) (revs old new : List ℕ) (i : ℕ) → length revs ≤ i → AreSaid value (take i revs) old new
    → AreSaid value revs old new
all_said value revs old new i past held =
    subst (λ (rs : List ℕ). AreSaid value rs old new) (take_all i revs past) held

-- ---- those that are listed

-- one that is listed becomes obsolete
pub listed_zero : (now next revs : List ℕ) (rev : ℕ) → rev < length now → next ≡ set now rev 0 → Contains revs rev
    → AreListedZeros now revs → AreListedZeros next revs
listed_zero now next revs rev low is has held =
    let long : length next ≡ length now = ap length is ∙ length-set now rev 0 in
    record {
      within = λ k d under. omega (arith, held.within k d under, long);
      each = λ r under zero. elim (cases_eq r rev) [
        | inl e ↦ subst (Contains revs) (sym e) has
        | inr ne ↦ held.each r (omega (arith, under, long))
            (ap (λ (s : ℕ). bit_at s 0)
            (sym (ap (λ (l : List ℕ). get_or l r 0) is ∙ get_or-set_other now rev r 0 0 ne)) ∙ zero)
      ];
    }

-- one is not obsolete any more
pub listed_one : (now next revs : List ℕ) (rev : ℕ) → rev < length now → next ≡ set now rev 1
    → AreListedZeros now revs → AreListedZeros next revs
listed_one now next revs rev low is held =
    let long : length next ≡ length now = ap length is ∙ length-set now rev 1 in
    record {
      within = λ k d under. omega (arith, held.within k d under, long);
      each = λ r under zero. elim (cases_eq r rev) [
        | inl e ↦ absurd (omega (
          arith,
          ap (λ (s : ℕ). bit_at s 0) (ap (λ k. get_or next k 0) e
              ∙ ap (λ (l : List ℕ). get_or l rev 0) is ∙ get_or-set_same now rev 1 0 low),
          zero,
        ))
        | inr ne ↦ held.each r (omega (arith, under, long))
            (ap (λ (s : ℕ). bit_at s 0)
            (sym (ap (λ (l : List ℕ). get_or l r 0) is ∙ get_or-set_other now rev r 1 0 ne)) ∙ zero)
      ];
    }

-- one more comes
pub listed_more : (old next revs more : List ℕ) (one rev : ℕ) → rev ≡ length old → next ≡ old ++ one ∷ []
    → IsListedZero next rev revs more → AreListedZeros old revs → AreListedZeros next more
listed_more old next revs more one rev last is now held =
    let long : length next ≡ length old + 1 = ap length is ∙ length_push old one in
    record {
      within = now.within (λ k d under. omega (arith, held.within k d under, long));
      each = λ r under zero. elim (cases_eq r rev) [
        | inl e ↦ subst (Contains more) (sym e) (now.listed (ap (λ k. bit_at (get_or next k 0) 0) (sym e) ∙ zero))
        | inr ne ↦
            let low : r < length old = omega (arith, under, long, ne, last) in
            now.stays r (held.each r low (ap (λ (s : ℕ). bit_at s 0) (sym (ap (λ (l : List ℕ). get_or l r 0) is
            ∙ pushed_before old one 0 r low)) ∙ zero))
      ];
    }

-- ---- those among them that are still obsolete

pub record AreLeft (sets revs left : List ℕ) : Type 0 where
  pub within : All (λ r. r < length sets) left
  pub each : (r : ℕ) → Contains revs r → bit_at (get_or sets r 0) 0 ≡ 0 → Contains left r

pub none_left : (sets : List ℕ) → AreLeft sets [] []
none_left sets = record {
  within = λ k d low. absurd (omega (arith, low));
  each = λ r has zero. absurd (omega (arith, has.1));
}

pub one_left : (sets revs old new : List ℕ) (i rev : ℕ) → i < length revs → rev ≡ get_or revs i 0
    → IsListedZero sets rev old new → AreLeft sets (take i revs) old → AreLeft sets (take (i + 1) revs) new
one_left sets revs old new i rev within read now held =
    let more : take (i + 1) revs ≡ take i revs ++ rev ∷ [] =
    take_more revs i 0 within ∙ ap (λ x. take i revs ++ x ∷ []) (sym read) in
    record {
      within = now.within held.within;
      each = λ r has zero.
          let there = subst (λ (l : List ℕ). Contains l r) more has in
          elim (Contains-push_cases (take i revs) rev r there) [
            | inl before ↦ now.stays r (held.each r before zero)
            | inr same ↦ subst (Contains new) same (now.listed (ap (λ k. bit_at (get_or sets k 0) 0) same ∙ zero))
          ];
    }

pub all_left : (sets revs left : List ℕ) (i : ℕ) → length revs ≤ i → AreLeft sets (take i revs) left
    → AreListedZeros sets revs → AreListedZeros sets left
all_left sets revs left i past held listed =
    let all = subst (λ (rs : List ℕ). AreLeft sets rs left) (take_all i revs past) held in
    record {
      within = all.within;
      each = λ r low zero. all.each r (listed.each r low zero) zero;
    }
