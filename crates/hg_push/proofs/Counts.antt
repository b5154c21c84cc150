-- The items of a push that is complete: one more than its parts.
use Rattle.std.proofs.Common.{ℕ, Bool, true, false, ◌≡◌, ◌≢◌, ◌+◌, ◌||◌, List, [], ◌∷◌, ◌++◌, refl, sym}
use Rattle.std.proofs.Common.{ap, ◌∙◌, subst, inl, inr, arith, length, length-append, get_or}
use Rattle.std.specs.List.{Contains}
use Rattle.std.proofs.lemmas.List.{get_or_append_left, get_or_at}
use Rattle.std.proofs.lemmas.Bool.{cases_lt}
use Rattle.std.proofs.lemmas.List.Folds.{list_any_at}
use Rattle.hg_parts.specs.declared.item.CutReason.{CutReason}
use Rattle.hg_parts.specs.declared.item.Item.{Item}
use Rattle.hg_parts.specs.declared.item.What.{What}
use Rattle.hg_parts.specs.declared.item.What.TheVariants.{Part as a_part, End, Cut}
use Rattle.hg_types.specs.declared.part.Part.{Part}
use Rattle.hg_push.specs.Complete.{IsComplete}
use Rattle.hg_push.specs.History.{is_mark, part_in}
use Rattle.hg_push.specs.World.{all_parts, has_mark}

split : (a b : Bool) → (a || b) ≡ false → (a ≡ false) × (b ≡ false)
split false b none = (refl, none)
split true b none = cc

one_part : {A : Type 0} (what : What A) → is_mark what ≡ false → length (part_in what) ≡ 1
one_part (a_part part) none = refl
one_part End none = cc
one_part (Cut reason) none = cc

-- items without a mark are as many as their parts
as_many : {A : Type 0} (items : List (Item A)) → has_mark items ≡ false
    → length (all_parts items) ≡ length items
as_many [] none = refl
as_many (item ∷ items) none =
    let both = split (is_mark item.what) (has_mark items) none in
    let rest : length (all_parts items) ≡ length items = as_many items both.1 in
    let here : length (part_in item.what) ≡ 1 = one_part item.what both.0 in
    let all = length-append (part_in item.what) (all_parts items) in omega arith

parts_then : {A : Type 0} (front : List (Item A)) (mark : Item A) → mark.what ≡ End
    → length (all_parts (front ++ mark ∷ [])) ≡ length (all_parts front)
parts_then [] mark is = ap (λ what. length (part_in what ++ [])) is
parts_then (item ∷ front) mark is =
    let rest = parts_then front mark is in
    let one = length-append (part_in item.what) (all_parts (front ++ mark ∷ [])) in
    let other = length-append (part_in item.what) (all_parts front) in omega arith

pub one_more : {A : Type 0} (items : List (Item A)) (ran : List (Part A)) → IsComplete items ran
    → length items ≡ length ran + 1
one_more items ran complete =
    let ends = complete.mark in
    let all = length-append ends.front (ends.mark ∷ []) in
    let own = as_many ends.front ends.parts_alone in
    let parts : length ran ≡ length (all_parts ends.front) =
    ap length complete.parts ∙ ap (λ them. length (all_parts them)) ends.spelled
    ∙ parts_then ends.front ends.mark ends.is_end in
    let them = ap length ends.spelled in omega arith

abbrev is_cut : {A : Type 0} → What A → Bool
is_cut (Cut reason) = true
is_cut what = false

cut_mark : {A : Type 0} (what : What A) (reason : CutReason) → what ≡ Cut reason → is_mark what ≡ true
cut_mark what reason is = ap is_mark is

pub none_is_cut : {A : Type 0} (items : List (Item A)) (ran : List (Part A)) (item : Item A)
    (reason : CutReason) → IsComplete items ran → Contains items item → item.what ≢ Cut reason
none_is_cut {A} items ran item reason complete (k, low, is) cut =
    let ends = complete.mark in
    let here : get_or (ends.front ++ ends.mark ∷ []) k item ≡ item =
    subst (λ (them : List (Item A)). get_or them k item ≡ item) ends.spelled is in
    let all = length-append ends.front (ends.mark ∷ []) in
    let them = ap length ends.spelled in
    elim (cases_lt k (length ends.front)) [
      | inl less ↦
          let own : get_or ends.front k item ≡ item =
          sym (get_or_append_left ends.front (ends.mark ∷ []) item k less) ∙ here in
          let marked : has_mark ends.front ≡ true =
          list_any_at (λ (i : Item A). is_mark i.what) ends.front k item less
          (ap (λ (i : Item A). is_mark i.what) own ∙ cut_mark item.what reason cut) in
          let none = ends.parts_alone in cc
      | inr past ↦
          let last : k ≡ length ends.front = omega arith in
          let own : ends.mark ≡ item =
          sym (get_or_at ends.front ends.mark [] item (length ends.front) refl)
          ∙ subst (λ (n : ℕ). get_or (ends.front ++ ends.mark ∷ []) n item ≡ item) last here in
          let ended : is_cut item.what ≡ false =
          ap (λ (i : Item A). is_cut i.what) (sym own) ∙ ap is_cut ends.is_end in
          let other : is_cut item.what ≡ true = ap is_cut cut in cc
    ]
