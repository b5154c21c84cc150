-- A list has each head once just where it is as long as that of the heads, no id stands in it twice, and each
-- is a head's.
use Rattle.std.proofs.Common.{◌≡◌, ◌≢◌, ℕ, ◌<◌, ◌≤◌, Bool, true, false, List, [], ◌∷◌, length, Option}
use Rattle.std.proofs.Common.{Some}
use Rattle.std.proofs.Common.{None, refl, sym, ap, ◌∙◌, subst, inl, inr, arith, AllPairs, Contains, bytes_eq}
use Rattle.std.proofs.Common.{map, get_or, ◌||◌}
use Rattle.std.specs.Prelude.{nat_lt}
use Rattle.std.specs.List.{IsDistinct, AllByRecursion}
use Rattle.std.specs.Set.{is_member}
use Rattle.std.specs.Cmp.{IsEquivalence, both_ways}
use Rattle.std.proofs.lemmas.Bool.{or_cases, and_from, and_parts, lt-ltb, true≢false}
use Rattle.std.proofs.lemmas.Map.Made.{is_member-Decides, length-le_from_is_member, IsDistinct-from_AllPairs}
use Rattle.std.proofs.lemmas.Slice.Eq.{bytes_eq-Decides}
use Rattle.hg_types.specs.NullId.{null_id}
use Rattle.hg_log.specs.Changeset.{Changeset}
use Rattle.hg_log.specs.Rows.{AreLawful}
use Rattle.hg_log.specs.Parents.{rev_of}
use Rattle.hg_log.specs.Heads.{IsHead}
use Rattle.hg_log.specs.HeadCount.{head_revs, head_count, head_ids, id_at, is_head_at, is_head_id}
use Rattle.hg_log.specs.HeadCount.{is_childless, AreSameIds}
use Rattle.hg_log.proofs.RowLemmas.{has_within, unnamed, no_parent}
use Rattle.hg_log.proofs.ParentLemmas.{rev_found, found_row}
use Rattle.hg_log.proofs.HeadCounts.{free, freed}
use Rattle.hg_log.proofs.HeadValues.{id_head, head_id, ids_distinct, ids_shown, count_value}
use Rattle.hg_log.proofs.SameIds.{same_ids, same_members, same_distinct}

-- ---- lists of ids

turned : (a b : List ℕ) → bytes_eq a b ≡ bytes_eq b a
turned a b = both_ways (bytes_eq a b) (bytes_eq b a)
    (λ is. (bytes_eq-Decides b a).1 (sym ((bytes_eq-Decides a b).0 is)))
    (λ is. (bytes_eq-Decides a b).1 (sym ((bytes_eq-Decides b a).0 is)))

equal_ids : IsEquivalence bytes_eq
equal_ids = record {
  refl = λ x. (bytes_eq-Decides x x).1 refl;
  symm = turned;
  congr = λ x y z e. ap (λ w. bytes_eq w z) ((bytes_eq-Decides x y).0 e);
}

module _ (id other : List ℕ) (ids : List (List ℕ)) where
  apart_more : (v : Bool) → bytes_eq id other ≡ v → (v || is_member bytes_eq ids id) ≡ false
      → (is_member bytes_eq ids id ≡ false → AllByRecursion (λ y. bytes_eq id y ≡ false) ids)
      → AllByRecursion (λ y. bytes_eq id y ≡ false) (other ∷ ids)
  apart_more true is none rest = absurd (true≢false none)
  apart_more false is none rest = (is, rest none)

apart : (id : List ℕ) (ids : List (List ℕ)) → is_member bytes_eq ids id ≡ false
    → AllByRecursion (λ y. bytes_eq id y ≡ false) ids
apart id [] none = tt
apart id (other ∷ ids) none = apart_more id other ids (bytes_eq id other) refl none (apart id ids)

-- distinct ids that are all among others, and as many, are all of them
module _ (ids others : List (List ℕ)) (distinct : IsDistinct bytes_eq ids) where
  module _ (among : (q : List ℕ) → is_member bytes_eq ids q ≡ true → is_member bytes_eq others q ≡ true) where
    no_more : (id : List ℕ) → is_member bytes_eq others id ≡ true → is_member bytes_eq ids id ≡ false
        → length ids < length others
    unfolding IsDistinct
    no_more id is none =
        let each = λ (q : List ℕ) (found : is_member bytes_eq (id ∷ ids) q ≡ true).
        let here : is_member bytes_eq others q ≡ true = elim (or_cases (bytes_eq q id) _ found) [
          | inl e ↦ subst (λ x. is_member bytes_eq others x ≡ true) (sym ((bytes_eq-Decides q id).0 e)) is
          | inr e ↦ among q e
        ] in here in
        let most : length (id ∷ ids) ≤ length others = length-le_from_is_member equal_ids (id ∷ ids) others
        (apart id ids none, distinct) each in
        omega (arith, most)

    all_there : length others ≤ length ids → (id : List ℕ) → is_member bytes_eq others id ≡ true
        → is_member bytes_eq ids id ≡ true
    all_there few id is = by (is_member bytes_eq ids id) refl
      where
        by : (v : Bool) → is_member bytes_eq ids id ≡ v → is_member bytes_eq ids id ≡ true
        by true here = here
        by false here = absurd (omega (arith, few, no_more id is here))

not_longer : (ids others : List (List ℕ)) → AllPairs (λ a b. a ≢ b) ids
    → ((id : List ℕ) → Contains ids id → Contains others id) → length ids ≤ length others
not_longer ids others distinct there =
    length-le_from_is_member equal_ids ids others (IsDistinct-from_AllPairs bytes_eq-Decides ids distinct)
    (λ q is. (is_member-Decides bytes_eq-Decides others q).1
    (there q ((is_member-Decides bytes_eq-Decides ids q).0 is)))

-- ---- the list of the heads

none_listed : (id : List ℕ) → bytes_eq id null_id ≡ true → Contains (head_ids []) id
unfolding head_ids head_revs
none_listed id is = (0, omega arith, sym ((bytes_eq-Decides id null_id).0 is))

listed_none : (id : List ℕ) → Contains (head_ids []) id → bytes_eq id null_id ≡ true
unfolding head_ids head_revs
listed_none id found =
    let first : found.0 ≡ 0 = omega (arith, found.1) in
    (bytes_eq-Decides id null_id).1 (sym found.2 ∙ ap (λ k. get_or (null_id ∷ []) k id) first)

none_differ : AllPairs (λ a b. a ≢ b) (head_ids [])
unfolding head_ids head_revs
none_differ i j d less within same = absurd (omega (arith, less, within))

module _ (row : Changeset) (others : List Changeset) (lawful : AreLawful (row ∷ others)) where
  abbrev rows : List Changeset
  rows = row ∷ others

  shown : head_ids rows ≡ map (id_at rows) (head_revs rows)
  shown = ids_shown rows lawful (omega arith)

  head_at : (id : List ℕ) (o : Option ℕ) → rev_of rows id ≡ o → is_head_at rows o ≡ true → IsHead rows id
  head_at id None at is = absurd (true≢false (sym is))
  head_at id (Some r) at is =
      let both = and_parts (nat_lt r (length rows)) (is_childless rows r) is in
      let has = found_row rows r id at in
      record { rev = r; has = has; childless = unnamed rows r id has (free rows lawful r both.1) }

  some_listed : (id : List ℕ) → is_head_id rows id ≡ true → Contains (head_ids rows) id
  some_listed id is = subst (λ ids. Contains ids id) (sym shown)
      (head_id rows lawful id (head_at id (rev_of rows id) refl is))

  listed_some : (id : List ℕ) → Contains (head_ids rows) id → is_head_id rows id ≡ true
  listed_some id found =
      let head = id_head rows lawful id (subst (λ ids. Contains ids id) shown found) in
      ap (is_head_at rows) (rev_found rows head.rev id lawful head.has)
      ∙ and_from (nat_lt head.rev (length rows)) (is_childless rows head.rev)
      (lt-ltb head.rev (length rows) (has_within rows head.rev id head.has))
      (freed rows lawful head.rev (no_parent rows head.rev id head.has head.childless))

  some_differ : AllPairs (λ a b. a ≢ b) (head_ids rows)
  some_differ = subst (AllPairs (λ a b. a ≢ b)) (sym shown) (ids_distinct rows lawful)

-- an id is in the list of the heads just where it is a head's
pub listed : (rows : List Changeset) → AreLawful rows → (id : List ℕ) → is_head_id rows id ≡ true
    → Contains (head_ids rows) id
listed [] lawful id is = none_listed id is
listed (row ∷ rows) lawful id is = some_listed row rows lawful id is

pub from_listed : (rows : List Changeset) → AreLawful rows → (id : List ℕ) → Contains (head_ids rows) id
    → is_head_id rows id ≡ true
from_listed [] lawful id found = listed_none id found
from_listed (row ∷ rows) lawful id found = listed_some row rows lawful id found

heads_differ : (rows : List Changeset) → AreLawful rows → AllPairs (λ a b. a ≢ b) (head_ids rows)
heads_differ [] lawful = none_differ
heads_differ (row ∷ rows) lawful = some_differ row rows lawful

-- as many ids as there are heads, none twice, and each a head's
pub heads_told : (rows : List Changeset) → AreLawful rows → (ids : List (List ℕ))
    → length ids ≡ head_count rows
    → AllPairs (λ a b. a ≢ b) ids → ((id : List ℕ) → Contains ids id → is_head_id rows id ≡ true)
    → AreSameIds ids (head_ids rows)
heads_told rows lawful ids as_many distinct each =
    let among = λ (q : List ℕ) (is : is_member bytes_eq ids q ≡ true).
    (is_member-Decides bytes_eq-Decides (head_ids rows) q).1
    (listed rows lawful q (each q ((is_member-Decides bytes_eq-Decides ids q).0 is))) in
    same_ids ids (head_ids rows) distinct (heads_differ rows lawful)
    (λ id found. listed rows lawful id (each id found))
    (λ id found. (is_member-Decides bytes_eq-Decides ids id).0
    (all_there ids (head_ids rows) (IsDistinct-from_AllPairs bytes_eq-Decides ids distinct) among
    (omega (arith, as_many, count_value rows)) id
    ((is_member-Decides bytes_eq-Decides (head_ids rows) id).1 found)))

pub told_heads : (rows : List Changeset) → AreLawful rows → (ids : List (List ℕ))
    → AreSameIds ids (head_ids rows)
    → (length ids ≡ head_count rows) × AllPairs (λ a b. a ≢ b) ids
    × ((id : List ℕ) → Contains ids id → is_head_id rows id ≡ true)
told_heads rows lawful ids same =
    let distinct = same_distinct ids (head_ids rows) same (heads_differ rows lawful) in
    let most = not_longer ids (head_ids rows) distinct (same_members ids (head_ids rows) same) in
    let least = not_longer (head_ids rows) ids (heads_differ rows lawful)
    (same_members (head_ids rows) ids (λ id. sym (same id))) in (
      omega (arith, most, least, count_value rows),
      distinct,
      λ id found. from_listed rows lawful id (same_members ids (head_ids rows) same id found),
    )
