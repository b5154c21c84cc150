-- The tests of ids against the heads, and what they tell together.
use Rattle.std.proofs.Common.{◌≡◌, ◌≢◌, ◌↔◌, ℕ, Bool, true, false, true≢false, List, length, get_or, sym, ◌∙◌}
use Rattle.std.proofs.Common.{subst, AllPairs, Contains, IsTrue}
use Rattle.std.specs.List.{list_all}
use Rattle.std.specs.Cmp.{both_ways}
use Rattle.std.proofs.lemmas.List.Elements.{Contains-get_or}
use Rattle.std.proofs.lemmas.List.Sums.{AllPass-from_list_all, list_all-from_AllPass}
use Rattle.hg_log.specs.Changeset.{Changeset}
use Rattle.hg_log.specs.Rows.{AreLawful}
use Rattle.hg_log.specs.HeadCount.{head_count, head_ids, is_head_id}
use Rattle.hg_log.proofs.CallerLemmas.{heads_told, told_heads}
use Rattle.hg_checks.specs.Checks.{are_same_ids}
use Rattle.hg_checks.proofs.SameIds.{as_often, from_as_often}

module _ (rows : List Changeset) (lawful : AreLawful rows) (ids : List (List ℕ)) where
  abbrev same : Bool
  same = are_same_ids ids (head_ids rows)

  refuted : (same ≡ true → ⊥) → false ≡ same
  refuted never = both_ways false same (λ is. absurd (true≢false (sym is))) (λ is. absurd (never is))

  told : same ≡ true → (length ids ≡ head_count rows) × AllPairs (λ a b. a ≢ b) ids
      × ((id : List ℕ) → Contains ids id → is_head_id rows id ≡ true)
  told is = told_heads rows lawful ids (as_often ids (head_ids rows) is)

  each_told : same ≡ true → list_all (is_head_id rows) ids ≡ true
  each_told is =
      list_all-from_AllPass (is_head_id rows) ids
      (λ k d within. (told is).2 (get_or ids k d) (Contains-get_or ids k d within))

  -- more ids than heads, or fewer
  pub other_number : length ids ≢ head_count rows → false ≡ same
  other_number other = refuted (λ is. other (told is).0)

  -- an id that is no head's
  pub no_head : list_all (is_head_id rows) ids ≡ false → false ≡ same
  no_head some = refuted (λ is. true≢false (sym (each_told is) ∙ some))

  -- as many, and each a head's: it is left whether one stands twice
  pub heads_or_twice : length ids ≡ head_count rows → list_all (is_head_id rows) ids ≡ true → (answer : Bool)
      → IsTrue answer ↔ AllPairs (λ a b. a ≢ b) ids → answer ≡ same
  heads_or_twice as_many all answer distinct =
      both_ways answer same
      (λ is.
      from_as_often ids (head_ids rows)
      (heads_told rows lawful ids as_many (distinct.0 is)
      (λ id found. subst (λ x. is_head_id rows x ≡ true) found.2
      (AllPass-from_list_all (is_head_id rows) ids all found.0 id found.1))))
      (λ is. distinct.1 (told is).1)
