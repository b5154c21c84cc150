-- The laws of ancestors, as the contracts of `laws` state them.
use Rattle.std.proofs.Common.{ℕ, ◌<◌, ◌≤◌, ◌↔◌, List, length, take, sym, arith}
use Rattle.std.proofs.lemmas.List.{length-take-le}
use Rattle.hg_log.specs.Changeset.{Changeset}
use Rattle.hg_log.specs.Rows.{AreLawful}
use Rattle.hg_log.specs.Ancestors.{IsAncestor}
use Rattle.hg_log.specs.Ancestors.IsAncestor.{itself, of_parent}
use Rattle.hg_log.specs.Parents.{parents_of}
use Rattle.hg_log.proofs.RowLemmas.{lawful_taken}
use Rattle.hg_log.proofs.ParentLemmas.{ordered, parents_kept, not_later, leads_same, leads_ancestor}
use Rattle.hg_log.proofs.ParentLemmas.{ancestor_leads}

pub ancestors_earlier : (rows : List Changeset) (a r : ℕ) → AreLawful rows → IsAncestor rows a r → a ≤ r
ancestors_earlier rows a r lawful is =
    not_later (parents_of rows) (ordered rows lawful) a r (ancestor_leads rows lawful a r is)

pub ancestors_on : (rows : List Changeset) (a b r : ℕ) → IsAncestor rows a b → IsAncestor rows b r
    → IsAncestor rows a r
ancestors_on rows a b r first (itself within) = first
ancestors_on rows a b r first (of_parent p q is more) = of_parent p q is (ancestors_on rows a b p first more)

pub ancestors_kept : (rows : List Changeset) (n a r : ℕ) → AreLawful rows → n ≤ length rows → r < n
    → IsAncestor (take n rows) a r ↔ IsAncestor rows a r
ancestors_kept rows n a r lawful within low =
    let cut : AreLawful (take n rows) = lawful_taken rows n within lawful in
    let same = λ (k : ℕ) (below : k < n). parents_kept rows n k within lawful below in (
      (λ is. leads_ancestor rows lawful a r (omega arith)
          (leads_same (parents_of (take n rows)) (parents_of rows) n
          (ordered (take n rows) cut) same a r low (ancestor_leads (take n rows) cut a r is))),
      (λ is. leads_ancestor (take n rows) cut a r (omega (arith, length-take-le n rows within))
          (leads_same (parents_of rows) (parents_of (take n rows)) n (ordered rows lawful)
          (λ k below. sym (same k below)) a r low (ancestor_leads rows lawful a r is))),
    )
