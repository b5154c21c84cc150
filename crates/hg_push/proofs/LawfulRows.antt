-- Pushes that are run one by one from a lawful repository lead to a lawful one.
use Rattle.std.proofs.Common.{ℕ, List, [], ◌∷◌, IfOk, subst}
use Rattle.hg_types.specs.declared.part.Part.{Part}
use Rattle.hg_parts.specs.declared.source.Source.{Source}
use Rattle.hg_parts.specs.Repository.{Repository, IsLawful}
use Rattle.hg_repo.specs.declared.done.Done.{Done}
use Rattle.hg_repo.specs.Run.{run_of, HaveBytes}
use Rattle.hg_push.specs.Changed.{OneByOne}
use Rattle.hg_push.specs.Run.{run_push}

-- the law of one run
abbrev pub RunsStay : Type 0 → Type 0
RunsStay A = (source : Source) (repo : Repository A) (parts : List (Part A)) → IsLawful repo → HaveBytes parts
    → IfOk (run_of source repo parts) (λ done. IsLawful done.0)

pub in_turn_lawful : {A : Type 0} → RunsStay A → (of : ℕ → List (Part A)) → ((p : ℕ) → HaveBytes (of p))
    → (first : Repository A) (journal : List ℕ) (last : Repository A) → IsLawful first
    → OneByOne run_push of first journal last → IsLawful last
in_turn_lawful stay of bytes first [] last lawful same = subst IsLawful same lawful
in_turn_lawful {A} stay of bytes first (p ∷ journal) last lawful all =
    let next : IsLawful all.0 = subst (λ run. IfOk run (λ (done : Repository A × Done A). IsLawful done.0))
    all.2 (stay _ first (of p) lawful (bytes p)) in
    in_turn_lawful stay of bytes all.0 journal last next all.3
