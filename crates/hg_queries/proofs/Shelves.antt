-- A view that is kept, and brought up.
use Rattle.std.proofs.Common.{◌≡◌, ℕ, List, ◌++◌, reverse, sym, subst, ap, ◌∙◌}
use Rattle.std.proofs.lemmas.List.{reverse-append}
use mathlib.Core.List.{IsPrefix}
use Rattle.hg_parts.specs.declared.item.Taken.{Taken}
use Rattle.hg_parts.specs.Repository.{Repository}
use Rattle.hg_push.specs.History.{History, serial}
use Rattle.hg_push.specs.Run.{RepositoryOf, run_push}
use Rattle.hg_serve.specs.Answers.{Looks}
use Rattle.hg_serve.specs.Histories.{serial_run}
use Rattle.hg_queries.specs.Growth.{IsGrown}
use Rattle.hg_wireproto.specs.Viewed.{Since, StayPublic, Viewed}
use Rattle.hg_wireproto.proofs.Publishing.{front_on as first_on, prefix_on}
use Rattle.hg_queries.specs.Copied.{IsCameTo, IsFront}

-- what is of the first of a repository is of the first of one that goes on from it
pub front_on : {A : Type 0} (view : Viewed A) (old new : Repository A) → IsFront view old → IsGrown old new
    → IsFront view new
front_on view old new front grown =
    first_on view old.rows new.rows old.markers new.markers old.phases new.phases front grown.rows grown.markers
    grown.phases

-- a view with what came is of all of the repository, and so of the first of one that goes on from it
pub all_front : {A : Type 0} (view : Viewed A) (repo new : Repository A) (first known : ℕ) (seen : List ℕ)
    (came : Since A) → view ≡ record { rows = came.rows; markers = came.markers; phases = came.phases }
    → IsCameTo repo first known seen came → IsGrown repo new → IsFront view new
all_front {A} view repo new first known seen came whole is grown =
    subst (λ (v : Viewed A). IsFront v new) (sym whole) (record {
      rows = subst (λ (s : Since A). IsPrefix s.rows new.rows) (sym is) grown.rows;
      markers = subst (λ (s : Since A). IsPrefix s.markers new.markers) (sym is) grown.markers;
      stay = subst (λ (s : Since A). StayPublic s.phases new.phases) (sym is) grown.phases;
    })

-- the repository of a history that goes on from another has grown
pub grown_on : {A : Type 0} (first : RepositoryOf A)
    → ((first : RepositoryOf A) (late before : History A) →
    IsGrown (serial run_push first before).repo (serial run_push first (late ++ before)).repo)
    → (a b : List (Taken A)) → IsPrefix a b → IsGrown (serial_run first a).repo (serial_run first b).repo
grown_on first law a b p =
    subst (λ h. IsGrown (serial_run first a).repo (serial run_push first h).repo)
    (sym (reverse-append a p.0) ∙ ap reverse p.1) (law first (reverse p.0) (reverse a))

-- a look after more was seen
pub looks_on : {A : Type 0} (first : RepositoryOf A) (before met after : List (Taken A)) (repo : RepositoryOf A)
    → IsPrefix before met → Looks first met after repo → Looks first before after repo
looks_on first before met after repo p look = record {
  earlier = prefix_on before met after p look.earlier;
  legal = look.legal;
  ran = look.ran;
}
