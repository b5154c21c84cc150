-- A run that is refused is refused by one of its parts.
use Rattle.std.proofs.Common.{◌≡◌, ℕ, suc, ◌+◌, Bool, List, [], ◌∷◌, Some, Result, Ok, Err}
use Rattle.std.proofs.Common.{slice_get, refl, subst, arith}
use Rattle.hg_types.specs.declared.part.Part.{Part}
use Rattle.hg_parts.specs.declared.source.Source.{Source}
use Rattle.hg_parts.specs.declared.refusal.Refusal.{Refusal}
use Rattle.hg_parts.specs.Repository.{Repository}
use Rattle.hg_parts.specs.Handled.{Handled, Outcome}
use Rattle.hg_parts.specs.PartTypes.{support_of}
use Rattle.hg_parts.specs.Handle.{handle}
use Rattle.hg_parts.specs.Refusing.{CanBeRefused}
use Rattle.hg_repo.specs.Run.{Progress, start, progress_after, and_then, run_from, run_of, done_by, IsRefusedIn}

-- the law of one part
abbrev pub PartsTell : Type 0 → Type 0
PartsTell A = (source : Source) (repo : Repository A) (replying : Bool) (place : ℕ) (part : Part A)
    (refusal : Refusal A) → handle source repo replying place part ≡ Err refusal
    → CanBeRefused place (support_of part) refusal

module _ {A : Type 0} (tell : PartsTell A) (source : Source) where
  -- the refusal is that of a part so many places after this one
  pub record IsRefusedFrom (place : ℕ) (parts : List (Part A)) (refusal : Refusal A) : Type 0 where
    pub behind : ℕ
    pub part : Part A
    pub part_at : slice_get parts behind ≡ Some part
    pub can : CanBeRefused (place + behind) (support_of part) refusal

  at_part : (place : ℕ) (part : Part A) (parts : List (Part A)) (refusal : Refusal A)
      (given : Outcome A) (next : Handled A → Result (Progress A) (Refusal A))
      → ((told : Refusal A) → given ≡ Err told → CanBeRefused place (support_of part) told)
      → ((it : Handled A) → next it ≡ Err refusal → IsRefusedFrom (place + 1) parts refusal)
      → and_then given next ≡ Err refusal → IsRefusedFrom place (part ∷ parts) refusal
  at_part place part parts refusal (Ok it) next one rest is =
      let later = rest it is in
      let same : place + 1 + later.behind ≡ place + suc later.behind = omega arith in
      record {
        behind = suc later.behind;
        part = later.part;
        part_at = later.part_at;
        can = subst (λ (k : ℕ). CanBeRefused k (support_of later.part) refusal) same later.can;
      }
  at_part place part parts refusal (Err told) next one rest is =
      let same : told ≡ refusal = cc in
      let here : place ≡ place + 0 = omega arith in
      let can : CanBeRefused place (support_of part) refusal =
      subst (λ (r : Refusal A). CanBeRefused place (support_of part) r) same (one told refl) in
      record {
        behind = 0;
        part = part;
        part_at = refl;
        can = subst (λ (k : ℕ). CanBeRefused k (support_of part) refusal) here can;
      }

  refused_from : (place : ℕ) (progress : Progress A) (parts : List (Part A)) (refusal : Refusal A)
      → run_from source place progress parts ≡ Err refusal → IsRefusedFrom place parts refusal
  refused_from place progress [] refusal is = cc
  refused_from place progress (part ∷ parts) refusal is =
      at_part place part parts refusal (handle source progress.repo progress.replying place part)
      (λ given. run_from source (place + 1) (progress_after place progress part given) parts)
      (λ told is. tell source progress.repo progress.replying place part told is)
      (λ given is. refused_from (place + 1) (progress_after place progress part given) parts refusal is) is

  refused_done : (run : Result (Progress A) (Refusal A)) (refusal : Refusal A)
      → done_by run ≡ Err refusal → run ≡ Err refusal
  refused_done (Ok progress) refusal is = cc
  refused_done (Err told) refusal is = cc

  pub refused_in : (repo : Repository A) (parts : List (Part A)) (refusal : Refusal A)
      → run_of source repo parts ≡ Err refusal → IsRefusedIn parts refusal
  unfolding run_of
  refused_in repo parts refusal is =
      let it = refused_from 0 (start repo) parts refusal
      (refused_done (run_from source 0 (start repo) parts) refusal is) in
      let here : 0 + it.behind ≡ it.behind = omega arith in (
        it.behind,
        it.part,
        it.part_at,
        subst (λ (k : ℕ). CanBeRefused k (support_of it.part) refusal) here it.can,
      )
