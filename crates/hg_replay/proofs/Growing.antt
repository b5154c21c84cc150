-- A seed that was refused.
use Rattle.std.proofs.Common.{◌≡◌, ◌⊎◌, inl, inr, List, Bool, Err, ◌∙◌, sym, ap}
use Rattle.hg_types.specs.declared.part.Part.{Part}
use Rattle.hg_repo.specs.Run.{run_of}
use Rattle.hg_parts.specs.declared.refusal.Refusal.{Refusal}
use Rattle.hg_parts.specs.declared.refusal.Refusal.TheVariants.{NoMemory as without_memory}
use Rattle.hg_parts.specs.declared.source.Source.TheVariants.{Seed}
use Rattle.hg_parts.specs.Repository.{Repository}
use Rattle.hg_replay.specs.declared.seed.SeedFault.{SeedFault}
use Rattle.hg_replay.specs.declared.seed.SeedFault.TheVariants.{Aborted, ReadFailed, NoMemory}
use Rattle.hg_replay.specs.Answering.{empty_repository}
use Rattle.hg_replay.specs.Seeding.{Grows, IsRefused}

pub refused_so : {A : Type 0} (publishing : Bool) (parts given : List (Part A)) (repo : Repository A)
    (refusal : Refusal A) (fault : SeedFault)
    → repo ≡ empty_repository publishing → given ≡ parts → IsRefused refusal fault
    → (refusal ≡ without_memory) ⊎ (run_of Seed repo given ≡ Err refusal)
    → Grows publishing parts (Err fault)
refused_so publishing parts given repo refusal Aborted same all by (inl e) = absurd (by e)
refused_so publishing parts given repo refusal Aborted same all by (inr e) =
    (refusal, sym (ap (λ r. run_of Seed r parts) same) ∙ (sym (ap (λ ps. run_of Seed repo ps) all) ∙ e))
refused_so publishing parts given repo refusal ReadFailed same all by h = absurd by
refused_so publishing parts given repo refusal NoMemory same all by h = tt
