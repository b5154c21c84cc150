use Rattle.std.proofs.Common.{◌≡◌, ◌∙◌, ◌⊎◌, Err, ap, subst}
use Rattle.hg_parts.specs.declared.refusal.Refusal.TheVariants.{NoMemory}
use Rattle.hg_parts.specs.declared.store.Store.{Store}
use Rattle.hg_parts.specs.Repository.{Repository}
use Rattle.hg_parts.specs.Store.{repository_of}
use Rattle.hg_parts.proofs.CallerLemmas.{sound_unsaved, can_go_back_on}
use Rattle.hg_repo.specs.Run.{run_of}
use Rattle.hg_repo.proofs.repo.Repo.run.Goals as goal

pub invariant_of-self-in-Err : goal.invariant_of-self-in-Err
invariant_of-self-in-Err g c =
    let store : Store g.row.A.Denot = c.self.inside.store in
    let can = can_go_back_on store c.savepoint-savepoint.result c.savepoint-savepoint.new.self c.run_parts.new.store
    c.savepoint-savepoint.ensures.savepoint c.in-Err.ensures.grown in
    rw (c.back_to.ensures store can) (sound_unsaved c.self.inside.settings store c.self.invariant)

pub returns-in-Err-clause-gives : goal.returns-in-Err-clause-gives
returns-in-Err-clause-gives g c =
    let store : Store g.row.A.Denot = c.self.inside.store in
    let can = can_go_back_on store c.savepoint-savepoint.result c.savepoint-savepoint.new.self c.run_parts.new.store
    c.savepoint-savepoint.ensures.savepoint c.in-Err.ensures.grown in
    let refusal = c.in-Err.refusal in (
      ap (λ (s : Store g.row.A.Denot). repository_of c.self.inside.settings s) (c.back_to.ensures store can)
          ∙ c.self.view_is,
      subst (λ (repo : Repository g.row.A.Denot). (refusal ≡ NoMemory)
          ⊎ (run_of c.args.source repo c.args.parts.now ≡ Err refusal))
          (ap (λ (s : Store g.row.A.Denot). repository_of c.self.inside.settings s) c.savepoint-savepoint.ensures.store
          ∙ c.self.view_is) c.in-Err.ensures.gives,
    )
