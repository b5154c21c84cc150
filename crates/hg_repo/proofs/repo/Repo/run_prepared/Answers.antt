use Rattle.std.proofs.Common.{◌≡◌, ◌∙◌, ◌⊎◌, Ok, Err, ap, subst}
use Rattle.hg_parts.specs.declared.refusal.Refusal.TheVariants.{NoMemory}
use Rattle.hg_parts.specs.declared.store.Store.{Store}
use Rattle.hg_parts.specs.Repository.{Repository}
use Rattle.hg_parts.specs.Store.{repository_of}
use Rattle.hg_parts.proofs.CallerLemmas.{sound_saved, sound_unsaved, can_go_back_on}
use Rattle.hg_repo.specs.Run.{run_of}
use Rattle.hg_repo.proofs.repo.Repo.run_prepared.Goals as goal

pub run_prepared-requires-clause-sound : goal.run_prepared-requires-clause-sound
run_prepared-requires-clause-sound g c =
    rw (c.savepoint-before.ensures.store)
    (sound_saved c.self.inside.settings c.self.inside.store c.self.invariant)

pub returns-in-Ok-clause-gives : goal.returns-in-Ok-clause-gives
returns-in-Ok-clause-gives g c = λ parts made.
    subst (λ (repo : Repository g.row.A.Denot). run_of c.args.source repo parts ≡ Ok
    (repository_of c.self.inside.settings c.run_prepared.new.store, c.in-Ok.done))
    (ap (λ (s : Store g.row.A.Denot). repository_of c.self.inside.settings s) c.savepoint-before.ensures.store
    ∙ c.self.view_is) (c.in-Ok.ensures.gives parts made)

pub invariant_of-self-in-Err : goal.invariant_of-self-in-Err
invariant_of-self-in-Err g c =
    let store : Store g.row.A.Denot = c.self.inside.store in
    let can = can_go_back_on store c.savepoint-before.result c.savepoint-before.new.self c.run_prepared.new.store
    c.savepoint-before.ensures.savepoint c.in-Err.ensures.grown in
    rw (c.back_to.ensures store can) (sound_unsaved c.self.inside.settings store c.self.invariant)

pub returns-in-Err-clause-gives : goal.returns-in-Err-clause-gives
returns-in-Err-clause-gives g c =
    let store : Store g.row.A.Denot = c.self.inside.store in
    let can = can_go_back_on store c.savepoint-before.result c.savepoint-before.new.self c.run_prepared.new.store
    c.savepoint-before.ensures.savepoint c.in-Err.ensures.grown in
    let refusal = c.in-Err.refusal in
    λ parts made. (
      ap (λ (s : Store g.row.A.Denot). repository_of c.self.inside.settings s) (c.back_to.ensures store can)
          ∙ c.self.view_is,
      subst (λ (repo : Repository g.row.A.Denot). (refusal ≡ NoMemory)
          ⊎ (run_of c.args.source repo parts ≡ Err refusal))
          (ap (λ (s : Store g.row.A.Denot). repository_of c.self.inside.settings s)
          c.savepoint-before.ensures.store ∙ c.self.view_is) (c.in-Err.ensures.gives parts made),
    )

pub returns-in-Err-clause-err : goal.returns-in-Err-clause-err
returns-in-Err-clause-err g c =
    let store : Store g.row.A.Denot = c.self.inside.store in
    let can = can_go_back_on store c.savepoint-before.result c.savepoint-before.new.self c.run_prepared.new.store
    c.savepoint-before.ensures.savepoint c.in-Err.ensures.grown in
    ap (λ (s : Store g.row.A.Denot). repository_of c.self.inside.settings s) (c.back_to.ensures store can)
    ∙ c.self.view_is
