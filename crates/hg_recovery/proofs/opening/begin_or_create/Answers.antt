use Rattle.std.proofs.Common.{◌≡◌, ◌∙◌, ◌∷◌, subst}
use Rattle.std.proofs.lemmas.Result.{err_from_is_err_and}
use Rattle.hg_store.specs.Calls.{missed}
use Rattle.hg_store.specs.Folders.{IsMissedFor}
use Rattle.hg_store.specs.declared.start.StoreFault.{StoreFault}
use Rattle.hg_recovery.proofs.Folders.{made_then, once_named, tails_of, tails_then, unmade_then}
use Rattle.hg_recovery.proofs.opening.begin_or_create.Goals as goal

pub returns-in_err-create_store-in-Err-Missing-clause-kept :
    goal.returns-in_err-create_store-in-Err-Missing-clause-kept
returns-in_err-create_store-in-Err-Missing-clause-kept g c =
    let none : c.begin_store.new.folder ≡ missed ∷ c.args.folder.now =
    subst (λ (fault : StoreFault). IsMissedFor fault c.args.folder.now c.begin_store.new.folder)
    c.in-Err-Missing.field-0-is c.in-Err-Missing.ensures.names in
    tails_then c.args.folder.now c.begin_store.new.folder c.create_store.new.folder none c.create_store.ensures.names

pub returns-in_err-create_store-in-Err-Missing-clause-names :
    goal.returns-in_err-create_store-in-Err-Missing-clause-names
returns-in_err-create_store-in-Err-Missing-clause-names g c =
    let none : c.begin_store.new.folder ≡ missed ∷ c.args.folder.now =
    subst (λ (fault : StoreFault). IsMissedFor fault c.args.folder.now c.begin_store.new.folder)
    c.in-Err-Missing.field-0-is c.in-Err-Missing.ensures.names in
    let p = err_from_is_err_and c.from_residual.result c.from_residual.ensures.1 in
    rw p.1 (unmade_then c.args.folder.now c.begin_store.new.folder c.create_store.new.folder none
    c.create_store.ensures.names)

pub returns-in_ok-create_store-in-Err-Missing-clause-kept :
    goal.returns-in_ok-create_store-in-Err-Missing-clause-kept
returns-in_ok-create_store-in-Err-Missing-clause-kept g c =
    let none : c.begin_store.new.folder ≡ missed ∷ c.args.folder.now =
    subst (λ (fault : StoreFault). IsMissedFor fault c.args.folder.now c.begin_store.new.folder)
    c.in-Err-Missing.field-0-is c.in-Err-Missing.ensures.names in
    tails_of c.begin_store-in-Err-Missing.result c.create_store.new.folder c.begin_store-in-Err-Missing.new.folder
    c.begin_store-in-Err-Missing.ensures.names
    ∙ tails_then c.args.folder.now c.begin_store.new.folder c.create_store.new.folder none c.create_store.ensures.names

pub returns-in_ok-create_store-in-Err-Missing-clause-names :
    goal.returns-in_ok-create_store-in-Err-Missing-clause-names
returns-in_ok-create_store-in-Err-Missing-clause-names g c =
    let none : c.begin_store.new.folder ≡ missed ∷ c.args.folder.now =
    subst (λ (fault : StoreFault). IsMissedFor fault c.args.folder.now c.begin_store.new.folder)
    c.in-Err-Missing.field-0-is c.in-Err-Missing.ensures.names in
    made_then c.begin_store-in-Err-Missing.result c.args.folder.now c.begin_store.new.folder c.create_store.new.folder
    c.begin_store-in-Err-Missing.new.folder none c.create_store.ensures.names
    c.begin_store-in-Err-Missing.ensures.names

pub returns-in_default-clause-kept : goal.returns-in_default-clause-kept
returns-in_default-clause-kept g c =
    tails_of c.begin_store.result c.args.folder.now c.begin_store.new.folder c.begin_store.ensures.names

pub returns-in_default-clause-names : goal.returns-in_default-clause-names
returns-in_default-clause-names g c =
    once_named c.begin_store.result c.args.folder.now c.begin_store.new.folder c.begin_store.ensures.names
