use Rattle.std.proofs.Common.{◌≡◌, sym, subst}
use Rattle.hg_log.specs.Changeset.{Log}
use Rattle.hg_log.specs.Add.{IsAppended}
use Rattle.hg_parts.specs.Store.{IsSound, IsGrown}
use Rattle.hg_parts.proofs.Growing.{grown_same}
use Rattle.hg_parts.proofs.Adding.{appended, unchanged, grown_new, fits_new, sound_new}
use Rattle.hg_parts.proofs.parts.changegroup.add_one.Goals as goal

pub register-requires-clause-fits : goal.register-requires-clause-fits
register-requires-clause-fits g c =
    let new : IsAppended c.args.store.now.log c.args.entry.now c.in-Ok-New.rev c.add.new.self =
    appended c.args.store.now.log c.add.new.self c.args.entry.now c.in-Ok-New.field-0 c.in-Ok-New.rev
    c.in-Ok-New.field-0-is c.in-Ok-New.ensures.leaves in
    fits_new c.args.settings.now c.args.store.now c.add.new.self c.args.entry.now c.in-Ok-New.rev new
    c.requires.fits c.len-lawful.ensures.lawful

pub returns-in-Ok-Known-clause-grown : goal.returns-in-Ok-Known-clause-grown
returns-in-Ok-Known-clause-grown g c =
    let same : c.add.new.self ≡ c.args.store.now.log = unchanged c.args.store.now.log c.add.new.self
    c.args.entry.now c.in-Ok-Known.field-0 c.in-Ok-Known.field-0-is c.in-Ok-Known.ensures.leaves in
    subst (λ (log : Log). IsGrown c.args.store.now (record c.args.store.now { log = log })) (sym same)
    (grown_same c.args.store.now)

pub returns-in-Ok-Known-clause-sound : goal.returns-in-Ok-Known-clause-sound
returns-in-Ok-Known-clause-sound g c =
    let same : c.add.new.self ≡ c.args.store.now.log = unchanged c.args.store.now.log c.add.new.self
    c.args.entry.now c.in-Ok-Known.field-0 c.in-Ok-Known.field-0-is c.in-Ok-Known.ensures.leaves in
    subst (λ (log : Log). IsSound c.args.settings.now (record c.args.store.now { log = log }))
    (sym same) c.requires

pub returns-in-Ok-clause-grown : goal.returns-in-Ok-clause-grown
returns-in-Ok-clause-grown g c =
    let new : IsAppended c.args.store.now.log c.args.entry.now c.in-Ok-New.rev c.add.new.self =
    appended c.args.store.now.log c.add.new.self c.args.entry.now c.in-Ok-New.field-0 c.in-Ok-New.rev
    c.in-Ok-New.field-0-is c.in-Ok-New.ensures.leaves in
    grown_new c.args.settings.now c.args.store.now c.add.new.self c.args.entry.now c.in-Ok-New.rev new
    c.register.new.self c.register.ensures.saved

pub returns-in-Ok-clause-sound : goal.returns-in-Ok-clause-sound
returns-in-Ok-clause-sound g c =
    let new : IsAppended c.args.store.now.log c.args.entry.now c.in-Ok-New.rev c.add.new.self =
    appended c.args.store.now.log c.add.new.self c.args.entry.now c.in-Ok-New.field-0 c.in-Ok-New.rev
    c.in-Ok-New.field-0-is c.in-Ok-New.ensures.leaves in
    sound_new c.args.settings.now c.args.store.now c.add.new.self c.args.entry.now c.in-Ok-New.rev new
    c.args.t c.register.new.self c.requires c.register.ensures.fits c.in-Ok.ensures.ok

pub returns-in-Err-register-clause-grown : goal.returns-in-Err-register-clause-grown
returns-in-Err-register-clause-grown g c =
    let new : IsAppended c.args.store.now.log c.args.entry.now c.in-Ok-New.rev c.add.new.self =
    appended c.args.store.now.log c.add.new.self c.args.entry.now c.in-Ok-New.field-0 c.in-Ok-New.rev
    c.in-Ok-New.field-0-is c.in-Ok-New.ensures.leaves in
    grown_new c.args.settings.now c.args.store.now c.add.new.self c.args.entry.now c.in-Ok-New.rev new
    c.register.new.self c.register.ensures.saved
