use Rattle.std.proofs.Common.{ap}
use Rattle.hg_types.specs.declared.limits.Settings.{Settings}
use Rattle.hg_import.proofs.Pushes.{pushes_file}
use Rattle.hg_import.proofs.import.push_file.Goals as goal

pub returns-in-Ok-run_bundle-clause-done : goal.returns-in-Ok-run_bundle-clause-done
returns-in-Ok-run_bundle-clause-done g c =
    pushes_file (g.T.Times.says c.args.times.now) c.args.repo.now.settings.limits _ c.args.repo.now
    c.run_bundle.new.repo _ _ c.in-Ok.bytes.items _ c.in-Ok-run_bundle.count c.millis-time.result c.entry_of.result
    (ap (λ (s : Settings). s.limits) c.settings.ensures) c.in-Ok.ensures.ok c.deref.ensures.value
    c.entry_of.ensures.bundle c.millis-time.ensures c.entry_of.ensures.timed c.entry_of.ensures.unnamed
    c.in-Ok-run_bundle.ensures.ran
