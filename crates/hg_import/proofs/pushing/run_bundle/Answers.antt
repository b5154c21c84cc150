use Rattle.std.proofs.Common.{ap}
use Rattle.hg_types.specs.declared.limits.Settings.{Settings}
use Rattle.hg_import.proofs.Feeding.{front_begins}
use Rattle.hg_import.proofs.pushing.run_bundle.Goals as goal

pub returns-clause-reason : goal.returns-clause-reason
returns-clause-reason g c =
    c.in-Err-run_parts.ensures.reason c.args.repo.now.settings.limits c.args.bytes.now _
    (front_begins _ _ c.args.bytes.now c.in-Ok.front.0 c.in-Ok.front.1.items _
    (ap (λ (s : Settings). s.limits) c.settings.ensures) c.deref.ensures.value c.in-Ok.ensures.parts)
