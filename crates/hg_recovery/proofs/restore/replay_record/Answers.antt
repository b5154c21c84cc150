use Rattle.std.proofs.Common.{ap}
use Rattle.hg_types.specs.declared.limits.Settings.{Settings}
use Rattle.hg_recovery.proofs.Next.{same_bundle}
use Rattle.hg_recovery.proofs.restore.replay_record.Goals as goal

pub returns-clause-ok : goal.returns-clause-ok
returns-clause-ok g c =
    c.run_parts.ensures.ok c.args.repo.now.settings.limits c.args.bytes.now
    (same_bundle c.args.bytes.now _ _ _ _
    (ap (λ (s : Settings). s.limits) c.settings.ensures) c.as_slice.ensures.value c.in_ok-parts.ensures.ok)

pub returns-clause-fault : goal.returns-clause-fault
returns-clause-fault g c =
    c.run_parts.ensures.fault c.args.repo.now.settings.limits c.args.bytes.now
    (same_bundle c.args.bytes.now _ _ _ _
    (ap (λ (s : Settings). s.limits) c.settings.ensures) c.as_slice.ensures.value c.in_ok-parts.ensures.ok)
