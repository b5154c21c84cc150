use Rattle.std.proofs.Common.{ℕ, List, ◌∙◌, ap, subst}
use Rattle.hg_types.specs.declared.limits.Limits.{Limits}
use Rattle.hg_types.specs.declared.limits.Settings.{Settings}
use Rattle.hg_recovery.specs.Replays.{ReplaysOne}
use Rattle.hg_recovery.proofs.Replaying.{more_lem}
use Rattle.hg_recovery.proofs.restore.replay_records.Goals as goal

pub loop-place-preserved : goal.loop-place-preserved
loop-place-preserved g c =
    let i = c.loop-place.invariant in
    let here = subst (λ (bytes : List ℕ). ReplaysOne c.loop-place.repo.settings.limits c.loop-place.repo bytes
    c.replay_record.new.repo) c.bundle.ensures c.in_ok-replay_record.ensures.ok in
    let one = subst (λ (limits : Limits). ReplaysOne limits c.loop-place.repo c.index-records-place.result.bundle
    c.replay_record.new.repo) (ap (λ (s : Settings). s.limits) i.settings) here in record {
      ran = more_lem c.args.repo.now.settings.limits c.args.repo.now c.loop-place.repo c.replay_record.new.repo
          c.args.records.now c.loop-place.place c.index-records-place.result c.loop-place-test.true
          c.index-records-place.is i.ran one;
      settings = c.replay_record.ensures.settings ∙ i.settings;
    }
