use Rattle.std.proofs.Common.{◌+◌, List, ℕ, refl, subst}
use Rattle.hg_recovery.specs.Replays.{IsUnrun, ReplaysOne}
use Rattle.hg_store_tools.specs.Reporting.{Replayed, ReplaysNoRecord, ReplaysRecord}
use Rattle.hg_store_tools.proofs.report.ReplayingRecordVisitReplayed.visit.Goals as goal

pub returns-in-Ok-clause-ok : goal.returns-in-Ok-clause-ok
returns-in-Ok-clause-ok g c =
    let repo = c.target.inside.repo in
    let new = c.replay_record.new.repo in
    let after : Replayed g.row.A.Denot = record { repo = new; count = c.args.place + 1 } in
    subst (λ (before : Replayed g.row.A.Denot). ReplaysRecord c.args.place c.args.entry.now before after)
    c.target.view_is (
      subst (λ (bytes : List ℕ). ReplaysOne repo.settings.limits repo bytes new) c.bundle.ensures c.in-Ok.ensures.ok,
      c.in-Ok.ensures.settings,
      refl,
    )

pub returns-in-Err-clause-err : goal.returns-in-Err-clause-err
returns-in-Err-clause-err g c =
    let repo = c.target.inside.repo in
    let why = c.in-Err.fault in
    subst
    (λ (before : Replayed g.row.A.Denot).
    ReplaysNoRecord c.args.place c.args.entry.now c.unrun_fault.result before)
    c.target.view_is (
      why,
      subst (λ (bytes : List ℕ). IsUnrun why c.args.place repo.settings.limits repo bytes) c.bundle.ensures
          c.in-Err.ensures.fault,
      c.unrun_fault.ensures,
    )
