use Rattle.std.proofs.Common.{List, ℕ, ap, refl, subst, ◌∙◌}
use Rattle.hg_connection.specs.declared.sending.Sending.TheVariants.{Whole}
use Rattle.hg_import.specs.Imports.{IsSentSo}
use Rattle.hg_import.specs.Lines.{place_line}
use Rattle.hg_import.proofs.Stopping.{stops_undone}
use Rattle.hg_import.proofs.import.import_file.Goals as goal

pub returns-in-Whole-clause-done : goal.returns-in-Whole-clause-done
returns-in-Whole-clause-done g c = λ head records settled place. (
  c.in-Ok-push_file.entry,
  record {
    pushed = c.in-Ok-push_file.ensures.done;
    added = c.in-Ok-add_record.ensures.ok head records settled;
    told = subst (λ (line : List ℕ). IsSentSo Whole line (g.W.Writer.told c.args.writer.now)
        (g.W.Writer.told c.tell.new.writer)) (c.as_bytes.ensures.value ∙ c.in-Ok.ensures ∙ ap place_line place)
        c.in-Whole.ensures;
  },
)

pub returns-in-Ok-add_record-clause-stops : goal.returns-in-Ok-add_record-clause-stops
returns-in-Ok-add_record-clause-stops g c = λ head records settled place. (
  c.in-Ok-push_file.entry,
  c.in-Ok-push_file.ensures.done,
  c.in-Ok-add_record.ensures.ok head records settled,
  (
    c.in_default-tell.not-Whole,
    subst (λ (line : List ℕ). IsSentSo c.tell.result line (g.W.Writer.told c.args.writer.now)
        (g.W.Writer.told c.tell.new.writer)) (c.as_bytes.ensures.value ∙ c.in-Ok.ensures ∙ ap place_line place)
        c.tell.ensures,
  ),
)

pub returns-clause-stops : goal.returns-clause-stops
returns-clause-stops g c = λ head records settled place.
    stops_undone g.D.Device.seen g.D.Device.may_leave g.D.Device.moment g.D.Device.left_since g.D.Device.faults
    (g.T.Times.says c.args.times.now)
    c.args.repo.now.settings.limits head records _ _ _ _ c.in-Err.ensures.err refl c.not_done.result c.in-Err.reason
    c.in-Err.ensures.reason c.not_done.ensures
