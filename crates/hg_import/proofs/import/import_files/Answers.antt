use Rattle.std.proofs.Common.{ap, arith, get_or, ◌∙◌}
use Rattle.hg_types.specs.declared.limits.Settings.{Settings}
use Rattle.std.proofs.lemmas.List.{length-map}
use Rattle.hg_import.proofs.Rows.{all_brought, none_brought, file_brought, file_stopped}
use Rattle.hg_import.proofs.import.import_files.Goals as goal

pub loop-file-init : goal.loop-file-init
loop-file-init g c = none_brought g.D.Device.seen g.D.Device.may_leave g.D.Device.moment g.D.Device.left_since
    g.D.Device.faults (g.T.Times.says c.args.times.now)
    c.args.repo.now.settings.limits _ _ _

pub returns-in-Err : goal.returns-in-Err
returns-in-Err g c = file_stopped g.D.Device.seen g.D.Device.may_leave g.D.Device.moment g.D.Device.left_since
    g.D.Device.faults (g.T.Times.says c.args.times.now)
    c.args.repo.now.settings.limits c.loop-file.repo.settings.limits (λ f. g.I.Reader.told f) _ c.loop-file.files
    c.loop-file.file-index _ _ (get_or c.loop-file.files c.loop-file.file-index c.file-item.result)
    c.import_file.new.file _ _ (omega (arith, c.loop-file-test.true, c.loop-file.auto.files))
    (ap (λ r. get_or c.loop-file.files c.loop-file.file-index r) c.file-item.is)
    (ap (λ (s : Settings). s.limits) c.loop-file.invariant.settings) c.loop-file.invariant c.in-Err.stop
    (record {
      repo = c.import_file.new.repo;
      log = c.import_file.new.log;
      output = g.W.Writer.told c.import_file.new.writer;
    })
    c.in-Err.ensures.stops

pub loop-file-preserved : goal.loop-file-preserved
loop-file-preserved g c = file_brought g.D.Device.seen g.D.Device.may_leave g.D.Device.moment g.D.Device.left_since
    g.D.Device.faults (g.T.Times.says c.args.times.now)
    c.args.repo.now.settings.limits c.loop-file.repo.settings.limits (λ f. g.I.Reader.told f) _ c.loop-file.files
    c.loop-file.file-index _ _ (get_or c.loop-file.files c.loop-file.file-index c.file-item.result)
    c.import_file.new.file _ _ (omega (arith, c.loop-file-test.true, c.loop-file.auto.files))
    (ap (λ r. get_or c.loop-file.files c.loop-file.file-index r) c.file-item.is)
    (ap (λ (s : Settings). s.limits) c.loop-file.invariant.settings) c.loop-file.invariant c.in-Ok.next
    (record {
      repo = c.import_file.new.repo;
      log = c.import_file.new.log;
      output = g.W.Writer.told c.import_file.new.writer;
    })
    (c.import_file.ensures.settings ∙ c.loop-file.invariant.settings) c.in-Ok.ensures.done c.in-Ok.ensures.next

pub returns : goal.returns
returns g c = all_brought g.D.Device.seen g.D.Device.may_leave g.D.Device.moment g.D.Device.left_since
    g.D.Device.faults (g.T.Times.says c.args.times.now)
    c.args.repo.now.settings.limits _ _ c.loop-file.file-index _ _ _ _
    (omega (
      arith,
      c.loop-file-test.false,
      c.loop-file.auto.files,
      length-map c.loop-file.files (λ f. g.I.Reader.told f),
    )) c.loop-file.invariant
