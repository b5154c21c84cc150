use Rattle.std.proofs.Common.{map}
use Rattle.hg_import.proofs.Rows.{Brings}
use Rattle.hg_import.proofs.import.import_files.Given as goal

-- the files before the place are brought in, and those from it on are as they were
abbrev pub invariant-loop-file : goal.invariant-loop-file
invariant-loop-file g l =
    Brings g.D.Device.seen g.D.Device.may_leave g.D.Device.moment g.D.Device.left_since g.D.Device.faults
    (g.T.Times.says l.times) l.fn.repo.settings.limits (map (λ f. g.I.Reader.told f) l.fn.files)
    (map (λ f. g.I.Reader.told f) l.files) l.file-index l.stored l.place (record { repo = l.fn.repo; log = l.fn.log; output = g.W.Writer.told l.fn.writer })
    (record { repo = l.repo; log = l.log; output = g.W.Writer.told l.writer })
