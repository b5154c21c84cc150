use Rattle.std.proofs.lemmas.Result.{err_from_is_err_and}
use Rattle.hg_cgroup.proofs.Fronts.{manifests_broken, files_broken, err_weaker}
use Rattle.hg_cgroup.proofs.frames.skip_frames.Goals as goal

pub returns-in_err-files-clause-fault : goal.returns-in_err-files-clause-fault
returns-in_err-files-clause-fault c =
    let p = err_from_is_err_and c.from_residual.result c.from_residual.ensures.1 in
    rw (p.1, p.2) (manifests_broken c.in_err-files.field-0.0 c.args.bytes.now c.in_err-files.ensures.fault)

pub returns-clause-fault : goal.returns-clause-fault
returns-clause-fault c =
    err_weaker c.skip_files.result _ _
    (λ fault broken. files_broken fault c.args.bytes.now c.in_ok-files.files.now c.in_ok-files.ensures.ok
    broken) c.skip_files.ensures.fault
