use Rattle.std.proofs.lemmas.Result.{err_from_is_err_and}
use Rattle.hg_cgroup.proofs.Fronts.{more_files, name_broken, file_broken}
use Rattle.hg_cgroup.proofs.frames.skip_files.Goals as goal

pub returns-in_err-after-clause-fault : goal.returns-in_err-after-clause-fault
returns-in_err-after-clause-fault c =
    let p = err_from_is_err_and c.from_residual.result c.from_residual.ensures.1 in
    rw (p.1, p.2) (name_broken c.in_err-after.field-0.0 c.args.bytes.now c.loop-after.rest.now
    c.loop-after.invariant c.in_err-after.ensures.fault)

pub returns-in_err-rest-in-Content-default-clause-fault :
    goal.returns-in_err-rest-in-Content-default-clause-fault
returns-in_err-rest-in-Content-default-clause-fault c =
    let p = err_from_is_err_and c.from_residual-in_err-rest-in-Content-default.result
    c.from_residual-in_err-rest-in-Content-default.ensures.1 in
    let read = rw c.in-Content-default.is-0 at c.in_ok-after.ensures.chunk in
    rw (p.1, p.2) (file_broken c.in_err-rest-in-Content-default.field-0.0 c.args.bytes.now
    c.loop-after.rest.now c.in_ok-after.field-0.1.now c.in-Content-default.field-0-0.now
    c.loop-after.invariant read.0 read.1 c.in_err-rest-in-Content-default.ensures.fault)

pub loop-after-preserved : goal.loop-after-preserved
loop-after-preserved c =
    let read = rw c.in-Content-default.is-0 at c.in_ok-after.ensures.chunk in
    more_files c.args.bytes.now c.loop-after.rest.now c.in_ok-after.field-0.1.now
    c.in_ok-rest-in-Content-default.rest.now c.in-Content-default.field-0-0.now
    c.loop-after.invariant read.0 read.1 c.in_ok-rest-in-Content-default.ensures.ok
