use Rattle.std.proofs.Common.{◌≡◌, ◌≢◌, [], Ok, Err, refl, sym, subst, arith}
use Rattle.std.proofs.lemmas.Result.{err_from_is_err_and}
use Rattle.std.proofs.lemmas.Bool.{eqb-true, eqb-false}
use Rattle.std.proofs.lemmas.List.{nil_from_length}
use Rattle.hg_cgroup.specs.Group.{AreFrames}
use Rattle.hg_cgroup.specs.declared.fault.GroupFault.TheVariants.{UnknownVersion, BadLength, ShortHeader}
use Rattle.hg_cgroup.specs.declared.fault.GroupFault.TheVariants.{Truncated, NoMemory}
use Rattle.hg_cgroup.proofs.Entries.{told_changesets, told_frames, whole}
use Rattle.hg_cgroup.proofs.Outcomes.{is_outcome_of, fault_is_outcome, leftover_is_outcome}
use Rattle.hg_cgroup.specs.Faults.{gives, unknown}
use Rattle.hg_cgroup.proofs.group.decode.Goals as goal

pub returns-in_err-entries-clause-bad_length : goal.returns-in_err-entries-clause-bad_length
returns-in_err-entries-clause-bad_length g c = λ refused.
    let p = err_from_is_err_and c.from_residual.result c.from_residual.ensures.1 in
    let is : c.in_err-entries.field-0.0 ≡ BadLength = cc in
    let other : BadLength ≢ NoMemory = λ e. cc in
    told_changesets c.args.version.now c.args.payload.now c.in-Some.version c.in_err-entries.field-0.0
    BadLength c.in-Some.ensures.some c.in_err-entries.ensures.fault is other

pub returns-in_err-entries-clause-short_header : goal.returns-in_err-entries-clause-short_header
returns-in_err-entries-clause-short_header g c = λ refused.
    let p = err_from_is_err_and c.from_residual.result c.from_residual.ensures.1 in
    let is : c.in_err-entries.field-0.0 ≡ ShortHeader = cc in
    let other : ShortHeader ≢ NoMemory = λ e. cc in
    told_changesets c.args.version.now c.args.payload.now c.in-Some.version c.in_err-entries.field-0.0
    ShortHeader c.in-Some.ensures.some c.in_err-entries.ensures.fault is other

pub returns-in_err-entries-clause-truncated : goal.returns-in_err-entries-clause-truncated
returns-in_err-entries-clause-truncated g c = λ refused.
    let p = err_from_is_err_and c.from_residual.result c.from_residual.ensures.1 in
    let is : c.in_err-entries.field-0.0 ≡ Truncated = cc in
    let other : Truncated ≢ NoMemory = λ e. cc in
    told_changesets c.args.version.now c.args.payload.now c.in-Some.version c.in_err-entries.field-0.0
    Truncated c.in-Some.ensures.some c.in_err-entries.ensures.fault is other

pub returns-in_err-rest-clause-bad_length : goal.returns-in_err-rest-clause-bad_length
returns-in_err-rest-clause-bad_length g c = λ refused.
    let p = err_from_is_err_and c.from_residual-in_err-rest.result c.from_residual-in_err-rest.ensures.1 in
    let is : c.in_err-rest.field-0.0 ≡ BadLength = cc in
    told_frames c.args.version.now c.args.payload.now c.in_ok-entries.rest.now c.in-Some.version
    c.in_err-rest.field-0.0 BadLength c.in_ok-entries.entries c.in-Some.ensures.some
    c.in_ok-entries.ensures.ok
    c.in_err-rest.ensures.fault is

pub returns-in_err-rest-clause-truncated : goal.returns-in_err-rest-clause-truncated
returns-in_err-rest-clause-truncated g c = λ refused.
    let p = err_from_is_err_and c.from_residual-in_err-rest.result c.from_residual-in_err-rest.ensures.1 in
    let is : c.in_err-rest.field-0.0 ≡ Truncated = cc in
    told_frames c.args.version.now c.args.payload.now c.in_ok-entries.rest.now c.in-Some.version
    c.in_err-rest.field-0.0 Truncated c.in_ok-entries.entries c.in-Some.ensures.some
    c.in_ok-entries.ensures.ok
    c.in_err-rest.ensures.fault is

pub returns-clause-entries : goal.returns-clause-entries
returns-clause-entries g c =
    let ended : c.in_ok-rest.rest.now ≡ [] = nil_from_length c.in_ok-rest.rest.now
    (eqb-true _ _ (sym c.if-not-is_empty.ensures)) in
    let frames = subst (AreFrames c.in_ok-entries.rest.now) ended c.in_ok-rest.ensures.ok in (
      c.in-Some.version,
      c.in-Some.ensures.some,
      whole c.in-Some.version c.args.payload.now c.in_ok-entries.rest.now [] c.in_ok-entries.entries
          c.in_ok-entries.ensures.ok frames,
    )

pub returns-in_default-clause-outcome : goal.returns-in_default-clause-outcome
returns-in_default-clause-outcome g c =
    λ other. is_outcome_of c.args.version.now c.args.payload.now (Err UnknownVersion)
    (rw c.as_slice.ensures at c.bytes_are_bytes.ensures) (unknown c.in_default.ensures.none)

pub returns-in_err-entries-clause-outcome : goal.returns-in_err-entries-clause-outcome
returns-in_err-entries-clause-outcome g c =
    let p = err_from_is_err_and c.from_residual.result c.from_residual.ensures.1 in
    let fault = c.in_err-entries.field-0.0 in
    fault_is_outcome c.args.version.now c.args.payload.now c.from_residual.result fault p.0
    (rw c.as_slice.ensures at c.bytes_are_bytes.ensures) p.1 p.2
    (λ other. told_changesets c.args.version.now c.args.payload.now c.in-Some.version fault fault
    c.in-Some.ensures.some c.in_err-entries.ensures.fault refl other)

pub returns-in_err-rest-clause-outcome : goal.returns-in_err-rest-clause-outcome
returns-in_err-rest-clause-outcome g c =
    let p = err_from_is_err_and c.from_residual-in_err-rest.result c.from_residual-in_err-rest.ensures.1 in
    let fault = c.in_err-rest.field-0.0 in
    fault_is_outcome c.args.version.now c.args.payload.now c.from_residual-in_err-rest.result fault p.0
    (rw c.as_slice.ensures at c.bytes_are_bytes.ensures) p.1 p.2
    (λ other. told_frames c.args.version.now c.args.payload.now c.in_ok-entries.rest.now c.in-Some.version
    fault fault c.in_ok-entries.entries c.in-Some.ensures.some c.in_ok-entries.ensures.ok
    c.in_err-rest.ensures.fault refl)

pub returns-then-not-is_empty-clause-outcome : goal.returns-then-not-is_empty-clause-outcome
returns-then-not-is_empty-clause-outcome g c = λ other.
    leftover_is_outcome c.args.version.now c.args.payload.now c.in_ok-rest.rest.now c.in-Some.version
    c.in_ok-entries.entries (rw c.as_slice.ensures at c.bytes_are_bytes.ensures) c.in-Some.ensures.some
    (whole c.in-Some.version c.args.payload.now c.in_ok-entries.rest.now c.in_ok-rest.rest.now
    c.in_ok-entries.entries c.in_ok-entries.ensures.ok c.in_ok-rest.ensures.ok)
    (omega (arith, eqb-false _ _ (sym c.if-not-is_empty.ensures)))

pub returns-clause-outcome : goal.returns-clause-outcome
returns-clause-outcome g c = λ other.
    is_outcome_of c.args.version.now c.args.payload.now (Ok c.in_ok-entries.entries)
    (rw c.as_slice.ensures at c.bytes_are_bytes.ensures)
    (gives c.in_ok-entries.entries (returns-clause-entries g c))
