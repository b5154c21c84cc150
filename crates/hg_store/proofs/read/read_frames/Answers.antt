use Rattle.std.proofs.Common.{◌≡◌, ◌∙◌, ℕ, List, ap, subst, Err, refl, true, false}
use Rattle.std.proofs.lemmas.Result.{err_from_is_err_and}
use Rattle.hg_store.specs.declared.read.ReadFault.TheVariants.{Damaged as damaged}
use Rattle.hg_store.specs.Records.{IsEnd, IsTorn, IsDamaged}
use Rattle.hg_store.proofs.Reading.{one_kept, all_read, torn_at, ends_at, stops_at}
use Rattle.hg_store.proofs.read.read_frames.Goals as goal

pub records-preserved : goal.records-preserved
records-preserved g c =
    one_kept c.args.version c.args.start.now c.args.bytes.now c.records.records c.push.new.self c.records.digest
    c.records.rest.now c.in-Ok.record c.in_ok-to_entry-in-Ok.field-0 c.in-Ok.after.now
    c.next_record.new.digest c.records.invariant c.in-Ok.ensures.whole c.in_ok-to_entry-in-Ok.ensures
    c.in_ok-push-in-Ok.ensures.ok

pub returns-in_err-is_torn-clause-damaged : goal.returns-in_err-is_torn-clause-damaged
returns-in_err-is_torn-clause-damaged g c = λ whole is.
    let p = err_from_is_err_and c.from_residual-in_err-is_torn.result c.from_residual-in_err-is_torn.ensures.1 in
    let same : c.in_err-is_torn.field-0.0 ≡ damaged whole = cc in
    let told = c.in_err-is_torn.ensures.damaged whole (ap Err same) in
    let i = c.records.invariant in
    let found = c.in-Err.ensures.damaged (ap Err told.0) in (
      c.records.records,
      c.records.rest.now,
      told.1 ∙ c.len.ensures,
      i.each,
      i.spelled,
      subst (λ (d : List ℕ). IsDamaged c.args.version d c.records.rest.now) i.digest_is found,
    )

pub returns-clause-read : goal.returns-clause-read
returns-clause-read g c =
    let at_end : c.in_ok-is_torn.is_torn ≡ false → IsEnd c.records.rest.now = λ is. c.in-Err.ensures.end (ap Err (c.in_ok-is_torn.ensures.end is)) in
    let torn : c.in_ok-is_torn.is_torn ≡ true → IsTorn c.args.version c.records.rest.now = λ is. c.in-Err.ensures.torn (ap Err (c.in_ok-is_torn.ensures.torn is)) in
    all_read c.args.version c.args.start.now c.args.bytes.now c.records.records c.records.digest c.records.rest.now
    c.records.invariant _ refl (stops_at c.args.version c.in_ok-is_torn.is_torn c.records.rest.now torn at_end)

pub returns-clause-torn : goal.returns-clause-torn
returns-clause-torn g c = λ is.
    torn_at c.args.version c.args.start.now c.args.bytes.now c.records.records c.records.digest c.records.rest.now
    c.records.invariant _ refl (c.in-Err.ensures.torn (ap Err (c.in_ok-is_torn.ensures.torn is)))

pub returns-clause-whole : goal.returns-clause-whole
returns-clause-whole g c = λ is.
    ends_at c.args.version c.args.start.now c.args.bytes.now c.records.records c.records.digest c.records.rest.now
    c.records.invariant _ refl (c.in-Err.ensures.end (ap Err (c.in_ok-is_torn.ensures.end is)))
