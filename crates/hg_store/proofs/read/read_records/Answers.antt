use Rattle.std.proofs.Common.{◌≡◌, ap, Err}
use Rattle.std.proofs.lemmas.Result.{err_from_is_err_and}
use Rattle.hg_store.specs.declared.read.ReadFault.TheVariants.{Damaged as damaged}
use Rattle.hg_store.specs.Records.{IsEnd}
use Rattle.std.proofs.Common.{subst, sym}
use Rattle.hg_store.proofs.Reading.{damage_is, digest_at, end_at, store_is, tail_is, torn_is}
use Rattle.hg_store.proofs.read.read_records.Goals as goal

pub returns-in_err-records-clause-damaged : goal.returns-in_err-records-clause-damaged
returns-in_err-records-clause-damaged g c = λ whole is.
    let p = err_from_is_err_and c.from_residual-in_err-records.result c.from_residual-in_err-records.ensures.1 in
    let same : c.in_err-records.field-0.0 ≡ damaged whole = cc in
    let told = c.in_err-records.ensures.damaged whole (ap Err same) in
    damage_is c.args.file.now c.in_ok-head.head c.in_ok-head.ensures.ok c.size-size.result c.size-size.ensures
    c.version.result c.version.ensures c.split_at.result.0.now c.digest.result c.split_at.ensures.front c.digest.ensures
    c.split_at.result.1.now whole told.0 told.1 c.split_at.ensures.back told.2 told.3 told.4 told.5

pub returns-clause-store : goal.returns-clause-store
returns-clause-store g c =
    store_is c.args.file.now c.in_ok-head.head c.in_ok-head.ensures.ok c.size-size.result c.size-size.ensures
    c.version.result c.version.ensures c.split_at.result.0.now c.digest.result c.split_at.ensures.front c.digest.ensures
    c.split_at.result.1.now c.in_ok-records.field-0.records c.in_ok-records.field-0.end c.split_at.ensures.back
    c.in_ok-records.ensures.read

pub returns-clause-digest : goal.returns-clause-digest
returns-clause-digest g c =
    digest_at c.args.file.now c.in_ok-head.head c.in_ok-head.ensures.ok c.size-size.result c.size-size.ensures
    c.version.result c.version.ensures c.split_at.result.0.now c.digest.result c.split_at.ensures.front c.digest.ensures
    c.in_ok-records.field-0.records c.in_ok-records.field-0.digest c.in_ok-records.ensures.digest

pub returns-clause-end : goal.returns-clause-end
returns-clause-end g c =
    end_at c.args.file.now c.in_ok-head.head c.in_ok-head.ensures.ok c.size-size.result c.size-size.ensures
    c.version.result c.version.ensures c.split_at.result.0.now c.digest.result c.split_at.ensures.front c.digest.ensures
    c.in_ok-records.field-0.records c.in_ok-records.field-0.end c.in_ok-records.ensures.end

pub returns-clause-torn : goal.returns-clause-torn
returns-clause-torn g c = λ is.
    torn_is c.args.file.now c.in_ok-head.head c.in_ok-head.ensures.ok c.size-size.result c.size-size.ensures
    c.version.result c.version.ensures c.split_at.result.0.now c.digest.result c.split_at.ensures.front c.digest.ensures
    _ _ (tail_is c.args.file.now c.in_ok-head.head c.in_ok-head.ensures.ok c.size-size.result c.size-size.ensures c.in_ok-records.field-0.end c.split_at.result.1.now c.split_at.ensures.back)
    (c.in_ok-records.ensures.torn is)

pub returns-clause-whole : goal.returns-clause-whole
returns-clause-whole g c = λ is.
    subst IsEnd (sym (tail_is c.args.file.now c.in_ok-head.head c.in_ok-head.ensures.ok c.size-size.result c.size-size.ensures
    c.in_ok-records.field-0.end c.split_at.result.1.now c.split_at.ensures.back)) (c.in_ok-records.ensures.whole is)
