use Rattle.std.proofs.Common.{refl}
use Rattle.hg_store.specs.Records.{short}
use Rattle.hg_store.proofs.Stepping.{cut_is, damaged_is, digest_is, entry_of, whole_is}
use Rattle.hg_store.proofs.record.record_behind.Goals as goal

pub returns-in_default-clause-torn : goal.returns-in_default-clause-torn
returns-in_default-clause-torn c = λ _. short c.args.behind.now refl (c.in_default.ensures.short refl)

pub returns-then-rest-named-clause-torn : goal.returns-then-rest-named-clause-torn
returns-then-rest-named-clause-torn c = λ _.
    cut_is c.args.version c.args.behind.now c.in-Some.numbers c.in-Some.rest.now c.in-Some.ensures.spelled
    c.in-Some.ensures.numbers c.if-rest-named.true

pub returns-then-not-is_same-clause-damaged : goal.returns-then-not-is_same-clause-damaged
returns-then-not-is_same-clause-damaged c = λ _.
    damaged_is c.args.version c.args.digest.now _ c.split_at-2.result.0.now
    (entry_of c.in-Some.numbers.time c.split_at.result.0.now c.split_at-3.result.0.now) c.split_at-3.result.1.now
    c.chained_after-found.result c.as_slice.result.now c.is_same.result
    (whole_is c.args.version c.args.behind.now c.in-Some.numbers c.in-Some.rest.now
    c.split_at.result.0.now c.split_at.result.1.now c.split_at-2.result.0.now c.split_at-2.result.1.now
    c.split_at-3.result.0.now c.split_at-3.result.1.now c.in-Some.ensures.spelled c.in-Some.ensures.numbers
    c.if-rest-named.false c.split_at.ensures.front c.split_at.ensures.back c.split_at-2.ensures.front
    c.split_at-2.ensures.back c.split_at-3.ensures.front c.split_at-3.ensures.back)
    (digest_is c.args.version c.args.behind.now c.in-Some.numbers c.in-Some.rest.now
    c.split_at.result.0.now c.split_at.result.1.now c.split_at-2.result.0.now c.split_at-2.result.1.now
    c.split_at-3.result.0.now c.split_at-3.result.1.now c.in-Some.ensures.spelled c.in-Some.ensures.numbers
    c.if-rest-named.false c.split_at.ensures.front c.split_at.ensures.back c.split_at-2.ensures.front
    c.split_at-2.ensures.back c.split_at-3.ensures.front c.split_at-3.ensures.back
    c.args.digest.now c.chained_after-found.result c.digest.result c.digest.ensures c.chained_after-found.ensures)
    c.as_slice.ensures c.is_same.ensures c.if-not-is_same.true
