use Rattle.hg_store.proofs.Streamed.{named_is, not_few, not_short, open_is}
use Rattle.std.proofs.Common.{◌+◌, ℕ, ap, refl}
use Rattle.hg_store.specs.Records.{numbers_bytes}
use Rattle.hg_store.specs.declared.head.Version.TheVariants.{Second}
use Rattle.std.proofs.Common.{◌++◌}
use Rattle.hg_store.proofs.heading.size_behind.Goals as goal

pub returns-then-gate-clause-whole : goal.returns-then-gate-clause-whole
returns-then-gate-clause-whole c = λ numbers rest are is.
    absurd (c.if-gate.true (open_is c.args.front.now c.read_byte-gate.result.1.now c.read_byte-gate.result.0
    c.read_byte-gate.ensures (numbers_bytes Second numbers ++ rest) is))

pub returns-in-Some-clause-whole : goal.returns-in-Some-clause-whole
returns-in-Some-clause-whole c = λ numbers rest are is.
    ap (λ (n : ℕ). n + 20) (named_is c.args.front.now c.read_byte-gate.result.1.now c.read_byte-gate.result.0
    c.read_byte-gate.ensures numbers c.in-Some.numbers rest c.in-Some._rest.now are c.in-Some.ensures.numbers
    c.in-Some.ensures.spelled is)

pub returns-in-Some-clause-short : goal.returns-in-Some-clause-short
returns-in-Some-clause-short c = λ few.
    absurd (not_short c.args.front.now c.read_byte-gate.result.1.now c.read_byte-gate.result.0
    c.read_byte-gate.ensures c.in-Some.numbers c.in-Some._rest.now c.in-Some.ensures.spelled few)

pub returns-in-None-clause-whole : goal.returns-in-None-clause-whole
returns-in-None-clause-whole c = λ numbers rest are is.
    absurd (not_few c.args.front.now c.read_byte-gate.result.1.now c.read_byte-gate.result.0
    c.read_byte-gate.ensures numbers rest (c.in-None.ensures.short refl) is)
