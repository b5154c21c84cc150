use Rattle.std.proofs.Common.{◌≡◌, ◌+◌, ◌≤◌, ◌∙◌, ℕ, List, ap, arith, length, take}
use Rattle.std.proofs.lemmas.List.{take_all}
use Rattle.hg_store.specs.Entries.{Entry}
use Rattle.hg_store.specs.Records.{frames}
use Rattle.hg_store.specs.declared.head.Version.TheVariants.{Second}
use Rattle.hg_store.proofs.Staying.{frames_grow, size_more}
use Rattle.hg_store.proofs.log.gathered_size.Goals as goal

pub loop-record-preserved : goal.loop-record-preserved
loop-record-preserved g c =
    let i = c.loop-record.invariant in
    record {
      size = λ before. size_more before c.args.batch.now c.loop-record.record-index c.loop-record.size _
          c.record-item.result c.loop-record-test.true c.record-item.is (i.size before)
          (ap (λ (n : ℕ). c.loop-record.size + n) c.size-size.ensures.size);
      few = omega (arith, c.if-size-gt-MOST_GATHERED.false);
    }

pub returns-then-size-gt-MOST_GATHERED-clause-many : goal.returns-then-size-gt-MOST_GATHERED-clause-many
returns-then-size-gt-MOST_GATHERED-clause-many g c = λ before _.
    let i = c.loop-record.invariant in
    let more = size_more before c.args.batch.now c.loop-record.record-index c.loop-record.size
    (c.loop-record.size + c.size-size.result) c.record-item.result c.loop-record-test.true c.record-item.is
    (i.size before) (ap (λ (n : ℕ). c.loop-record.size + n) c.size-size.ensures.size) in
    let all = frames_grow before c.args.batch.now (c.loop-record.record-index + 1) in
    omega (arith, c.if-size-gt-MOST_GATHERED.true, more, all)

pub returns-clause-size : goal.returns-clause-size
returns-clause-size g c = λ before.
    let all : length c.args.batch.now ≤ c.loop-record.record-index = omega (arith, c.loop-record-test.false) in
    c.loop-record.invariant.size before
    ∙ ap (λ (rs : List Entry). length (frames Second before rs)) (take_all c.loop-record.record-index c.args.batch.now all)
