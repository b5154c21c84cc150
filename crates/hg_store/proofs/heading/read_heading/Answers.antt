use Rattle.std.proofs.Common.{◌≤◌, ◌++◌, ◌∙◌, [], ap, arith, length, length-append, sym}
use Rattle.hg_store.proofs.Repair.{on_ok}
use Rattle.hg_store.proofs.Streamed.{at_least, front_whole}
use Rattle.hg_store.proofs.heading.read_heading.Goals as goal

pub returns-clause-whole : goal.returns-clause-whole
returns-clause-whole g c = λ numbers rest are.
    on_ok c.read_on-2.result _ _
    (λ reads is.
    let first = c.in_ok-read_on.ensures.read in
    let few : length c.deref.result.now ≤ 14 = omega (
      arith,
      ap length c.deref.ensures.value,
      ap length first.appended,
      length-append c.clear.new.self.items first.more,
      ap length c.clear.ensures.items,
      first.few,
    ) in
    let enough = at_least (length c.deref.result.now) 14
    (λ less. c.if-more-eq0.false (c.size_behind-more.ensures.short less)) in
    let fronted = front_whole numbers rest c.deref.result.now reads.more c.read_on-2.new.bytes.items few enough
    (reads.appended ∙ ap (λ l. l ++ reads.more) (sym c.deref.ensures.value)) is in
    let size = c.size_behind-more.ensures.whole numbers [] are fronted.0 in (
      omega (arith, reads.few, size, ap length fronted.1),
      λ less. reads.short (omega (arith, less, size, ap length fronted.1)),
    )) c.read_on-2.ensures.read
