use Rattle.std.proofs.Common.{◌∙◌, [], ◌∷◌, length, take, sym, ap, arith}
use Rattle.std.proofs.lemmas.List.{length_push, take-append-le}
use Rattle.hg_phases.proofs.Counting.{counts_pop, some_last}
use Rattle.hg_phases.proofs.counts.CountedRows.truncate.Goals as goal

pub remove-requires : goal.remove-requires
remove-requires g c =
    rw (c.phase.ensures, c.cut.invariant.counts)
    (some_last c.cut.self-inside.rows.items c.pop.new.self.items c.in-Some.row c.in-Some.ensures.items)

pub cut-preserved-in-Some : goal.cut-preserved-in-Some
cut-preserved-in-Some g c =
    let len = c.args.len in
    let rows = c.cut.self-inside.rows.items in
    let held = c.cut.self-inside.rows.ok in
    let rest = c.pop.new.self.items in
    let popped = c.in-Some.ensures.items in
    let longer = ap length popped ∙ length_push rest c.in-Some.row in
    record {
      front = sym (take-append-le len rest (c.in-Some.row ∷ []) (omega (arith, longer, held, c.len.ensures, c.cut-test.true)))
          ∙ ap (take len) (sym popped) ∙ c.cut.invariant.front;
      counts = rw (c.remove.ensures, c.phase.ensures, c.cut.invariant.counts)
          (sym (counts_pop rows rest c.in-Some.row popped));
    }
