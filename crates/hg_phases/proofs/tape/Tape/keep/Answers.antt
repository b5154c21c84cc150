use Rattle.std.proofs.Common.{◌≡◌, ◌++◌, [], true, eqb, vec_len, sym, ◌∙◌, arith}
use Rattle.std.proofs.lemmas.Bool.{eqb-true}
use Rattle.std.proofs.lemmas.List.{nil_from_length}
use Rattle.hg_phases.specs.code.Tape.{of_saved}
use Rattle.hg_phases.proofs.Undoing.{base_kept, all_saved}
use Rattle.hg_phases.proofs.tape.Tape.keep.Goals as goal

pub returns-then-is_empty-clause-replaced : goal.returns-then-is_empty-clause-replaced
returns-then-is_empty-clause-replaced g c =
    let self = c.args.self.now in
    let held = self.kept.ok in
    let is : eqb (vec_len self.kept) 0 ≡ true = sym c.is_empty.ensures ∙ c.if-is_empty.true in
    let empty : vec_len self.kept ≡ 0 = eqb-true (vec_len self.kept) 0 is in
    let none : self.kept.items ≡ [] = nil_from_length self.kept.items (omega (arith, empty)) in
    let more = of_saved self.saved c.args.changes.items in
    let kept : c.take_over.new.self.kept.items ≡ self.kept.items ++ more =
    rw none c.take_over.ensures.kept in
    rw (kept, c.take_over.ensures.saved)
    (all_saved self.saved self.kept.items c.args.changes.items c.requires.replaced)

pub returns-then-is_empty-clause-base : goal.returns-then-is_empty-clause-base
returns-then-is_empty-clause-base g c =
    let self = c.args.self.now in
    let held = self.kept.ok in
    let is : eqb (vec_len self.kept) 0 ≡ true = sym c.is_empty.ensures ∙ c.if-is_empty.true in
    let empty : vec_len self.kept ≡ 0 = eqb-true (vec_len self.kept) 0 is in
    let none : self.kept.items ≡ [] = nil_from_length self.kept.items (omega (arith, empty)) in
    let more = of_saved self.saved c.args.changes.items in
    let kept : c.take_over.new.self.kept.items ≡ self.kept.items ++ more =
    rw none c.take_over.ensures.kept in
    rw (kept, c.take_over.ensures.saved, c.take_over.ensures.rows)
    (base_kept self.saved self.rows self.kept.items c.args.changes.items)

pub returns-in-Ok-clause-replaced : goal.returns-in-Ok-clause-replaced
returns-in-Ok-clause-replaced g c =
    let self = c.args.self.now in
    rw (c.in-Ok.ensures.ok, c.as_slice.ensures.value)
    (all_saved self.saved self.kept.items c.args.changes.items c.requires.replaced)

pub returns-in-Ok-clause-base : goal.returns-in-Ok-clause-base
returns-in-Ok-clause-base g c =
    let self = c.args.self.now in
    rw (c.in-Ok.ensures.ok, c.as_slice.ensures.value)
    (base_kept self.saved self.rows self.kept.items c.args.changes.items)
