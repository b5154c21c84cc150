use Rattle.std.proofs.Common.{◌≡◌, ◌∙◌, length, ap, arith}
use Rattle.std.proofs.lemmas.List.{length-take-le}
use Rattle.hg_phases.specs.code.Tape.{undone}
use Rattle.hg_phases.proofs.Undoing.{undone_length}
use Rattle.hg_phases.proofs.Soundness.{sound_unsaved}
use Rattle.hg_phases.proofs.phases.Phases.back_to.Goals as goal

pub invariant_of-self : goal.invariant_of-self
invariant_of-self g c =
    let old = c.self.inside in
    let index = c.back.new.self in
    let before = undone old.index.kept.items old.index.rows in
    let all : length before ≡ length old.index.rows =
    undone_length old.index.kept.items old.index.rows in
    let size : length index.rows ≡ old.index.saved = ap length c.back.ensures.rows
    ∙ length-take-le old.index.saved before (omega (arith, all, c.self.invariant.within)) in
    sound_unsaved index.rows index.kept.items index.saved c.back.ensures.saved
    c.back.ensures.kept (omega (arith, size, c.self.invariant.within, c.self.invariant.few))
