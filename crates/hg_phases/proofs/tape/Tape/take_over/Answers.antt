use Rattle.std.proofs.Common.{◌∙◌, ltb, ap, sym, arith, rules}
use Rattle.std.proofs.lemmas.Fn.{filter_same}
use Rattle.hg_phases.specs.declared.tape.Replaced.{Replaced}
use Rattle.hg_phases.proofs.Undoing.{saved_all}
use Rattle.hg_phases.proofs.tape.Tape.take_over.Goals as goal
use Rattle.hg_phases.proofs.tape.Tape.take_over.Goals.{then-saved-len, else-saved-len}

pub returns-clause-kept : goal.returns-clause-kept
returns-clause-kept g c =
    let saved = c.args.self.now.saved in
    let changes = c.args.changes.items in
    elim c.if-saved-len.branch [
      | then-saved-len w ↦ ap (λ v. v.items) w.kept-is
          ∙ filter_same _ (λ (r : Replaced). ltb r.row saved) _ (λ x b f' k. search rules) _ _
          w.retain.ensures.filtered
      | else-saved-len w ↦ ap (λ v. v.items) w.kept-is ∙ sym (saved_all saved changes (λ k d low.
          let within = c.requires.within k d low in
          omega (arith, within, w.if-saved-len.false, c.len.ensures)))
    ]
