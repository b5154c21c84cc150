use Rattle.std.proofs.Common.{◌∙◌, ◌<◌, sym, ap}
use Rattle.std.specs.Prelude.{Some}
use Rattle.std.proofs.lemmas.List.{length-set}
use Rattle.std.proofs.lemmas.List.Elements.{All-pop}
use Rattle.hg_phases.specs.declared.tape.Replaced.{Replaced}
use Rattle.hg_phases.specs.code.Tape.{undone}
use Rattle.hg_phases.proofs.Undoing.{undone_push}
use Rattle.hg_phases.proofs.tape.Tape.back.Goals as goal

pub back-preserved : goal.back-preserved
back-preserved g c =
    let saved = c.args.self.now.saved in
    let rows = c.back.self.rows in
    let rest = c.pop.new.self.items in
    let change = c.in-Some.change in
    let popped = c.in-Some.ensures.items in
    let all = All-pop (λ (r : Replaced). r.row < saved) c.back.self.kept.items rest
    (Some change) popped c.back.invariant.replaced in
    rw c.set.ensures (record {
      saved = c.back.invariant.saved;
      len = length-set rows change.row change.standing ∙ c.back.invariant.len;
      replaced = all.0;
      base = sym (undone_push rest change rows) ∙ ap (λ ks. undone ks rows) (sym popped)
          ∙ c.back.invariant.base;
    })
