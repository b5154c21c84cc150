use Rattle.std.proofs.Common.{◌≡◌, ◌∙◌, ◌∷◌, ◌++◌, [], ℕ, List, ap, arith, subst, sym}
use Rattle.hg_store.specs.Again.{HasGates}
use Rattle.hg_store.proofs.Again.{gates_more, gates_moved}
use Rattle.hg_store.proofs.gates.add_gate.Goals.{then-len-ge-BATCH_RECORDS, else-len-ge-BATCH_RECORDS}
use Rattle.hg_store.proofs.gates.add_gate.Goals as goal

pub returns : goal.returns
returns g c = λ head records more has at.
    let before : List ℕ = c.args.gates.now.items in
    let made : c.push.new.self.items ≡ c.if-len-ge-BATCH_RECORDS.gates.items ++ c.args.at ∷ [] =
    c.in_ok-push.ensures.items in
    elim c.if-len-ge-BATCH_RECORDS.branch [
      | then-len-ge-BATCH_RECORDS w ↦
          subst (HasGates head (records ++ more ∷ []))
          (sym (made ∙ ap (λ v. v.items ++ c.args.at ∷ []) w.gates-is))
          (gates_moved head records more before c.args.at has at
          (omega (arith, w.if-len-ge-BATCH_RECORDS.true, c.len.ensures)) w.remove.new.self.items
          w.remove.ensures.by_index.2)
      | else-len-ge-BATCH_RECORDS w ↦
          subst (HasGates head (records ++ more ∷ []))
          (sym (made ∙ ap (λ v. v.items ++ c.args.at ∷ []) w.gates-is))
          (gates_more head records more before c.args.at has at
          (omega (arith, w.if-len-ge-BATCH_RECORDS.false, c.len.ensures)))
    ]
