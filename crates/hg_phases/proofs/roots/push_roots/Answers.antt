use Rattle.std.proofs.Common.{◌∙◌, ◌++◌, ◌∷◌, [], ◌+◌, Bool, cond, List, ℕ, ap, sym}
use Rattle.std.proofs.lemmas.List.{append-nil}
use Rattle.hg_types.specs.declared.phase.Phase.TheVariants.{Draft}
use Rattle.hg_phases.proofs.Told.{told_none}
use Rattle.hg_phases.proofs.Passing.{root_more}
use Rattle.hg_phases.proofs.roots.push_roots.Goals as goal
use Rattle.hg_phases.proofs.roots.push_roots.Goals.{then-is_draft_root+in_ok-push, else-is_draft_root}

pub loop-place-init : goal.loop-place-init
loop-place-init g c =
    let before = c.args.roots.now.items in
    sym (append-nil before) ∙ ap (λ (ks : List ℕ). before ++ ks) (sym (told_none Draft c.args.first))

pub loop-place-preserved : goal.loop-place-preserved
loop-place-preserved g c =
    let was = c.loop-place.roots.items in
    let more = root_more c.args.first c.loop-place.place c.args.rows.now c.args.roots.now.items was
    c.if-is_draft_root.roots.items c.is_draft_root.result c.loop-place-test.true c.is_draft_root.ensures
    c.loop-place.invariant in
    let number = c.args.first + c.loop-place.place in
    elim c.if-is_draft_root.branch [
      | then-is_draft_root+in_ok-push w ↦ more
          (ap (λ roots. roots.items) w.roots-is ∙ w.in_ok-push.ensures.items
          ∙ ap (λ (b : Bool). was ++ cond b (number ∷ []) []) (sym w.if-is_draft_root.true))
      | else-is_draft_root w ↦ more
          (ap (λ roots. roots.items) w.roots-is ∙ sym (append-nil was)
          ∙ ap (λ (b : Bool). was ++ cond b (number ∷ []) []) (sym w.if-is_draft_root.false))
    ]
