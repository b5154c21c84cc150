use Rattle.std.proofs.Common.{◌∙◌, subst, sym}
use Rattle.std.specs.Prelude.{IfOk}
use Rattle.hg_wireproto.specs.Viewed.{IsBefore}
use Rattle.hg_wireproto.proofs.Publishing.{goes_on, nothing_front}
use Rattle.hg_queries.specs.Copied.{IsBrought}
use Rattle.hg_queries.proofs.Shelves.{all_front, front_on}
use Rattle.hg_queries.proofs.view_cache.ViewCache.bring_up.Goals as goal

pub invariant_of-self : goal.invariant_of-self
invariant_of-self g c =
    let looked = c.look_beside-brought.ensures.looked in
    let repo = looked.0 in
    let brought = subst (λ r. IfOk r (λ b. IsBrought repo c.seen.result.changesets c.seen.result.markers
    c.seen.result.obsolete.now c.args.asked b)) c.in-Ok.is looked.4 in
    all_front c.in-Ok-with.view repo _ _ _ _ c.in-Ok.field-0.came c.in-Ok-with.ensures brought.came looked.3

pub invariant_of-self-in-Err-1 : goal.invariant_of-self-in-Err-1
invariant_of-self-in-Err-1 g c =
    nothing_front c.replace-held.new.dest _ _ _ (c.replace-held.ensures.after ∙ c.new.ensures)

pub invariant_of-self-in-Err : goal.invariant_of-self-in-Err
invariant_of-self-in-Err g c =
    let looked = c.look_beside-brought.ensures.looked in
    let held = c.self.inside.held in
    front_on held looked.0 _ (front_on held _ looked.0 c.self.invariant looked.2) looked.3

pub with-requires : goal.with-requires
with-requires g c =
    let looked = c.look_beside-brought.ensures.looked in
    let repo = looked.0 in
    let held = c.self.inside.held in
    let came = c.in-Ok.field-0.came in
    let brought = subst (λ r. IfOk r (λ b. IsBrought repo c.seen.result.changesets c.seen.result.markers
    c.seen.result.obsolete.now c.args.asked b)) c.in-Ok.is looked.4 in
    subst (λ view. IsBefore view came) (sym c.replace-held.ensures.value)
    (goes_on held came c.seen.result.changesets c.seen.result.markers c.seen.result.obsolete.now repo.rows repo.markers
    repo.phases c.seen.ensures.changesets c.seen.ensures.markers c.seen.ensures.obsolete c.seen.ensures.phases
    (front_on held _ repo c.self.invariant looked.2) brought.came)
