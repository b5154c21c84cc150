use Rattle.std.proofs.Common.{◌≡◌, ◌∙◌, ◌+◌, ◌<◌, [], ◌∷◌, ◌++◌, cond, length, refl, ap, arith}
use Rattle.std.proofs.lemmas.List.{length-map, length_push, map_push}
use Rattle.hg_types.specs.declared.phase.Phase.TheVariants.{Draft, Secret}
use Rattle.hg_log.specs.Parents.{parents_of}
use Rattle.hg_log.proofs.CallerLemmas.{ordered}
use Rattle.hg_phases.specs.Order.{greater, phase_of, phase_above}
use Rattle.hg_phases.specs.Roots.{begins}
use Rattle.hg_phases.specs.Phases.{Phasing, AreFor}
use Rattle.hg_phases.specs.Standing.{phase_told, phases_told, is_told, told}
use Rattle.hg_phases.specs.code.Tape.{base_of}
use Rattle.hg_phases.proofs.Kept.{registered_is, registered_for}
use Rattle.hg_phases.proofs.Told.{phase_of_standing, told_begins}
use Rattle.hg_phases.proofs.Undoing.{base_add}
use Rattle.hg_phases.proofs.Soundness.{sound_changed, told_added, saved_as, for_parts}
use Rattle.hg_phases.proofs.phases.Phases.register.Goals as goal

pub invariant_of-self-2 : goal.invariant_of-self-2
invariant_of-self-2 g c =
    let old = c.self.inside in
    let was = old.index.rows in
    let x = c.of-row.result in
    let now = c.push.new.self in
    let grown : now ≡ was ++ x ∷ [] = c.in_ok-push.ensures.ok in
    let next : c.args.rev ≡ length (phases_told was) = rw (← c.self.view_is) at c.requires.next in
    let at : c.args.rev ≡ length was = next ∙ length-map was phase_told in
    let longer : length now ≡ length was + 1 = ap length grown ∙ length_push was x in
    sound_changed was now old.index.kept.items old.index.kept.items old.index.saved old.index.saved
    c.self.invariant (omega (arith, longer, at, c.ranges.rev.fits)) (omega (arith, longer)) refl
    c.self.invariant.replaced

pub returns-clause-ok : goal.returns-clause-ok
returns-clause-ok g c =
    let old = c.self.inside in
    let was = old.index.rows in
    let x = c.of-row.result in
    let now = c.push.new.self in
    let grown : now ≡ was ++ x ∷ [] = c.in_ok-push.ensures.ok in
    let next : c.args.rev ≡ length (phases_told was) = rw (← c.self.view_is) at c.requires.next in
    let at : c.args.rev ≡ length was = next ∙ length-map was phase_told in
    let rows = c.args.log.now.rows in
    let above = c.greater-above.result in
    let seen = c.as_slice-rows.ensures.value in
    let first : c.phase_of.result ≡ phase_of (phases_told was)
    (parents_of rows (length (phases_told was))).0 =
    c.phase_of.ensures ∙ ap (λ xs. phase_of (phases_told xs) c.parent_revs-p1.result.0) seen
    ∙ ap (phase_of (phases_told was)) (c.parent_revs-p1.ensures.first
    ∙ ap (λ k. (parents_of rows k).0) next) in
    let second : c.phase_of-2.result ≡ phase_of (phases_told was)
    (parents_of rows (length (phases_told was))).1 =
    c.phase_of-2.ensures ∙ ap (λ xs. phase_of (phases_told xs) c.parent_revs-p1.result.1) seen
    ∙ ap (phase_of (phases_told was)) (c.parent_revs-p1.ensures.second
    ∙ ap (λ k. (parents_of rows k).1) next) in
    let above_is : above ≡ phase_above (parents_of rows) (phases_told was) (length (phases_told was)) =
    c.greater-above.ensures ∙ ap (λ y. greater y c.phase_of-2.result) first
    ∙ ap (λ y. greater (phase_of (phases_told was) (parents_of rows (length (phases_told was))).0) y)
    second in
    let phase_is : phase_told x ≡ greater c.args.target above = ap phase_told c.of-row.ensures
    ∙ phase_of_standing c.greater.result above ∙ c.greater.ensures in
    let index : phases_told now ≡ phases_told was ++ greater c.args.target above ∷ [] =
    ap phases_told grown ∙ map_push phase_told was x ∙ ap (λ p. phases_told was ++ p ∷ []) phase_is in
    rw (← c.self.view_is) (index
    ∙ registered_is (parents_of rows) c.args.target above (phases_told was) above_is)

pub returns-clause-fits : goal.returns-clause-fits
returns-clause-fits g c =
    let old = c.self.inside in
    let was = old.index.rows in
    let x = c.of-row.result in
    let now = c.push.new.self in
    let grown : now ≡ was ++ x ∷ [] = c.in_ok-push.ensures.ok in
    let next : c.args.rev ≡ length (phases_told was) = rw (← c.self.view_is) at c.requires.next in
    let at : c.args.rev ≡ length was = next ∙ length-map was phase_told in
    let rows = c.args.log.now.rows in
    let above = c.greater-above.result in
    let seen = c.as_slice-rows.ensures.value in
    let first : c.phase_of.result ≡ phase_of (phases_told was)
    (parents_of rows (length (phases_told was))).0 =
    c.phase_of.ensures ∙ ap (λ xs. phase_of (phases_told xs) c.parent_revs-p1.result.0) seen
    ∙ ap (phase_of (phases_told was)) (c.parent_revs-p1.ensures.first
    ∙ ap (λ k. (parents_of rows k).0) next) in
    let second : c.phase_of-2.result ≡ phase_of (phases_told was)
    (parents_of rows (length (phases_told was))).1 =
    c.phase_of-2.ensures ∙ ap (λ xs. phase_of (phases_told xs) c.parent_revs-p1.result.1) seen
    ∙ ap (phase_of (phases_told was)) (c.parent_revs-p1.ensures.second
    ∙ ap (λ k. (parents_of rows k).1) next) in
    let above_is : above ≡ phase_above (parents_of rows) (phases_told was) (length (phases_told was)) =
    c.greater-above.ensures ∙ ap (λ y. greater y c.phase_of-2.result) first
    ∙ ap (λ y. greater (phase_of (phases_told was) (parents_of rows (length (phases_told was))).0) y)
    second in
    let phase_is : phase_told x ≡ greater c.args.target above = ap phase_told c.of-row.ensures
    ∙ phase_of_standing c.greater.result above ∙ c.greater.ensures in
    let index : phases_told now ≡ phases_told was ++ greater c.args.target above ∷ [] =
    ap phases_told grown ∙ map_push phase_told was x ∙ ap (λ p. phases_told was ++ p ∷ []) phase_is in
    let drafts : told Draft now ≡ told Draft was ++ cond (is_told Draft x) (c.args.rev ∷ []) [] =
    told_added Draft was now x c.args.rev at grown in
    let secrets : told Secret now ≡ told Secret was ++ cond (is_told Secret x) (c.args.rev ∷ []) [] =
    told_added Secret was now x c.args.rev at grown in
    let kept : Phasing = record {
      phases = phases_told was;
      draft = told Draft was;
      secret = told Secret was;
    } in
    let fits : AreFor rows kept = rw (← c.self.view_is) at c.requires.fits in
    let room : length (phases_told was) < length rows = rw next at c.requires.row in
    let draft : told Draft now ≡ kept.draft
    ++ cond (begins Draft above (greater c.args.target above)) (length (phases_told was) ∷ []) [] =
    drafts ∙ ap (λ b. kept.draft ++ cond b (c.args.rev ∷ []) []) (ap (is_told Draft) c.of-row.ensures
    ∙ told_begins Draft c.greater.result above ∙ ap (begins Draft above) c.greater.ensures)
    ∙ ap (λ k. kept.draft ++ cond (begins Draft above (greater c.args.target above)) (k ∷ []) []) next in
    let secret : told Secret now ≡ kept.secret
    ++ cond (begins Secret above (greater c.args.target above)) (length (phases_told was) ∷ []) [] =
    secrets ∙ ap (λ b. kept.secret ++ cond b (c.args.rev ∷ []) []) (ap (is_told Secret) c.of-row.ensures
    ∙ told_begins Secret c.greater.result above ∙ ap (begins Secret above) c.greater.ensures)
    ∙ ap (λ k. kept.secret ++ cond (begins Secret above (greater c.args.target above)) (k ∷ []) []) next in
    for_parts rows (phases_told now) (phases_told was ++ greater c.args.target above
    ∷ []) (told Draft now) _ (told Secret now) _ index draft secret
    (registered_for rows kept c.args.target above (ordered rows c.len-lawful.ensures.lawful) fits room
    above_is)

pub returns-clause-saved : goal.returns-clause-saved
returns-clause-saved g c =
    let old = c.self.inside in
    let was = old.index.rows in
    let x = c.of-row.result in
    let now = c.push.new.self in
    let grown : now ≡ was ++ x ∷ [] = c.in_ok-push.ensures.ok in
    let base : base_of old.index.saved now old.index.kept.items ≡ base_of old.index.saved was
    old.index.kept.items =
    ap (λ xs. base_of old.index.saved xs old.index.kept.items) grown
    ∙ base_add old.index.saved was (x ∷ []) old.index.kept.items c.self.invariant.within in
    rw (← c.self.view_is) (ap (saved_as old.is_saved) base)
