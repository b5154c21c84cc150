use Rattle.std.proofs.Common.{◌≡◌, ◌∙◌, length, get_or, inl, inr, Ok, Err, sym, subst, arith}
use Rattle.std.proofs.lemmas.Result.{err_from_is_err_and}
use Rattle.std.proofs.Math.Seq.{map-set_same}
use Rattle.hg_types.specs.declared.entry.Entry.{Entry}
use Rattle.hg_log.specs.Answer.{answer_of}
use Rattle.hg_parts.specs.parts.Changegroup.{Grown, grown_by, add_each}
use Rattle.hg_parts.specs.code.Changegroup.{grown_of, AddGives}
use Rattle.hg_parts.proofs.Growing.{grown_on}
use Rattle.hg_parts.proofs.Adding.{add_step, add_fault, add_all, as_it_was, behind_it}
use Rattle.hg_parts.proofs.parts.changegroup.add_each.Goals as goal

pub entries-preserved : goal.entries-preserved
entries-preserved g c =
    let start : Grown = grown_of c.args.store.now in
    let next : Grown = grown_of c.add_one.new.store in
    let entry = c.index-entries-number.result in
    let before = c.entries.invariant in
    let here : entry ≡ get_or c.args.entries.now c.entries.number entry =
    c.index-entries-number.is ∙ as_it_was c.args.entries.now c.entries.entries c.entries.number entry before.behind in
    record {
      sound = c.in_ok-add_one.ensures.sound;
      grown = grown_on _ _ _ before.grown c.in_ok-add_one.ensures.grown;
      others = record {
        markers = c.in_ok-add_one.ensures.others.markers ∙ before.others.markers;
        bookmarks = c.in_ok-add_one.ensures.others.bookmarks ∙ before.others.bookmarks;
      };
      ids = map-set_same (λ (e : Entry g.row.A.Denot). e.node) c.entries.entries c.entries.number
          c.add_one.new.entry entry
          c.in_ok-add_one.ensures.id ∙ before.ids;
      behind = behind_it c.args.entries.now c.entries.entries c.entries.number c.add_one.new.entry before.behind;
      reached = add_step c.args.settings.now.limits c.args.t c.args.entries.now c.entries.number entry start
          c.entries.store.log c.entries.store.phases.current.phases next before.sound.limits
          c.entries-test.true here before.reached
          (subst (λ (e : Entry g.row.A.Denot). grown_by c.args.t c.entries.store.phases.current.phases
          (answer_of c.entries.store.log e) ≡ Ok next) (sym c.index-entries-number.is)
          c.in_ok-add_one.ensures.gives);
    }

pub returns-clause-gives : goal.returns-clause-gives
returns-clause-gives g c =
    let start : Grown = grown_of c.args.store.now in
    let now : Grown = grown_of c.entries.store in
    let all : c.entries.number ≡ length c.args.entries.now = omega
    (arith, c.entries-test.false, c.entries.auto.number-end) in
    add_all c.args.settings.now.limits c.args.t c.args.entries.now c.entries.number start now all
    c.entries.invariant.reached

pub returns-in_err-add_one-clause-gives : goal.returns-in_err-add_one-clause-gives
returns-in_err-add_one-clause-gives g c =
    let start : Grown = grown_of c.args.store.now in
    let now : Grown = grown_of c.add_one.new.store in
    let fault = c.in_err-add_one.field-0.0 in
    let entry = c.index-entries-number.result in
    let before = c.entries.invariant in
    let here : entry ≡ get_or c.args.entries.now c.entries.number entry =
    c.index-entries-number.is ∙ as_it_was c.args.entries.now c.entries.entries c.entries.number entry before.behind in
    let p = err_from_is_err_and c.from_residual.result c.from_residual.ensures.1 in
    let told : c.from_residual.result ≡ Err fault = cc in
    subst (λ result. AddGives (add_each c.args.settings.now.limits c.args.t c.args.entries.now start) now
    result) (sym told)
    (elim c.in_err-add_one.ensures.gives [
      | inl none ↦ inl none
      | inr refused ↦ inr (add_fault c.args.settings.now.limits c.args.t c.args.entries.now c.entries.number
          entry start c.entries.store.log c.entries.store.phases.current.phases fault
          before.sound.limits c.entries-test.true here before.reached
          (subst (λ (e : Entry g.row.A.Denot). grown_by c.args.t c.entries.store.phases.current.phases
          (answer_of c.entries.store.log e) ≡ Err fault) (sym c.index-entries-number.is) refused))
    ])
