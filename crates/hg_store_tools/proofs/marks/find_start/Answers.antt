use Rattle.std.proofs.Common.{◌∙◌, [], ◌∷◌, inl, inr, refl, subst, sym}
use Rattle.std.proofs.lemmas.Option.{IfSome_then}
use Rattle.std.proofs.lemmas.Result.{IfOk-weaker}
use Rattle.std.specs.List.{AllByRecursion}
use Rattle.hg_store.specs.Head.{version_of}
use Rattle.hg_store_tools.specs.Places.{LeadsTo}
use Rattle.hg_store_tools.proofs.Walks.{both_ok, found_begins, found_index, found_place, says_so}
use Rattle.hg_store_tools.proofs.marks.find_start.Goals as goal

pub returns-then-not-is_empty-clause-mark : goal.returns-then-not-is_empty-clause-mark
returns-then-not-is_empty-clause-mark g c =
    IfOk-weaker c.found_start.result _ _
    (λ told among. found_place c.in-Ok.front.head c.in-Ok.front.mark told.start.mark c.mark_before-until.result
    c.args.from c.in-Ok-walk.found.items c.deref-then-not-is_empty.result.now c.in-Ok.ensures.mark
    c.deref-then-not-is_empty.ensures.value c.in-Ok-walk.ensures.places c.mark_before-until.ensures among)
    c.found_start.ensures.mark

pub returns-then-not-is_empty-clause-file : goal.returns-then-not-is_empty-clause-file
returns-then-not-is_empty-clause-file g c =
    let front = c.in-Ok.front in
    let known = c.in-Ok-known_marks.known.items in
    let after = c.in-Some.ensures.among.0 in
    let split = sym c.deref.ensures.value ∙ c.in-Some.ensures.among.1 in
    both_ok c.found_start.result c.found_start.ensures.head c.found_start.ensures.mark
    (λ told is among. λ file given. found_begins file c.args.index.now front.head front.mark
    c.deref-then-not-is_empty.result.now known c.in-Some.mark c.in-Ok.ensures.mark
    (says_so c.args.index.now front.head front.mark known c.in-Ok.ensures.mark c.in-Ok-known_marks.ensures)
    (inr (c.in-Some.earlier.now, after, split))
    (subst (AllByRecursion (LeadsTo (version_of front.head) _ c.in-Some.mark))
    (sym c.deref-then-not-is_empty.ensures.value) (c.in-Ok-walk.ensures.lead file given))
    told.start is (c.in-Ok.ensures.file file given) among)

pub returns-then-not-is_empty-clause-index : goal.returns-then-not-is_empty-clause-index
returns-then-not-is_empty-clause-index g c =
    let front = c.in-Ok.front in
    let known = c.in-Ok-known_marks.known.items in
    let after = c.in-Some.ensures.among.0 in
    let split = sym c.deref.ensures.value ∙ c.in-Some.ensures.among.1 in
    both_ok c.found_start.result c.found_start.ensures.head c.found_start.ensures.index
    (λ told is spelled. IfSome_then told.index spelled
    (λ bytes so. λ file given. found_index file c.args.index.now front.head front.mark
    c.deref-then-not-is_empty.result.now known c.in-Some.mark c.in-Ok.ensures.mark
    (says_so c.args.index.now front.head front.mark known c.in-Ok.ensures.mark c.in-Ok-known_marks.ensures)
    (inr (c.in-Some.earlier.now, after, split))
    (subst (AllByRecursion (LeadsTo (version_of front.head) _ c.in-Some.mark))
    (sym c.deref-then-not-is_empty.ensures.value) (c.in-Ok-walk.ensures.lead file given))
    told.start c.in-Some.earlier.now (c.in-Some.mark ∷ after) bytes.items is split so))

pub returns-in-Ok-walk-2-clause-mark : goal.returns-in-Ok-walk-2-clause-mark
returns-in-Ok-walk-2-clause-mark g c =
    IfOk-weaker c.found_start-in-Ok-walk-2.result _ _
    (λ told among. found_place c.in-Ok.front.head c.in-Ok.front.mark told.start.mark c.mark_before-until.result
    c.args.from c.in-Ok-walk-2.found.items c.deref-in-Ok-walk-2.result.now c.in-Ok.ensures.mark
    c.deref-in-Ok-walk-2.ensures.value c.in-Ok-walk-2.ensures.places c.mark_before-until.ensures among)
    c.found_start-in-Ok-walk-2.ensures.mark

pub returns-in-Ok-walk-2-clause-file : goal.returns-in-Ok-walk-2-clause-file
returns-in-Ok-walk-2-clause-file g c =
    let front = c.in-Ok.front in
    both_ok c.found_start-in-Ok-walk-2.result c.found_start-in-Ok-walk-2.ensures.head
    c.found_start-in-Ok-walk-2.ensures.mark
    (λ told is among. λ file given. found_begins file c.args.index.now front.head front.mark
    c.deref-in-Ok-walk-2.result.now [] front.mark c.in-Ok.ensures.mark (inl refl) (inl c.in-Ok.ensures.mark)
    (subst (AllByRecursion (LeadsTo (version_of front.head) _ front.mark)) (sym c.deref-in-Ok-walk-2.ensures.value)
    (c.in-Ok-walk-2.ensures.lead file given))
    told.start is (c.in-Ok.ensures.file file given) among)

pub returns-in-Ok-walk-2-clause-index : goal.returns-in-Ok-walk-2-clause-index
returns-in-Ok-walk-2-clause-index g c =
    let front = c.in-Ok.front in
    both_ok c.found_start-in-Ok-walk-2.result c.found_start-in-Ok-walk-2.ensures.head
    c.found_start-in-Ok-walk-2.ensures.index
    (λ told is spelled. IfSome_then told.index spelled
    (λ bytes so. λ file given. found_index file c.args.index.now front.head front.mark
    c.deref-in-Ok-walk-2.result.now [] front.mark c.in-Ok.ensures.mark (inl refl) (inl c.in-Ok.ensures.mark)
    (subst (AllByRecursion (LeadsTo (version_of front.head) _ front.mark)) (sym c.deref-in-Ok-walk-2.ensures.value)
    (c.in-Ok-walk-2.ensures.lead file given))
    told.start [] [] bytes.items is refl so))
