use Rattle.std.proofs.Common.{◌≡◌, List, ℕ, Result, Ok, Err, OnErr, ap, take, sym, subst, ◌∙◌}
use Rattle.std.proofs.lemmas.List.{take_all}
use Rattle.hg_keys.specs.Bookmarks.{Saved, HaveSameNames, set_each, with_bookmark}
use Rattle.hg_keys.specs.Payload.{Entry}
use Rattle.hg_keys.proofs.SortLemmas.{any_order_of_names, set_next, partly_set, none_set}
use Rattle.hg_keys.proofs.bookmarks.Bookmarks.set_each.Goals as goal

-- a fact that holds in any case holds after an error
on_err : {X E : Type 0} (r : Result X E) (P : Type 0) → P → OnErr r P
on_err (Ok x) P holds = tt
on_err (Err e) P holds = holds

pub returns-clause-ok : goal.returns-clause-ok
returns-clause-ok g c =
    let items = c.as_slice-entry-items.result.now in
    let before = c.args.self.now.current in
    let all : take c.loop-entry.entry-index items ≡ items = take_all c.loop-entry.entry-index items c.loop-entry-test.false in
    c.loop-entry.invariant.set ∙ ap (λ (es : List Entry). set_each es before) all
    ∙ ap (λ (es : List Entry). set_each es before) c.as_slice-entry-items.ensures.value
    ∙ any_order_of_names c.args.entries c.in_ok-entries.entries.items before c.len-in_order.ensures.in_order
    c.in_ok-entries.ensures

pub returns-in_err-entries-clause-err : goal.returns-in_err-entries-clause-err
returns-in_err-entries-clause-err g c =
    on_err c.from_residual.result _ (none_set c.args.entries c.args.self.now.current)

pub returns-in_err-set-clause-err : goal.returns-in_err-set-clause-err
returns-in_err-set-clause-err g c =
    let items = c.as_slice-entry-items.result.now in
    let i = c.loop-entry.entry-index in
    let same : HaveSameNames c.args.entries items = subst (HaveSameNames c.args.entries)
    (sym c.as_slice-entry-items.ensures.value) c.in_ok-entries.ensures in
    on_err c.from_residual-in_err-set.result _
    (partly_set c.args.entries items i c.args.self.now.current c.set.new.self.current same
    (ap (λ (saved : Saved). saved.current) c.in_err-set.ensures.err ∙ c.loop-entry.invariant.set))

pub loop-entry-preserved : goal.loop-entry-preserved
loop-entry-preserved g c =
    let items = c.as_slice-entry-items.result.now in
    let entry = c.entry-item.result in
    let pairs = c.loop-entry.self.current in
    record {
      saved = ap (λ (saved : Saved). saved.saved) c.in_ok-set.ensures.ok ∙ c.loop-entry.invariant.saved;
      set = ap (λ (saved : Saved). saved.current) c.in_ok-set.ensures.ok
          ∙ ap (λ (name : List ℕ). with_bookmark pairs name entry.0) c.as_slice.ensures
          ∙ set_next items c.loop-entry.entry-index entry c.args.self.now.current pairs c.loop-entry-test.true
          c.entry-item.is c.loop-entry.invariant.set;
    }
