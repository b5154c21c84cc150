use Rattle.std.proofs.Common.{◌≡◌, ◌⊎◌, ◌∙◌, ◌∷◌, ◌++◌, ℕ, List, Err, ap, inl, subst, sym, true}
use Rattle.hg_store.specs.Again.{AreOpenedAfter}
use Rattle.hg_store.specs.Calls.{Continue, Event, MayLeave, began, state_of}
use Rattle.hg_store.specs.Entries.{Entry}
use Rattle.hg_store.specs.Files.{IsStore, stored}
use Rattle.hg_store.specs.Head.{head_for}
use Rattle.hg_store.specs.Log.{IsSettledAt}
use Rattle.hg_store.specs.Openings.{IsFound, IsUnopened}
use Rattle.hg_store.specs.Tails.{IsKept, is_blank}
use Rattle.hg_store.specs.code.Batches.{IsWhole}
use Rattle.hg_store.specs.declared.head.Head.{Head}
use Rattle.hg_store.specs.declared.opening.RecoverFault.TheVariants.{Tail}
use Rattle.hg_store.specs.declared.start.StoreFault.TheVariants.{Recover}
use Rattle.hg_store.proofs.Brought.{hiding_of, whole_of}
use Rattle.hg_store.proofs.OneByOne.{spelled_more, store_of}
use Rattle.hg_store.proofs.Tails.{kept_of, lost_is, refused_as}
use Rattle.hg_store.proofs.front.Opening.finish.Goals as goal

pub returns-in-Err-keep_tail-clause-err : goal.returns-in-Err-keep_tail-clause-err
returns-in-Err-keep_tail-clause-err g c = λ setup has.
    let head : Head = head_for setup c.args.self.identity in
    let records : List Entry = c.args.self.records.entries in
    let before : List Event = g.C.Calls.history c.args.self.calls in
    let bytes : List ℕ = g.C.Calls.drawn c.args.self.calls in
    let old : List ℕ = c.args.self.frame.items in
    let tail : List ℕ = c.read_rest.new.tail.items in
    let grown : List ℕ = g.C.Calls.drawn c.read_rest.new.calls in
    let read = c.in-Ok.ensures.read in
    let store : IsStore grown head records tail = store_of head records grown tail has.all.allowed has.all.each
    (spelled_more (stored head records) bytes old read.0 tail grown has.all.read read.1 read.2)
    (inl (c.in-Ok.ensures.ends has.ends)) in
    let left = c.left_over-in-Err-keep_tail in
    let fault = c.in-Err-keep_tail.fault in
    let now : List Event = g.C.Calls.history left.result.calls in
    let same : now ≡ before = ap g.C.Calls.history left.ensures.1 ∙ c.read_rest.ensures.same in
    let refused = refused_as fault grown
    (λ count is.
    let hidden = c.in-Err-keep_tail.ensures.hidden count (ap Err is) in
    hiding_of head records grown tail c.deref.result.now c.args.self.digest count c.args.self.stored store
    c.deref.ensures.value has.all.chained has.all.count hidden.0 hidden.1) in
    subst (λ f. IsUnopened f setup (g.C.Calls.drawn left.result.calls) before now)
    (sym (left.ensures.0 ∙ c.from-in-Err-keep_tail.ensures))
    (subst (λ (b : List ℕ). IsUnopened (Recover (Tail fault)) setup b before now)
    (sym (ap g.C.Calls.drawn left.ensures.1)) (same, refused))

pub returns-in-Err-bring_in_order-clause-err : goal.returns-in-Err-bring_in_order-clause-err
returns-in-Err-bring_in_order-clause-err g c = λ setup has.
    let head : Head = head_for setup c.args.self.identity in
    let records : List Entry = c.args.self.records.entries in
    let before : List Event = g.C.Calls.history c.args.self.calls in
    let bytes : List ℕ = g.C.Calls.drawn c.args.self.calls in
    let old : List ℕ = c.args.self.frame.items in
    let tail : List ℕ = c.read_rest.new.tail.items in
    let grown : List ℕ = g.C.Calls.drawn c.read_rest.new.calls in
    let read = c.in-Ok.ensures.read in
    let store : IsStore grown head records tail = store_of head records grown tail has.all.allowed has.all.each
    (spelled_more (stored head records) bytes old read.0 tail grown has.all.read read.1 read.2)
    (inl (c.in-Ok.ensures.ends has.ends)) in
    let whole : IsWhole head records c.args.self.end c.as_slice.result.now grown =
    whole_of setup c.args.self.identity records bytes old read.0 tail grown c.args.self.end c.args.self.gates.items
    c.as_slice.result.now has.all.allowed has.all.each has.all.read read.1 read.2 (c.in-Ok.ensures.ends has.ends)
    has.all.place c.as_slice.ensures.value has.all.kept in
    let left = c.in-Err-bring_in_order.left in
    let any : List ℕ = g.C.Calls.drawn left.calls in
    subst (λ (b : List Event). IsUnopened left.fault setup any b (g.C.Calls.history left.calls))
    c.read_rest.ensures.same (c.in-Err-bring_in_order.ensures.err head records whole setup any)

pub returns-in-Err-bring_in_order-clause-tail_err : goal.returns-in-Err-bring_in_order-clause-tail_err
returns-in-Err-bring_in_order-clause-tail_err g c =
    let setup = c.requires.0 in
    let has = c.requires.1 in
    let head : Head = head_for setup c.args.self.identity in
    let records : List Entry = c.args.self.records.entries in
    let before : List Event = g.C.Calls.history c.args.self.calls in
    let bytes : List ℕ = g.C.Calls.drawn c.args.self.calls in
    let old : List ℕ = c.args.self.frame.items in
    let tail : List ℕ = c.read_rest.new.tail.items in
    let grown : List ℕ = g.C.Calls.drawn c.read_rest.new.calls in
    let read = c.in-Ok.ensures.read in
    let store : IsStore grown head records tail = store_of head records grown tail has.all.allowed has.all.each
    (spelled_more (stored head records) bytes old read.0 tail grown has.all.read read.1 read.2)
    (inl (c.in-Ok.ensures.ends has.ends)) in
    let whole : IsWhole head records c.args.self.end c.as_slice.result.now grown =
    whole_of setup c.args.self.identity records bytes old read.0 tail grown c.args.self.end c.args.self.gates.items
    c.as_slice.result.now has.all.allowed has.all.each has.all.read read.1 read.2 (c.in-Ok.ensures.ends has.ends)
    has.all.place c.as_slice.ensures.value has.all.kept in
    let now : List Event = g.C.Calls.history c.in-Err-bring_in_order.left.calls in
    let done : List Event = g.K.TailKeeper.done c.keep_tail.new.keeper in
    let stored_at : ℕ = c.args.self.stored in
    let kept : (is_blank tail ≡ true) ⊎ IsKept stored_at tail done =
    subst (λ (t : List ℕ). (is_blank t ≡ true) ⊎ IsKept stored_at t done) c.deref.ensures.value
    (kept_of c.deref.result.now stored_at (g.K.TailKeeper.done c.args.keeper.now) done c.in_default.ensures.kept) in
    lost_is grown before now done head records tail stored_at
    (subst (λ (b : List Event). Continue (began grown ∷ b) now) c.read_rest.ensures.same
    (c.in-Err-bring_in_order.ensures.more head records whole)) store has.all.count kept

pub returns-clause-settled : goal.returns-clause-settled
returns-clause-settled g c = λ setup has.
    let head : Head = head_for setup c.args.self.identity in
    let records : List Entry = c.args.self.records.entries in
    let before : List Event = g.C.Calls.history c.args.self.calls in
    let bytes : List ℕ = g.C.Calls.drawn c.args.self.calls in
    let old : List ℕ = c.args.self.frame.items in
    let tail : List ℕ = c.read_rest.new.tail.items in
    let grown : List ℕ = g.C.Calls.drawn c.read_rest.new.calls in
    let read = c.in-Ok.ensures.read in
    let store : IsStore grown head records tail = store_of head records grown tail has.all.allowed has.all.each
    (spelled_more (stored head records) bytes old read.0 tail grown has.all.read read.1 read.2)
    (inl (c.in-Ok.ensures.ends has.ends)) in
    let whole : IsWhole head records c.args.self.end c.as_slice.result.now grown =
    whole_of setup c.args.self.identity records bytes old read.0 tail grown c.args.self.end c.args.self.gates.items
    c.as_slice.result.now has.all.allowed has.all.each has.all.read read.1 read.2 (c.in-Ok.ensures.ends has.ends)
    has.all.place c.as_slice.ensures.value has.all.kept in
    subst (IsSettledAt (λ f. (state_of (g.C.Calls.history f.calls)).seen)
    (λ f. MayLeave (state_of (g.C.Calls.history f.calls))) head records c.in-Ok-bring_in_order.device c.args.self.end)
    (sym has.all.chained) (c.in-Ok-bring_in_order.ensures.settled head records whole)

pub returns-clause-found : goal.returns-clause-found
returns-clause-found g c = λ setup has.
    let head : Head = head_for setup c.args.self.identity in
    let records : List Entry = c.args.self.records.entries in
    let before : List Event = g.C.Calls.history c.args.self.calls in
    let bytes : List ℕ = g.C.Calls.drawn c.args.self.calls in
    let old : List ℕ = c.args.self.frame.items in
    let tail : List ℕ = c.read_rest.new.tail.items in
    let grown : List ℕ = g.C.Calls.drawn c.read_rest.new.calls in
    let read = c.in-Ok.ensures.read in
    let store : IsStore grown head records tail = store_of head records grown tail has.all.allowed has.all.each
    (spelled_more (stored head records) bytes old read.0 tail grown has.all.read read.1 read.2)
    (inl (c.in-Ok.ensures.ends has.ends)) in
    let whole : IsWhole head records c.args.self.end c.as_slice.result.now grown =
    whole_of setup c.args.self.identity records bytes old read.0 tail grown c.args.self.end c.args.self.gates.items
    c.as_slice.result.now has.all.allowed has.all.each has.all.read read.1 read.2 (c.in-Ok.ensures.ends has.ends)
    has.all.place c.as_slice.ensures.value has.all.kept in
    subst (λ (b : List Event). IsFound head records b (g.C.Calls.history c.in-Ok-bring_in_order.device.calls))
    c.read_rest.ensures.same (c.in-Ok-bring_in_order.ensures.found head records whole)

pub returns-clause-again : goal.returns-clause-again
returns-clause-again g c = λ setup has.
    let head : Head = head_for setup c.args.self.identity in
    let records : List Entry = c.args.self.records.entries in
    let before : List Event = g.C.Calls.history c.args.self.calls in
    let bytes : List ℕ = g.C.Calls.drawn c.args.self.calls in
    let old : List ℕ = c.args.self.frame.items in
    let tail : List ℕ = c.read_rest.new.tail.items in
    let grown : List ℕ = g.C.Calls.drawn c.read_rest.new.calls in
    let read = c.in-Ok.ensures.read in
    let store : IsStore grown head records tail = store_of head records grown tail has.all.allowed has.all.each
    (spelled_more (stored head records) bytes old read.0 tail grown has.all.read read.1 read.2)
    (inl (c.in-Ok.ensures.ends has.ends)) in
    let whole : IsWhole head records c.args.self.end c.as_slice.result.now grown =
    whole_of setup c.args.self.identity records bytes old read.0 tail grown c.args.self.end c.args.self.gates.items
    c.as_slice.result.now has.all.allowed has.all.each has.all.read read.1 read.2 (c.in-Ok.ensures.ends has.ends)
    has.all.place c.as_slice.ensures.value has.all.kept in
    subst (λ (b : List Event). AreOpenedAfter head records b
    (g.C.Calls.history c.in-Ok-bring_in_order.device.calls))
    c.read_rest.ensures.same (c.in-Ok-bring_in_order.ensures.again head records whole)

pub returns-clause-tail : goal.returns-clause-tail
returns-clause-tail g c =
    let setup = c.requires.0 in
    let has = c.requires.1 in
    let head : Head = head_for setup c.args.self.identity in
    let records : List Entry = c.args.self.records.entries in
    let before : List Event = g.C.Calls.history c.args.self.calls in
    let bytes : List ℕ = g.C.Calls.drawn c.args.self.calls in
    let old : List ℕ = c.args.self.frame.items in
    let tail : List ℕ = c.read_rest.new.tail.items in
    let grown : List ℕ = g.C.Calls.drawn c.read_rest.new.calls in
    let read = c.in-Ok.ensures.read in
    let store : IsStore grown head records tail = store_of head records grown tail has.all.allowed has.all.each
    (spelled_more (stored head records) bytes old read.0 tail grown has.all.read read.1 read.2)
    (inl (c.in-Ok.ensures.ends has.ends)) in
    let whole : IsWhole head records c.args.self.end c.as_slice.result.now grown =
    whole_of setup c.args.self.identity records bytes old read.0 tail grown c.args.self.end c.args.self.gates.items
    c.as_slice.result.now has.all.allowed has.all.each has.all.read read.1 read.2 (c.in-Ok.ensures.ends has.ends)
    has.all.place c.as_slice.ensures.value has.all.kept in
    let now : List Event = g.C.Calls.history c.in-Ok-bring_in_order.device.calls in
    let done : List Event = g.K.TailKeeper.done c.keep_tail.new.keeper in
    let stored_at : ℕ = c.args.self.stored in
    let kept : (is_blank tail ≡ true) ⊎ IsKept stored_at tail done =
    subst (λ (t : List ℕ). (is_blank t ≡ true) ⊎ IsKept stored_at t done) c.deref.ensures.value
    (kept_of c.deref.result.now stored_at (g.K.TailKeeper.done c.args.keeper.now) done c.in_default.ensures.kept) in
    lost_is grown before now done head records tail stored_at
    (subst (λ (b : List Event). Continue (began grown ∷ b) now) c.read_rest.ensures.same
    (c.in-Ok-bring_in_order.ensures.more head records whole)) store has.all.count kept
