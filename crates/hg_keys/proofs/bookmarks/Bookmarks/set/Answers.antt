use Rattle.std.proofs.Common.{◌≡◌, ◌≤◌, ◌+◌, ◌++◌, Some, None, cond, List, length, sym, ap, subst, ◌∙◌, arith}
use Rattle.std.specs.Option.{option_to_list}
use Rattle.hg_keys.specs.declared.bookmarks.Change.{Change}
use Rattle.hg_keys.specs.Bookmarks.{Saved, Pairs, with_bookmark}
use Rattle.hg_keys.specs.code.Changes.{IsSound, base_of}
use Rattle.hg_keys.proofs.ChangeLemmas.{sound_unsaved, sound_same, sound_kept, savepoint_kept, no_savepoint}
use Rattle.hg_keys.proofs.bookmarks.Bookmarks.set.Goals as goal

-- ---- without a savepoint

pub invariant_of-self : goal.invariant_of-self
invariant_of-self g c =
    let old = c.self.inside in
    let new = c.put.new.names in
    sound_unsaved new.pairs old.changes.items new.room old.is_saved c.if-not-self.true

pub invariant_of-self-then-not-self : goal.invariant_of-self-then-not-self
invariant_of-self-then-not-self g c =
    let old = c.self.inside in
    let new = c.put.new.names in
    sound_unsaved new.pairs old.changes.items new.room old.is_saved c.if-not-self.true

pub returns-then-not-self-clause-ok : goal.returns-then-not-self-clause-ok
returns-then-not-self-clause-ok g c =
    let old = c.self.inside in
    let new = c.put.new.names.pairs in
    let name = c.args.name.now in
    let set : new ≡ with_bookmark old.names.pairs name c.args.node = c.in_ok-put.ensures.set in
    let saved = no_savepoint old.is_saved (base_of old.changes.items new) (base_of old.changes.items old.names.pairs)
    c.if-not-self.true in
    (λ i. record { current = set i; saved = saved i })
    ∙ ap (λ (m : Saved). record {
      current = with_bookmark m.current name c.args.node;
      saved = m.saved;
    }) c.self.view_is

-- ---- with one

pub invariant_of-self-in_err-make_room : goal.invariant_of-self-in_err-make_room
invariant_of-self-in_err-make_room g c =
    let old = c.self.inside in
    let new = c.make_room.new.names in
    sound_same old.names.pairs new.pairs old.changes.items c.make_room.new.changes.items old.names.room new.room
    old.is_saved c.make_room.ensures.names c.make_room.ensures.changes
    (λ saved. omega (arith, c.self.invariant.room saved, c.make_room.ensures.more)) c.self.invariant

pub invariant_of-self-in_err-change : goal.invariant_of-self-in_err-change
invariant_of-self-in_err-change g c =
    let old = c.self.inside in
    let new = c.put_after_savepoint.new.names in
    let stays : new.pairs ≡ old.names.pairs = c.in_err-change.ensures.err ∙ c.make_room.ensures.names in
    sound_same old.names.pairs new.pairs old.changes.items c.make_room.new.changes.items old.names.room new.room
    old.is_saved stays c.make_room.ensures.changes
    (λ saved. omega (arith, c.in_ok-make_room.ensures.room, c.in_err-change.ensures.room)) c.self.invariant

-- what is kept, among the changes that there were
pub invariant_of-self-2 : goal.invariant_of-self-2
invariant_of-self-2 g c =
    let old = c.self.inside in
    let new = c.put_after_savepoint.new.names in
    let change = c.in_ok-change.change in
    let same = c.make_room.ensures.names in
    let changes : c.keep.new.changes.items ≡ old.changes.items ++ option_to_list change = c.keep.ensures
    ∙ ap (λ (cs : List (Change g.row.A.Denot)). cs ++ option_to_list change) c.make_room.ensures.changes in
    let room : length old.changes.items + 1 ≤ new.room = omega
    (arith, c.in_ok-make_room.ensures.room, c.in_ok-change.ensures.room) in
    subst (λ (cs : List (Change g.row.A.Denot)). IsSound new.pairs cs new.room old.is_saved) (sym changes)
    (sound_kept old.names.pairs new.pairs old.changes.items change old.names.room new.room old.is_saved
    c.if-not-self.false c.self.invariant room (c.in_ok-change.ensures.back ∙ same) c.in_ok-change.ensures.can)

pub returns-clause-ok : goal.returns-clause-ok
returns-clause-ok g c =
    let old = c.self.inside in
    let new = c.put_after_savepoint.new.names.pairs in
    let name = c.args.name.now in
    let change = c.in_ok-change.change in
    let same = c.make_room.ensures.names in
    let changes : c.keep.new.changes.items ≡ old.changes.items ++ option_to_list change = c.keep.ensures
    ∙ ap (λ (cs : List (Change g.row.A.Denot)). cs ++ option_to_list change) c.make_room.ensures.changes in
    let saved : cond old.is_saved (Some (base_of c.keep.new.changes.items new)) None ≡ cond old.is_saved
    (Some (base_of old.changes.items old.names.pairs)) None =
    ap (λ (cs : List (Change g.row.A.Denot)). cond old.is_saved (Some (base_of cs new)) None) changes
    ∙ savepoint_kept old.names.pairs new old.changes.items change old.is_saved (c.in_ok-change.ensures.back ∙ same) in
    let set : new ≡ with_bookmark old.names.pairs name c.args.node = c.in_ok-change.ensures.set
    ∙ ap (λ (ps : Pairs). with_bookmark ps name c.args.node) same in
    (λ i. record { current = set i; saved = saved i })
    ∙ ap (λ (m : Saved). record {
      current = with_bookmark m.current name c.args.node;
      saved = m.saved;
    }) c.self.view_is
