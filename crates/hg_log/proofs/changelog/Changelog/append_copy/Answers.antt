use Rattle.std.proofs.Common.{◌≡◌, ◌+◌, ◌<◌, [], ◌∷◌, ◌++◌, length, take, List, Some, slice_get, option_map}
use Rattle.std.proofs.Common.{sym, ap, ◌∙◌, arith}
use Rattle.std.specs.Map.Iter.{deref_pair}
use Rattle.std.proofs.lemmas.List.{length-take-le, take_more}
use Rattle.std.proofs.lemmas.Option.{get_or_from_slice_get}
use Rattle.hg_types.specs.declared.node.Node.{Node}
use Rattle.hg_log.specs.declared.changelog.Row.{Row}
use Rattle.hg_log.specs.Changeset.{Changeset, Log}
use Rattle.hg_log.specs.Add.{with_row}
use Rattle.hg_log.specs.code.Inside.{changeset, rows_of}
use Rattle.hg_log.proofs.Lookups.{row_at}
use Rattle.hg_log.proofs.RowLemmas.{lacks_taken}
use Rattle.hg_log.proofs.Wholes.{at_taken}
use Rattle.hg_log.proofs.changelog.Changelog.append_copy.Goals as goal

pub append-requires-clause-hash : goal.append-requires-clause-hash
append-requires-clause-hash g c =
    let entry : Node × Row g.row.A.Denot = (c.unwrap.result.0.now, c.unwrap.result.1.now) in
    let at : slice_get c.other.inside.rows.entries c.args.rev ≡ Some entry = sym c.get_index.ensures.entry
    ∙ ap (option_map deref_pair) c.unwrap.ensures in
    let law = c.other.invariant.lawful.each c.args.rev (changeset entry)
    (row_at c.other.inside.rows.entries c.args.rev entry at) in
    rw c.in_ok-try_clone.ensures law.hash

pub append-requires-clause-not_null : goal.append-requires-clause-not_null
append-requires-clause-not_null g c =
    let entry : Node × Row g.row.A.Denot = (c.unwrap.result.0.now, c.unwrap.result.1.now) in
    let at : slice_get c.other.inside.rows.entries c.args.rev ≡ Some entry = sym c.get_index.ensures.entry
    ∙ ap (option_map deref_pair) c.unwrap.ensures in
    let law = c.other.invariant.lawful.each c.args.rev (changeset entry)
    (row_at c.other.inside.rows.entries c.args.rev entry at) in
    law.not_null

pub append-requires-clause-new : goal.append-requires-clause-new
append-requires-clause-new g c =
    let entry : Node × Row g.row.A.Denot = (c.unwrap.result.0.now, c.unwrap.result.1.now) in
    let at : slice_get c.other.inside.rows.entries c.args.rev ≡ Some entry = sym c.get_index.ensures.entry
    ∙ ap (option_map deref_pair) c.unwrap.ensures in
    let rows = rows_of c.other.inside.rows.entries in
    let lacks = lacks_taken rows c.args.rev (changeset entry) c.other.invariant.lawful
    (row_at c.other.inside.rows.entries c.args.rev entry at) in
    rw (c.requires.same, ← c.other.view_is) lacks

pub append-requires-clause-p1 : goal.append-requires-clause-p1
append-requires-clause-p1 g c =
    let entry : Node × Row g.row.A.Denot = (c.unwrap.result.0.now, c.unwrap.result.1.now) in
    let at : slice_get c.other.inside.rows.entries c.args.rev ≡ Some entry = sym c.get_index.ensures.entry
    ∙ ap (option_map deref_pair) c.unwrap.ensures in
    let rows = rows_of c.other.inside.rows.entries in
    let within : c.args.rev < length rows = rw (← c.other.view_is) at c.requires.within in
    let are = c.other.invariant.numbered.each c.args.rev (changeset entry) c.parents.result
    (row_at c.other.inside.rows.entries c.args.rev entry at) c.parents.ensures in
    let taken = at_taken rows c.args.rev c.args.rev c.unwrap.result.1.now.p1.0 c.parents.result.p1
    (omega arith) are.p1 in
    let len : length (take c.args.rev rows) ≡ c.args.rev = length-take-le c.args.rev rows (omega arith) in
    rw (c.requires.same, ← c.other.view_is, len) taken

pub append-requires-clause-p2 : goal.append-requires-clause-p2
append-requires-clause-p2 g c =
    let entry : Node × Row g.row.A.Denot = (c.unwrap.result.0.now, c.unwrap.result.1.now) in
    let at : slice_get c.other.inside.rows.entries c.args.rev ≡ Some entry = sym c.get_index.ensures.entry
    ∙ ap (option_map deref_pair) c.unwrap.ensures in
    let rows = rows_of c.other.inside.rows.entries in
    let within : c.args.rev < length rows = rw (← c.other.view_is) at c.requires.within in
    let are = c.other.invariant.numbered.each c.args.rev (changeset entry) c.parents.result
    (row_at c.other.inside.rows.entries c.args.rev entry at) c.parents.ensures in
    let taken = at_taken rows c.args.rev c.args.rev c.unwrap.result.1.now.p2.0 c.parents.result.p2
    (omega arith) are.p2 in
    let len : length (take c.args.rev rows) ≡ c.args.rev = length-take-le c.args.rev rows (omega arith) in
    rw (c.requires.same, ← c.other.view_is, len) taken

pub returns : goal.returns
returns g c =
    let entry : Node × Row g.row.A.Denot = (c.unwrap.result.0.now, c.unwrap.result.1.now) in
    let at : slice_get c.other.inside.rows.entries c.args.rev ≡ Some entry = sym c.get_index.ensures.entry
    ∙ ap (option_map deref_pair) c.unwrap.ensures in
    let rows = rows_of c.other.inside.rows.entries in
    let within : c.args.rev < length rows = rw (← c.other.view_is) at c.requires.within in
    let row = get_or_from_slice_get rows c.args.rev (changeset entry) (changeset entry)
    (row_at c.other.inside.rows.entries c.args.rev entry at) in
    let more : take (c.args.rev + 1) rows ≡ take c.args.rev rows ++ changeset entry
    ∷ [] = take_more rows c.args.rev (changeset entry) within
    ∙ ap (λ (r : Changeset). take c.args.rev rows ++ r ∷ []) row in
    let log : List Changeset → Log = λ rs. record { rows = rs; limits = c.other.inside.limits } in
    let one : c.append.new.self ≡ with_row c.args.self.now (changeset entry) =
    rw c.in_ok-try_clone.ensures at c.in_ok-append.ensures.ok in
    let two : c.args.self.now ≡ log (take c.args.rev rows) = rw (← c.other.view_is) at c.requires.same in
    let three : c.append.new.self ≡ log (take (c.args.rev + 1) rows) = one
    ∙ ap (λ (l : Log). with_row l (changeset entry)) two ∙ ap log (sym more) in
    record { ok = rw (← c.other.view_is) three }
