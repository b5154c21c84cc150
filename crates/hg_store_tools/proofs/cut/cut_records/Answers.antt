use Rattle.std.proofs.Common.{ap, subst}
use Rattle.hg_store_tools.specs.Cutting.{CutSoFar, StopsSo}
use Rattle.hg_store_tools.specs.Reading.{IsRestOf}
use Rattle.hg_store_tools.proofs.Cuts.{cut_ok, from_front, is_cut_at, is_walked, no_place, none_unplaced, not_begun}
use Rattle.hg_store_tools.proofs.Cuts.{not_cut_told, not_made, unread_device, walked_unplaced}
use Rattle.hg_store_tools.proofs.cut.cut_records.Goals as goal

pub returns-in-Err-clause-err : goal.returns-in-Err-clause-err
returns-in-Err-clause-err g c =
    let why = unread_device c.fault_of_device.result (g.S.StoreBytes.bytes c.args.store.now) c.args.at
    c.fault_of_device.ensures in
    (none_unplaced c.args.files.now c.requires, why.0, why.1, why.2)

pub returns-in-Err-begin-clause-err : goal.returns-in-Err-begin-clause-err
returns-in-Err-begin-clause-err g c =
    let a = g.R.Read.remaining c.in-Ok.reader in
    let why = not_begun c.in-Err-begin.fault a (g.R.Read.remaining c.begin.new.reader) c.args.at
    c.in-Err-begin.ensures.err in
    let given = from_front a (g.S.StoreBytes.bytes c.args.store.now) c.in-Ok.ensures why.0 why.1 in
    (none_unplaced c.args.files.now c.requires, why.0, given, why.2)

pub returns-in-Err-begin-2-clause-err : goal.returns-in-Err-begin-2-clause-err
returns-in-Err-begin-2-clause-err g c =
    let made = c.in-Err-begin-2.ensures.err in
    let why = not_made c.in-Err-begin-2.fault (g.S.StoreBytes.bytes c.args.store.now) c.args.at made.0 in
    (made.1, why.0, why.1, why.2)

pub returns-in-Err-stop_of-clause-err : goal.returns-in-Err-stop_of-clause-err
returns-in-Err-stop_of-clause-err g c =
    let a = g.R.Read.remaining c.in-Ok.reader in
    let b = g.R.Read.remaining c.begin.new.reader in
    let d = g.R.Read.remaining c.visit_records.new.reader in
    let told = c.in-Err-stop_of.ensures.err in
    let why = not_cut_told c.in-Ok-begin.begun.head c.in-Ok-begin.begun.digest a b d c.in-Ok-begin.ensures.ok
    c.version-version.result c.version-version.ensures c.args.at c.begin-2.new.self c.visit_records.new.target
    (c.in-Ok-begin-2.ensures.begun c.args.at) c.visit_records.result c.visit_records.ensures.err
    c.in-Err-stop_of.fault told.0 told.1 c.fault_by.result c.fault_by.ensures in
    let given = from_front a (g.S.StoreBytes.bytes c.args.store.now) c.in-Ok.ensures why.1 why.2 in
    (why.0, why.1, given, why.3)

pub returns-in-Err-read_rest-clause-err : goal.returns-in-Err-read_rest-clause-err
returns-in-Err-read_rest-clause-err g c =
    let a = g.R.Read.remaining c.in-Ok.reader in
    let b = g.R.Read.remaining c.begin.new.reader in
    let d = g.R.Read.remaining c.visit_records.new.reader in
    let begun = c.in-Ok-begin-2.ensures.begun c.args.at in
    let walked = is_walked c.in-Ok-begin.begun.head c.in-Ok-begin.begun.digest a b d c.in-Ok-begin.ensures.ok
    c.version-version.result c.version-version.ensures c.args.at c.begin-2.new.self c.visit_records.new.target begun
    c.visit_records.result c.visit_records.ensures.ok c.visit_records.ensures.err _ c.in-Ok-stop_of.ensures.ok in
    let why = unread_device c.in-Err-read_rest.fault (g.S.StoreBytes.bytes c.args.store.now) c.args.at
    c.in-Err-read_rest.ensures.err in (
      walked_unplaced c.in-Ok-begin.begun.head c.in-Ok-begin.begun.digest a b d c.in-Ok-begin.ensures.ok
          c.version-version.result c.version-version.ensures c.args.at c.begin-2.new.self c.visit_records.new.target begun
          walked,
      why.0,
      why.1,
      why.2,
    )

pub returns-then-not-has_place-clause-err : goal.returns-then-not-has_place-clause-err
returns-then-not-has_place-clause-err g c =
    let a = g.R.Read.remaining c.in-Ok.reader in
    let b = g.R.Read.remaining c.begin.new.reader in
    let d = g.R.Read.remaining c.visit_records.new.reader in
    let begun = c.in-Ok-begin-2.ensures.begun c.args.at in
    let bytes = g.S.StoreBytes.bytes c.args.store.now in
    let rest = c.in-Ok-read_rest.rest in
    let walked = is_walked c.in-Ok-begin.begun.head c.in-Ok-begin.begun.digest a b d c.in-Ok-begin.ensures.ok
    c.version-version.result c.version-version.ensures c.args.at c.begin-2.new.self c.visit_records.new.target begun
    c.visit_records.result c.visit_records.ensures.ok c.visit_records.ensures.err _ c.in-Ok-stop_of.ensures.ok in
    let behind = subst (λ (f : CutSoFar). IsRestOf f.end bytes rest.tail.items) c.files.view_is
    c.in-Ok-read_rest.ensures.bytes in
    let stops = subst (λ (f : CutSoFar). StopsSo rest.stop c.version-version.result f.digest rest.tail.items)
    c.files.view_is c.in-Ok-read_rest.ensures.stops in
    let cut = is_cut_at c.in-Ok-begin.begun.head c.in-Ok-begin.begun.digest a b d c.in-Ok-begin.ensures.ok
    c.version-version.result c.version-version.ensures c.args.at c.begin-2.new.self c.visit_records.new.target begun
    walked rest.tail.items bytes rest.stop c.in-Ok.ensures behind stops in
    no_place c.in-Ok-begin.begun.head c.in-Ok-begin.begun.digest a b d c.in-Ok-begin.ensures.ok
    c.version-version.result c.version-version.ensures c.args.at c.begin-2.new.self c.visit_records.new.target begun
    bytes rest.stop rest.tail.items c.deref.result.now c.deref.ensures.value c.files.inside.count
    (ap (λ (f : CutSoFar). f.count) c.files.view_is) cut
    (c.has_place.ensures.refused c.if-not-has_place.true)

pub returns-clause-ok : goal.returns-clause-ok
returns-clause-ok g c =
    let a = g.R.Read.remaining c.in-Ok.reader in
    let b = g.R.Read.remaining c.begin.new.reader in
    let d = g.R.Read.remaining c.visit_records.new.reader in
    let begun = c.in-Ok-begin-2.ensures.begun c.args.at in
    let bytes = g.S.StoreBytes.bytes c.args.store.now in
    let rest = c.in-Ok-read_rest.rest in
    let walked = is_walked c.in-Ok-begin.begun.head c.in-Ok-begin.begun.digest a b d c.in-Ok-begin.ensures.ok
    c.version-version.result c.version-version.ensures c.args.at c.begin-2.new.self c.visit_records.new.target begun
    c.visit_records.result c.visit_records.ensures.ok c.visit_records.ensures.err _ c.in-Ok-stop_of.ensures.ok in
    let behind = subst (λ (f : CutSoFar). IsRestOf f.end bytes rest.tail.items) c.files.view_is
    c.in-Ok-read_rest.ensures.bytes in
    let stops = subst (λ (f : CutSoFar). StopsSo rest.stop c.version-version.result f.digest rest.tail.items)
    c.files.view_is c.in-Ok-read_rest.ensures.stops in
    let cut = is_cut_at c.in-Ok-begin.begun.head c.in-Ok-begin.begun.digest a b d c.in-Ok-begin.ensures.ok
    c.version-version.result c.version-version.ensures c.args.at c.begin-2.new.self c.visit_records.new.target begun
    walked rest.tail.items bytes rest.stop c.in-Ok.ensures behind stops in
    cut_ok c.in-Ok-begin.begun.head c.in-Ok-begin.begun.digest a b d c.in-Ok-begin.ensures.ok
    c.version-version.result c.version-version.ensures c.args.at c.begin-2.new.self c.visit_records.new.target begun
    bytes rest.stop rest.tail.items c.deref.result.now c.deref.ensures.value c.files.inside.count
    (ap (λ (f : CutSoFar). f.count) c.files.view_is) cut
    (c.has_place.ensures.place c.if-not-has_place.false)
