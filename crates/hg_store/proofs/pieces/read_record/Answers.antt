use Rattle.std.proofs.Common.{◌≡◌, ◌∙◌, ap, drop, subst, sym, take}
use Rattle.sha1.specs.Sha1.{sha1}
use Rattle.hg_store.specs.Entries.{Entry}
use Rattle.hg_store.specs.Pieces.{GivesNoRecord, GivesRecord}
use Rattle.hg_store.specs.declared.record.NoRecord.{NoRecord}
use Rattle.hg_store.specs.declared.record.NoRecord.TheVariants.{Damaged}
use Rattle.hg_store.proofs.ByPiece.{entry_is, err_is, record_damaged, record_given, stop_is, torn_fields, torn_numbers}
use Rattle.hg_store.proofs.pieces.read_record.Goals as goal

pub returns-in-Err-numbers_behind-clause-none : goal.returns-in-Err-numbers_behind-clause-none
returns-in-Err-numbers_behind-clause-none g c = λ stop is.
    let a = g.R.Read.remaining c.args.reader.now in
    let b = g.R.Read.remaining c.pass_gate.new.reader in
    let d = g.R.Read.remaining c.numbers_behind.new.reader in
    let cut = c.in-Err-numbers_behind.ensures.none stop (err_is c.in-Err-numbers_behind.stop _ is) in
    subst (λ (s : NoRecord). GivesNoRecord s c.args.version c.args.digest.now a d) (sym cut.0)
    (torn_numbers c.args.version c.args.digest.now a b d c.in-Ok.ensures.open cut.1)

pub returns-in-Err-fields_behind-clause-none : goal.returns-in-Err-fields_behind-clause-none
returns-in-Err-fields_behind-clause-none g c = λ stop is.
    let a = g.R.Read.remaining c.args.reader.now in
    let b = g.R.Read.remaining c.pass_gate.new.reader in
    let d = g.R.Read.remaining c.numbers_behind.new.reader in
    let e = g.R.Read.remaining c.fields_behind.new.reader in
    let cut = c.in-Err-fields_behind.ensures.none stop (err_is c.in-Err-fields_behind.stop _ is) in
    subst (λ (s : NoRecord). GivesNoRecord s c.args.version c.args.digest.now a e) (sym cut.0)
    (torn_fields c.args.version c.args.digest.now c.in-Ok-numbers_behind.numbers a b d e
    c.in-Ok-numbers_behind.ensures.numbers c.in-Ok.ensures.open c.in-Ok-numbers_behind.ensures.gone cut.1)

pub returns-then-not-is_same-clause-none : goal.returns-then-not-is_same-clause-none
returns-then-not-is_same-clause-none g c = λ stop is.
    let a = g.R.Read.remaining c.args.reader.now in
    let b = g.R.Read.remaining c.pass_gate.new.reader in
    let d = g.R.Read.remaining c.numbers_behind.new.reader in
    let e = g.R.Read.remaining c.fields_behind.new.reader in
    let numbers = c.in-Ok-numbers_behind.numbers in
    subst (λ (s : NoRecord). GivesNoRecord s c.args.version c.args.digest.now a e) (stop_is Damaged stop is)
    (record_damaged c.args.version c.args.digest.now numbers a b d e c.in-Ok-numbers_behind.ensures.numbers
    c.in-Ok.ensures.open c.in-Ok-numbers_behind.ensures.gone c.fields_behind.new.front.items
    c.fields_behind.new.bundle.items c.split_at.result.0.now c.split_at.result.1.now
    c.in-Ok-fields_behind.ensures.gone c.in-Ok-fields_behind.ensures.front c.in-Ok-fields_behind.ensures.bundle
    (c.split_at.ensures.front ∙ ap (take numbers.named) c.as_slice.ensures.value)
    (c.split_at.ensures.back ∙ ap (drop numbers.named) c.as_slice.ensures.value) c.chained_after-found.result
    c.digest.result c.as_slice-2.result.now c.is_same.result (c.digest.ensures ∙ ap sha1 c.deref.ensures.value)
    c.chained_after-found.ensures c.as_slice-2.ensures c.is_same.ensures c.if-not-is_same.true)

pub returns-clause-record : goal.returns-clause-record
returns-clause-record g c =
    let a = g.R.Read.remaining c.args.reader.now in
    let b = g.R.Read.remaining c.pass_gate.new.reader in
    let d = g.R.Read.remaining c.numbers_behind.new.reader in
    let e = g.R.Read.remaining c.fields_behind.new.reader in
    let numbers = c.in-Ok-numbers_behind.numbers in
    let name_is : c.split_at.result.0.now ≡ take numbers.named c.fields_behind.new.front.items =
    c.split_at.ensures.front ∙ ap (take numbers.named) c.as_slice.ensures.value in
    let given =
    record_given c.args.version c.args.digest.now numbers a b d e c.in-Ok-numbers_behind.ensures.numbers
    c.in-Ok.ensures.open c.in-Ok-numbers_behind.ensures.gone c.fields_behind.new.front.items
    c.fields_behind.new.bundle.items c.split_at.result.0.now c.split_at.result.1.now
    c.in-Ok-fields_behind.ensures.gone c.in-Ok-fields_behind.ensures.front c.in-Ok-fields_behind.ensures.bundle
    name_is (c.split_at.ensures.back ∙ ap (drop numbers.named) c.as_slice.ensures.value)
    c.chained_after-found.result c.digest.result c.as_slice-2.result.now c.is_same.result
    (c.digest.ensures ∙ ap sha1 c.deref.ensures.value) c.chained_after-found.ensures c.as_slice-2.ensures
    c.is_same.ensures c.if-not-is_same.false in
    subst (λ (found : Entry). GivesRecord c.args.version c.args.digest.now a e found c.chained_after-found.result)
    (entry_is c.new-2.result c.new.result numbers.time c.split_at.result.0.now c.fields_behind.new.bundle.items
    c.new-2.ensures.stamp c.new.ensures.time
    (c.new.ensures.name ∙ c.from_vec.ensures ∙ c.truncate.ensures.items ∙ sym name_is)
    (c.new-2.ensures.bundle ∙ c.from_vec-2.ensures)) given
