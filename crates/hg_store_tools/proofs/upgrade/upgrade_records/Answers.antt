use Rattle.std.proofs.Common.{◌∙◌, ap, subst, sym}
use Rattle.hg_store.specs.Head.{head_for}
use Rattle.hg_store.specs.declared.head.Head.{Head}
use Rattle.hg_store.specs.declared.head.Setup.{Setup}
use Rattle.hg_store_tools.specs.Filling.{HasRecords}
use Rattle.hg_store_tools.specs.Visiting.{Visits}
use Rattle.hg_store_tools.specs.declared.fault.StoreEnd.{StoreEnd}
use Rattle.hg_store_tools.proofs.Upgrades.{Upgrade_step, is_second, none_unplaced, not_begun, not_made}
use Rattle.hg_store_tools.proofs.Upgrades.{not_upgraded_so, torn_read, upgrade_read, upgraded_already}
use Rattle.hg_store_tools.proofs.upgrade.upgrade_records.Goals as goal

pub returns-in-Err-clause-err : goal.returns-in-Err-clause-err
returns-in-Err-clause-err g c =
    let why = not_begun c.in-Err.fault (g.R.Read.remaining c.args.reader.now) (g.R.Read.remaining c.begin.new.reader)
    c.in-Err.ensures.err in
    (none_unplaced c.args.new.now c.requires, why.0, why.1, why.2)

pub returns-in-Second-clause-err : goal.returns-in-Second-clause-err
returns-in-Second-clause-err g c =
    let why = upgraded_already (g.R.Read.remaining c.args.reader.now) (g.R.Read.remaining c.begin.new.reader)
    c.in-Ok.begun.head c.in-Ok.begun.digest c.in-Ok.ensures.ok (sym c.version.ensures ∙ c.in-Second.is) in
    (none_unplaced c.args.new.now c.requires, why.0, why.1, why.2)

pub returns-in-Err-begin-clause-err : goal.returns-in-Err-begin-clause-err
returns-in-Err-begin-clause-err g c =
    let why = not_made c.in-Err-begin.fault c.of_new.result (g.R.Read.remaining c.args.reader.now)
    c.in-Err-begin.ensures.err c.of_new.ensures in
    (c.in-Err-begin.ensures.unplaced, why.0, why.1, why.2)

pub returns-in-Ok-Whole-clause-ok : goal.returns-in-Ok-Whole-clause-ok
returns-in-Ok-Whole-clause-ok g c =
    let a = g.R.Read.remaining c.args.reader.now in
    let b = g.R.Read.remaining c.begin.new.reader in
    let d = g.R.Read.remaining c.visit_records.new.reader in
    let read = upgrade_read c.in-Ok.begun.head c.in-Ok.begun.digest a b d c.in-Ok.ensures.ok c.head.result
    (is_second c.head.result c.setup.result c.args.identity c.head.ensures) c.begin-2.new.self c.visit_records.new.target
    c.in-Ok-begin.ensures.begun
    (subst (λ (e : StoreEnd). Visits Upgrade_step c.in-Ok.begun.head c.in-Ok.begun.digest b d e c.begin-2.new.self
    c.visit_records.new.target) c.in-Ok-Whole.field-0-is c.in-Ok-Whole.ensures.ok) in (
      read.0,
      read.1,
      c.in-Ok.begun.head,
      read.2,
      read.3,
      sym c.version.ensures ∙ c.in-First.is,
      subst (λ (h : Head). HasRecords h read.2 c.visit_records.new.target)
          (c.head.ensures ∙ ap (λ (s : Setup). head_for s c.args.identity) c.setup.ensures) read.4,
    )

pub returns-in-Ok-Torn-clause-err : goal.returns-in-Ok-Torn-clause-err
returns-in-Ok-Torn-clause-err g c =
    let a = g.R.Read.remaining c.args.reader.now in
    let b = g.R.Read.remaining c.begin.new.reader in
    let d = g.R.Read.remaining c.visit_records.new.reader in
    torn_read c.in-Ok.begun.head c.in-Ok.begun.digest a b d c.in-Ok.ensures.ok c.head.result
    (is_second c.head.result c.setup.result c.args.identity c.head.ensures) c.begin-2.new.self c.visit_records.new.target
    c.in-Ok-begin.ensures.begun c.in-Ok-Torn.whole
    (subst (λ (e : StoreEnd). Visits Upgrade_step c.in-Ok.begun.head c.in-Ok.begun.digest b d e c.begin-2.new.self
    c.visit_records.new.target) c.in-Ok-Torn.field-0-is c.in-Ok-Torn.ensures.ok)

pub returns-in-Err-visit_records-clause-err : goal.returns-in-Err-visit_records-clause-err
returns-in-Err-visit_records-clause-err g c =
    let a = g.R.Read.remaining c.args.reader.now in
    let b = g.R.Read.remaining c.begin.new.reader in
    let d = g.R.Read.remaining c.visit_records.new.reader in
    not_upgraded_so c.in-Ok.begun.head c.in-Ok.begun.digest a b d c.in-Ok.ensures.ok c.head.result
    (is_second c.head.result c.setup.result c.args.identity c.head.ensures) c.begin-2.new.self c.visit_records.new.target
    c.in-Ok-begin.ensures.begun c.in-Err-visit_records.fault c.of_new-in-Err-visit_records.result
    c.of_new-in-Err-visit_records.ensures c.in-Err-visit_records.ensures.err
