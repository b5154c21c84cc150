use Rattle.std.proofs.Common.{List, [], ◌∷◌, ℕ, inl, inr, refl, subst}
use Rattle.std.proofs.lemmas.Result.{on_ok_weaker}
use Rattle.std.specs.Prelude.{OnOk}
use Rattle.hg_connection.specs.Devices.{TellsMore}
use Rattle.hg_store_tools.specs.Logging.{IsInForm, LogForm, PutsRecord, formed_bytes}
use Rattle.hg_store_tools.proofs.bundles.ShelvingRecordVisit.visit.Goals as goal

pub returns-then-place-log-clause-ok : goal.returns-then-place-log-clause-ok
returns-then-place-log-clause-ok g c =
    let has = g.S.BundleSink.has c.args.target.now in
    subst (λ (l : LogForm). PutsRecord g.row.A.Denot l c.args.place c.args.entry.now has has) c.log.view_is
    (inl (c.if-place-log.true, refl))

pub returns-in-Ok-clause-ok : goal.returns-in-Ok-clause-ok
returns-in-Ok-clause-ok g c =
    let A = g.row.A.Denot in
    let log : LogForm = record {
      limits = c.log.inside.limits;
      from = c.log.inside.from;
      form = c.log.inside.form;
    } in
    let before = g.S.BundleSink.has c.args.target.now in
    let after = g.S.BundleSink.has c.put.new.self in
    let bundle = formed_bytes c.in-Ok.bundle in
    let is = subst (λ (stored : List ℕ). IsInForm log.form A log.limits stored bundle) c.bundle.ensures
    c.in-Ok.ensures.ok in
    subst (λ (l : LogForm). OnOk c.put.result (PutsRecord A l c.args.place c.args.entry.now before after))
    c.log.view_is
    (on_ok_weaker c.put.result
    (λ told. inr (
      c.if-place-log.false,
      bundle,
      is,
      subst (λ (bytes : List ℕ). TellsMore before after ((c.args.place, bytes) ∷ [])) c.bytes.ensures told,
    ))
    c.put.ensures.put)
