use Rattle.std.proofs.Common.{List, ℕ, ◌++◌, ◌∙◌, ap, subst}
use Rattle.std.proofs.lemmas.Result.{on_ok_weaker}
use Rattle.std.specs.Prelude.{OnOk}
use Rattle.hg_store.specs.Records.{frame}
use Rattle.hg_store_tools.specs.Filling.{AddsRecord, StoreFilled}
use Rattle.hg_store_tools.proofs.Fillings.{adds_record}
use Rattle.hg_store_tools.proofs.filling.NewStore.add.Goals as goal

pub returns-clause-added : goal.returns-clause-added
returns-clause-added g c =
    let before : StoreFilled = record { file = c.self.inside.file; digest = c.self.inside.digest } in
    let after : StoreFilled = record { file = c.add.new.self; digest = c.in-Ok.digest } in
    subst (λ (s : StoreFilled). OnOk c.add.result (AddsRecord c.args.version c.args.entry.now s after)) c.self.view_is
    (on_ok_weaker c.add.result
    (λ more. adds_record c.args.version c.args.entry.now before after c.deref.result.now more
    (c.deref.ensures.value ∙ c.in-Ok.ensures.1
    ∙ ap (λ (l : List ℕ). l ++ frame c.args.version c.self.inside.digest c.args.entry.now) c.new-bytes.ensures.items)
    c.in-Ok.ensures.0) c.add.ensures.more)
