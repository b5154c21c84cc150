use Rattle.std.proofs.Common.{List, ℕ, [], ◌++◌, ◌∙◌, ap}
use Rattle.std.proofs.lemmas.Result.{on_ok_weaker}
use Rattle.sha1.specs.Sha1.{sha1}
use Rattle.hg_store.specs.Head.{head_bytes}
use Rattle.hg_store_tools.proofs.Fillings.{has_head}
use Rattle.hg_store_tools.proofs.filling.NewStore.begin.Goals as goal

pub returns-clause-begun : goal.returns-clause-begun
returns-clause-begun g c =
    let head = c.args.head.now in
    let is = c.in-Ok.ensures ∙ ap (λ (l : List ℕ). l ++ head_bytes head) c.new-bytes.ensures.items in
    on_ok_weaker c.add.result
    (λ more. has_head head c.add.new.self c.digest-self-inside.result c.deref-2.result.now
    (c.deref-2.ensures.value ∙ is) (c.digest-self-inside.ensures ∙ ap sha1 (c.deref.ensures.value ∙ is))
    (more [] c.in-Ok-clear.ensures.cleared)) c.add.ensures.more
