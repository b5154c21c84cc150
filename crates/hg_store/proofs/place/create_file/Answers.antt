use Rattle.std.proofs.Common.{◌∙◌, ap, subst}
use Rattle.hg_store.specs.Calls.{IsPlacedWhole}
use Rattle.hg_store.specs.Log.{at_rest}
use Rattle.hg_store.proofs.place.create_file.Goals as goal

pub returns-in_err-put_whole-clause-whole : goal.returns-in_err-put_whole-clause-whole
returns-in_err-put_whole-clause-whole g c =
    subst (λ f. IsPlacedWhole f (g.N.Calls.history c.put_whole.new.file))
    (c.deref-2.ensures.value ∙ c.in_ok-bytes.ensures
    ∙ ap (at_rest c.args.head.now) (c.deref.ensures.value ∙ c.new-none.ensures.items)) c.put_whole.ensures.whole

pub returns-clause-whole : goal.returns-clause-whole
returns-clause-whole g c =
    subst (λ f. IsPlacedWhole f (g.N.Calls.history c.put_whole.new.file))
    (c.deref-2.ensures.value ∙ c.in_ok-bytes.ensures
    ∙ ap (at_rest c.args.head.now) (c.deref.ensures.value ∙ c.new-none.ensures.items)) c.put_whole.ensures.whole
