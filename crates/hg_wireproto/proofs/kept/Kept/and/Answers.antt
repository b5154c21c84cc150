use Rattle.std.proofs.Common.{◌++◌, ◌∷◌, ◌∙◌, [], ℕ, List, ap, arith, get_or, subst, sym}
use Rattle.std.proofs.lemmas.List.{append_assoc, take_more}
use Rattle.hg_wireproto.specs.code.Kept.{IsListedZero}
use Rattle.hg_wireproto.proofs.Keeping.{listed_more}
use Rattle.hg_wireproto.proofs.kept.Kept.and.Goals as goal

pub loop-set-preserved : goal.loop-set-preserved
loop-set-preserved g c =
    let sets = c.loop-set.sets.items in
    let i = c.loop-set.set-index in
    let set = get_or c.args.more.now i 0 in (
      c.in_ok-push.ensures.items ∙ ap (λ (l : List ℕ). l ++ set ∷ []) c.loop-set.invariant.0
          ∙ append_assoc c.args.self _ (set ∷ [])
          ∙ ap (λ (l : List ℕ). c.args.self ++ l) (sym (take_more c.args.more.now i 0 c.loop-set-test.true)),
      listed_more sets _ c.loop-set.obsolete.items _ set c.len-rev.result (omega (arith, c.len-rev.ensures))
          c.in_ok-push.ensures.items
          (subst (λ s. IsListedZero s c.len-rev.result c.loop-set.obsolete.items c.list_obsolete.new.obsolete.items)
          c.as_slice.ensures.value c.in_ok-list_obsolete.ensures) c.loop-set.invariant.1,
    )
