use Rattle.std.proofs.Common.{◌≡◌, ◌∙◌, subst}
use Rattle.std.specs.Prelude.{IfOk, codes}
use Rattle.hg_push.specs.Reply.{error_part}
use Rattle.hg_push.proofs.Replying.{both_params, not_empty}
use Rattle.hg_push.proofs.reply.unsupported_part.Goals as goal

pub returns : goal.returns
returns g c =
    let some = not_empty c.args.names.now c.is_empty.result c.is_empty.ensures c.if-is_empty.false in
    let params = both_params c.args.kind.now c.args.names.now c.in_ok-params.params c.push.new.self
    c.as_slice.result.now c.in_ok-telling.field-0 some c.in_ok-params.ensures (c.as_slice.ensures.value
    ∙ c.in_ok-joined.ensures) c.in_ok-telling.ensures c.in_ok-push.ensures.ok in
    subst (λ ps. IfOk c.error_part-2.result (λ part. part ≡ error_part (codes "ERROR:UNSUPPORTEDCONTENT") ps))
    params c.error_part-2.ensures
