use Rattle.std.proofs.Common.{◌≡◌, ◌∙◌, length, take, ap, sym, arith}
use Rattle.hg_params.proofs.Growing.{on_err, from_err, cut_back}
use Rattle.hg_params.proofs.write.write_head.Goals as goal

pub returns-then-is_err-clause-err : goal.returns-then-is_err-clause-err
returns-then-is_err-clause-err g c =
    let old = c.args.out.now.items in
    let grown = from_err c.append_head-written.result _ (sym c.is_err.ensures.value
    ∙ c.if-is_err.true) c.append_head-written.ensures.err in
    let start : c.len-start.result ≡ length old = omega (arith, c.len-start.ensures, c.args.out.now.ok.0) in
    on_err c.append_head-written.result _ (c.truncate.ensures.items
    ∙ ap (λ n. take n c.append_head-written.new.out.items) start
    ∙ cut_back old c.append_head-written.new.out.items grown)
