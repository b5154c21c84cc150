use Rattle.std.proofs.Common.{◌≡◌, ◌∙◌, refl}
use Rattle.hg_status.specs.Page.{refusals_text}
use Rattle.hg_status.proofs.page.put_refusals.Goals as goal

pub returns : goal.returns
returns g c =
    let e : c.as_str.result.now ≡ refusals_text c.args.counters.now =
    c.as_str.ensures.value ∙ (rw (c.in_ok-push_refusals.ensures, c.new-text.ensures.bytes) refl) in
    rw e at c.in_ok-put.ensures
