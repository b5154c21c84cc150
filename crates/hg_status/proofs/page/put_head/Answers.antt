use Rattle.std.proofs.Common.{◌≡◌, ◌∙◌, append_assoc}
use Rattle.hg_status.specs.Page.{title_text}
use Rattle.hg_status.proofs.page.put_head.Goals as goal

pub returns : goal.returns
unfolding title_text
returns g c =
    let e : c.as_str.result.now ≡ title_text c.args.summary.now =
    c.as_str.ensures.value ∙ (rw (c.in_ok-write.ensures.bytes, c.in_ok-push_publishing.ensures, c.in_ok-text.ensures.ok) (simp append_assoc)) in
    rw e at c.in_ok-put.ensures
