use Rattle.std.proofs.Common.{◌≡◌, ◌∙◌, append_assoc}
use Rattle.hg_status.specs.Page.{phases_text}
use Rattle.hg_status.proofs.page.put_phases.Goals as goal

pub returns : goal.returns
unfolding phases_text
returns g c =
    let e : c.as_str.result.now ≡ phases_text c.args.summary.now.phases =
    c.as_str.ensures.value ∙ (rw (c.in_ok-write-4.ensures.bytes, c.in_ok-write-3.ensures.bytes, c.in_ok-write-2.ensures.bytes, c.in_ok-write.ensures.bytes, c.in_ok-text.ensures.ok) (simp append_assoc)) in
    rw e at c.in_ok-put.ensures
