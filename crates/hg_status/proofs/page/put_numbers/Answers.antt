use Rattle.std.proofs.Common.{◌≡◌, ◌∙◌, append_assoc}
use Rattle.hg_status.specs.Page.{numbers_text}
use Rattle.hg_status.proofs.page.put_numbers.Goals as goal

pub returns : goal.returns
unfolding numbers_text
returns g c =
    let e : c.as_str.result.now ≡ numbers_text c.args.summary.now.holdings =
    c.as_str.ensures.value ∙ (rw (c.in_ok-push_str.ensures.bytes, c.in_ok-push_held-4.ensures, c.in_ok-push_held-3.ensures, c.in_ok-push_held-2.ensures, c.in_ok-push_held.ensures, c.in_ok-text.ensures.ok) (simp append_assoc)) in
    rw e at c.in_ok-put.ensures
