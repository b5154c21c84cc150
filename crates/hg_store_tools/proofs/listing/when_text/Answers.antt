use Rattle.std.proofs.Common.{◌∙◌, ◌++◌, ap, List, ℕ}
use Rattle.hg_store_tools.specs.Date.{day_text, time_text}
use Rattle.hg_store_tools.specs.Listing.{dated}
use Rattle.hg_store_tools.proofs.listing.when_text.Goals as goal

pub returns : goal.returns
returns g c =
    dated c.in-Some.date c.if-time-eq0.false c.in-Some.ensures.some
    (c.in_ok-push_date.ensures
    ∙ ap (λ (l : List ℕ). l ++ (day_text c.in-Some.date ++ time_text c.in-Some.date)) c.new-text.ensures.bytes)
