use Rattle.hg_commit.proofs.Living.{all_stay}
use Rattle.hg_commit.proofs.laws.what_is_kept_stays.Goals as goal

pub returns : goal.returns
returns g c = λ head stored first device count h earlier writes.
    all_stay g.D.Device.moment g.D.Device.left_since head stored first
    (λ before after k entry p r. c.records_stay.ensures.later first before after k entry p r) device count h earlier
    writes
