use Rattle.hg_commit.proofs.Living.{left_since_then}
use Rattle.hg_commit.proofs.laws.what_is_promised_is_left.Goals as goal

pub returns : goal.returns
returns g c = λ head stored first client witness whole kept device promise mine theirs k.
    left_since_then g.D.Device.moment g.D.Device.left_since head stored first (c.records_stay.ensures.later first)
    (c.records_stay.ensures.earlier first) g.D.Device.may_leave client witness whole kept device promise
    (g.met.D.Device.counts_now device) mine theirs k
