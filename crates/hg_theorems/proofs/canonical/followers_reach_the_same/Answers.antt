use Rattle.hg_theorems.proofs.Following.{followed}
use Rattle.hg_theorems.proofs.canonical.followers_reach_the_same.Goals as goal

pub returns : goal.returns
returns g c =
    followed (λ limits. c.bundles_are_read_in_one_way.ensures limits) c.canonical_parts_lead_to_the_same.ensures
    c.canonical_bundles_are_bundles.ensures
