use Rattle.hg_theorems.proofs.CanonicalRun.{push_kept}
use Rattle.hg_theorems.proofs.canonical.canonical_parts_lead_to_the_same.Goals as goal

pub returns : goal.returns
returns g c = push_kept
