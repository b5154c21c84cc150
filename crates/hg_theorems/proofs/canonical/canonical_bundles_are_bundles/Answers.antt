use Rattle.hg_theorems.proofs.CanonicalBundle.{canonical_bundle}
use Rattle.hg_theorems.proofs.canonical.canonical_bundles_are_bundles.Goals as goal

pub returns : goal.returns
returns g c = canonical_bundle
