use Rattle.std.proofs.Common.{◌∙◌}
use Rattle.hg_replay.proofs.Growing.{refused_so}
use Rattle.hg_replay.proofs.seed.grow.Goals as goal

pub returns-clause-gives : goal.returns-clause-gives
returns-clause-gives g c =
    refused_so _ _ _ _ _ _ c.empty_repository-repo.ensures (c.as_slice.ensures.value
    ∙ c.in-Ok.ensures.parts) c.refused.ensures c.in-Err.ensures.gives.1
