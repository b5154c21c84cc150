-- How far the readers of payloads are that a reader of bundles keeps.
use Rattle.std.specs.Prelude.{◌≢◌}
use Rattle.hg_chunks.specs.PayloadIn.{Phase, Ended, HandedOut}

-- it goes on, or has failed
pub record IsGoing (phase : Phase) : Type 0 where
  pub not_ended : phase ≢ Ended
  pub not_handed_out : phase ≢ HandedOut
