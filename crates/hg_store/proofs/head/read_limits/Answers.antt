use Rattle.hg_store.proofs.Heads.{limits_read}
use Rattle.hg_store.proofs.head.read_limits.Goals as goal

pub returns-clause-spelled : goal.returns-clause-spelled
returns-clause-spelled c =
    limits_read _ _ _ _ _ _ _ _ _ c.read_u32-params.ensures.spelled c.read_u32-payload.ensures.spelled
    c.read_u32-stream.ensures.spelled c.read_u32-parts.ensures.spelled c.read_u32-text.ensures.spelled
    c.read_u32-rows.ensures.spelled c.read_u32-revisions.ensures.spelled

pub returns-clause-fits : goal.returns-clause-fits
returns-clause-fits c = record {
  params = c.read_u32-params.ensures.fits;
  payload = c.read_u32-payload.ensures.fits;
  stream = c.read_u32-stream.ensures.fits;
  parts = c.read_u32-parts.ensures.fits;
  text = c.read_u32-text.ensures.fits;
  rows = c.read_u32-rows.ensures.fits;
  revisions = c.read_u32-revisions.ensures.fits;
}
