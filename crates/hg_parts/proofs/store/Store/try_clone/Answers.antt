use Rattle.std.proofs.Common.{refl}
use Rattle.hg_parts.proofs.store.Store.try_clone.Goals as goal

pub returns : goal.returns
returns g c = rw (
  c.in_ok-log.ensures,
  c.in-Ok.ensures,
  c.in-Ok-try_clone.ensures,
  c.in-Ok-try_clone-2.ensures,
) refl
