use Rattle.std.proofs.Common.{◌∙◌, ap, refl}
use Rattle.hg_store.specs.Head.{version_by}
use Rattle.hg_store.proofs.OneByOne.{old_of}
use Rattle.hg_store.proofs.front.begin_front.Goals as goal

pub returns-in-None-clause-err : goal.returns-in-None-clause-err
returns-in-None-clause-err g c = λ events. (
  refl,
  old_of c.in_ok-head.head (g.C.Calls.drawn c.read_front.new.calls) c.in_ok-head.ensures.head.0
      (c.in_ok-head.ensures.read ∙ c.in_ok-head.ensures.head.1) (ap version_by c.in-None.is),
)
