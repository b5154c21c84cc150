use Rattle.std.proofs.Common.{drop, subst, sym, take}
use Rattle.hg_store.specs.Log.{at_rest}
use Rattle.hg_store_tools.specs.Cutting.{CutSoFar, HasCut, joined}
use Rattle.hg_store_tools.proofs.Fillings.{unplaced_whole}
use Rattle.hg_store_tools.proofs.cut.CutFiles.place.Goals as goal

pub returns-in-Err-clause-whole : goal.returns-in-Err-clause-whole
returns-in-Err-clause-whole g c head at records has =
    let is = subst (λ (f : CutSoFar). HasCut head at records f) (sym c.self.view_is) has in (
      c.in-Err.ensures.whole (joined (drop at records)) is.kept,
      unplaced_whole (at_rest head (take at records)) c.self.inside.left.file.calls is.left.filled.unplaced,
    )

pub returns-clause-whole : goal.returns-clause-whole
returns-clause-whole g c head at records has =
    let is = subst (λ (f : CutSoFar). HasCut head at records f) (sym c.self.view_is) has in (
      c.in-Ok.ensures.whole (joined (drop at records)) is.kept,
      c.place-2.ensures.whole head (take at records) is.left,
    )
