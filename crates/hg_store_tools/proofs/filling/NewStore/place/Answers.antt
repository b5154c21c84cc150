use Rattle.std.proofs.Common.{subst, sym}
use Rattle.hg_store.specs.Files.{stored}
use Rattle.hg_store.specs.Log.{at_rest}
use Rattle.hg_store_tools.specs.Filling.{HasRecords, StoreFilled}
use Rattle.hg_store_tools.proofs.Fillings.{unplaced_whole}
use Rattle.hg_store_tools.proofs.filling.NewStore.place.Goals as goal

pub returns-in-Err-clause-whole : goal.returns-in-Err-clause-whole
returns-in-Err-clause-whole g c head records has =
    let is = subst (λ (s : StoreFilled). HasRecords head records s) (sym c.self.view_is) has in
    unplaced_whole (at_rest head records) c.add.new.self.calls (c.in-Err.ensures.unplaced is.filled.unplaced)

pub returns-clause-whole : goal.returns-clause-whole
returns-clause-whole g c head records has =
    let is = subst (λ (s : StoreFilled). HasRecords head records s) (sym c.self.view_is) has in
    c.place.ensures.whole (at_rest head records) (c.in-Ok.ensures.more (stored head records) is.filled)
