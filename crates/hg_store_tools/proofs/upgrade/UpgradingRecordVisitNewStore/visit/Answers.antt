use Rattle.std.proofs.lemmas.Result.{MatchResult-weaker}
use Rattle.hg_store_tools.proofs.upgrade.UpgradingRecordVisitNewStore.visit.Goals as goal

pub returns-clause-err : goal.returns-clause-err
returns-clause-err g c =
    MatchResult-weaker c.add.result c.add.ensures.err (λ _ _. tt) (λ fault why. (why, c.add.ensures.unplaced))
