use Rattle.hg_keys.proofs.CallerLemmas.{with_on_known}
use Rattle.hg_keys.proofs.PartsLemmas.{in_order_with}
use Rattle.hg_keys.proofs.laws.bookmarks_stay_lawful.Goals as goal

pub returns-clause-in_order : goal.returns-clause-in_order
returns-clause-in_order c = λ pairs name target in_order. in_order_with pairs name in_order target

pub returns-clause-on_known : goal.returns-clause-on_known
returns-clause-on_known c = λ rows pairs name target known all. with_on_known rows pairs name target known all
