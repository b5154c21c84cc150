use Rattle.hg_theorems.proofs.Timeline.{as_many, not_later}
use Rattle.hg_theorems.proofs.holders.no_request_comes_behind_a_later_server.Goals as goal

pub returns-clause-earlier : goal.returns-clause-earlier
returns-clause-earlier c = not_later

pub returns-clause-same : goal.returns-clause-same
returns-clause-same c = as_many
