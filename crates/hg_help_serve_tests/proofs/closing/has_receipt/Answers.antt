use Rattle.std.proofs.Common.{ap}
use Rattle.std.specs.List.{Contains}
use Rattle.std.proofs.lemmas.List.Elements.{All-same}
use Rattle.hg_commit.specs.Clients.{promised}
use Rattle.hg_help_serve_tests.proofs.closing.has_receipt.Goals as goal

pub returns-in-Some-clause-promised : goal.returns-in-Some-clause-promised
returns-in-Some-clause-promised g c =
    All-same (Contains c.args.tally.now.promises) (promised c.args.receipt).promises c.in-Some.receipt.promises
    (ap (λ r. (promised r).promises) c.in-Some.is) c.compare.ensures.promised
