use Rattle.std.proofs.Common.{inr}
use Rattle.hg_web.proofs.Lettings.{denied, let_run, timed}
use Rattle.hg_web.proofs.letting.push_key_if_let.Goals as goal

pub returns-in-Some-clause-answered : goal.returns-in-Some-clause-answered
returns-in-Some-clause-answered g c =
    let e = c.ask.ensures in denied _ _ _ _ _ e.0 e.1 e.2 _ c.in-Some.is

pub returns-in-Some-clause-asks : goal.returns-in-Some-clause-asks
returns-in-Some-clause-asks g c = let e = c.ask.ensures in inr (_, (e.0, e.1))

pub returns-in-None-clause-answered : goal.returns-in-None-clause-answered
returns-in-None-clause-answered g c =
    let e = c.ask.ensures in let_run _ _ _ _ _ e.0 e.1 e.2 _ _ c.in-None.is
    (timed _ _ _ c.args.pusher.now _ _ _ _ _ c.push_for_key.ensures)

pub returns-in-None-clause-asks : goal.returns-in-None-clause-asks
returns-in-None-clause-asks g c = let e = c.ask.ensures in inr (_, (e.0, e.1))
