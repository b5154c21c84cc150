use Rattle.std.proofs.Common.{[], refl}
use Rattle.hg_http.proofs.Following.{follows_next, follows_same}
use Rattle.hg_http.proofs.follow.Reader.begin.Goals as goal

pub returns-clause-follows : goal.returns-clause-follows
returns-clause-follows c = λ stream count x.
    let limits = c.args.self.now.limits in
    follows_same limits limits _ c.new-self.result [] [] stream count refl c.new-self.ensures refl
    (follows_next limits stream count x)
