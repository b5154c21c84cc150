use Rattle.std.proofs.Common.{[], refl}
use Rattle.hg_http.proofs.Following.{follows_none, follows_same}
use Rattle.hg_http.proofs.follow.Follower.new.Goals as goal

pub returns-clause-follows : goal.returns-clause-follows
returns-clause-follows c =
    follows_same c.args.limits c.args.limits _ c.new.result [] c.new-2.result.items [] 0 refl c.new.ensures
    c.new-2.ensures.items (follows_none c.args.limits)
