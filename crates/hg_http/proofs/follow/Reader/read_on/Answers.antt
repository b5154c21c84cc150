use Rattle.std.proofs.Common.{Some, refl, ap, ◌∙◌}
use Rattle.hg_http.proofs.Following.{follows_same, rest_of}
use Rattle.hg_http.proofs.follow.Reader.read_on.Goals as goal

pub returns-in-Some-clause-end : goal.returns-in-Some-clause-end
returns-in-Some-clause-end c = λ is stream count x.
    c.read_event-found.ensures.end (c.in-Some.is ∙ ap Some is) stream count
    (follows_same _ _ _ _ _ _ stream count refl refl (rest_of c.args.bytes.now c.events.read)
    (c.events.invariant.2 stream count x))
