use Rattle.std.proofs.Common.{[], sym, ap, refl, Err, ◌∙◌}
use Rattle.hg_stream.specs.Unbundler.{state_of}
use Rattle.hg_import.proofs.Feeding.{fault_shown, truncated_shown, whole_front}
use Rattle.hg_import.proofs.pushing.feed_front.Goals as goal

pub returns-in-Ended-clause-whole : goal.returns-in-Ended-clause-whole
returns-in-Ended-clause-whole g c =
    whole_front c.args.bundle.now c.feed.new.self c.args.bytes.now c.in-Ok.count
    (c.in-Ok.ensures.ok [] [] c.requires.empty) c.feed.ensures.limits (sym c.state.ensures ∙ c.in-Ended.is)

pub returns-in_default-clause-fault : goal.returns-in_default-clause-fault
returns-in_default-clause-fault g c =
    truncated_shown c.args.bundle.now c.feed.new.self c.args.bytes.now c.in-Ok.count
    (c.in-Ok.ensures.ok [] [] c.requires.empty) c.feed.ensures.limits (state_of c.feed.new.self) refl
    (λ ended. c.in_default.not-Ended (c.state.ensures ∙ ended)) c.in-Ok.ensures.all
    (c.in-Ok.ensures.goes_on ([], [], c.requires.empty, c.requires.reading))

pub returns-in-Err-clause-fault : goal.returns-in-Err-clause-fault
returns-in-Err-clause-fault g c =
    let at = c.in-Err.ensures.err in
    fault_shown c.args.bundle.now c.feed.new.self c.args.bytes.now at.0 (at.2 [] [] c.requires.empty)
    c.feed.ensures.limits c.in-Err.fault c.in-Err.ensures.failed
    (λ is. c.feed.ensures.not_truncated ([], [], c.requires.empty, c.requires.reading)
    (c.in-Err.is ∙ ap Err is))
