use Rattle.hg_stream.specs.Unbundler.{ready_of}
use Rattle.hg_replay.proofs.Items.{begins}
use Rattle.hg_replay.proofs.Answered.{few_received, takes}
use Rattle.hg_replay.proofs.push.take_push.Goals as goal

pub end_push-outcome-requires-clause-few : goal.end_push-outcome-requires-clause-few
end_push-outcome-requires-clause-few g c =
    few_received c.parts_are_few.ensures _ _ _ _ c.receive-ending.ensures

pub end_push-outcome-requires-clause-taken : goal.end_push-outcome-requires-clause-taken
end_push-outcome-requires-clause-taken g c = (
  c.requires.idle.0,
  c.requires.idle.1,
  begins c.requires.idle.0 c.requires.idle.1 c.in-Ok.push c.args.book.now c.open.new.self
      c.requires.idle.2 c.in-Ok.ensures.ok c.in-Ok.ensures.opened c.open.ensures.holds,
)

pub returns-clause-some : goal.returns-clause-some
returns-clause-some g c =
    takes _ _ c.args.book.now c.open.new.self c.end_push-outcome.new.book c.in-Ok.push c.receive-ending.result
    (ready_of c.receive-ending.new.bundle) c.end_push-outcome.result c.receive-ending.ensures
    c.in-Ok.ensures.ok c.in-Ok.ensures.opened c.open.ensures.holds c.end_push-outcome.ensures.next
    c.end_push-outcome.ensures.leaves
