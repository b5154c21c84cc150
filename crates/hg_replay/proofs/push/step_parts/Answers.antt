use Rattle.std.proofs.Common.{◌∷◌, ◌∙◌, ap, sym}
use Rattle.hg_types.specs.declared.part.Part.{Part}
use Rattle.hg_stream.specs.Unbundler.{ready_of}
use Rattle.hg_replay.proofs.Items.{none_stepped, one_stepped}
use Rattle.hg_replay.proofs.push.step_parts.Goals as goal

pub loop-part-init : goal.loop-part-init
loop-part-init g c = none_stepped c.args.book.now c.args.push _

pub loop-part-preserved : goal.loop-part-preserved
loop-part-preserved g c =
    let left = ready_of c.next_part.new.self in
    let ready = c.in-Some.ensures.part ∙ ap (λ (part : Part g.row.A.Denot). part ∷ left)
    (sym (c.as_it_came.ensures ∙ c.hash_several.ensures)) in
    one_stepped c.args.book.now c.loop-part.book c.step.new.self c.args.push c.loop-part.index c.as_it_came.result
    c.step.result (ready_of c.loop-part.bundle) left (ready_of c.args.bundle.now) ready c.loop-part.invariant
    (record { pushes = c.step.ensures.pushes; holds = c.step.ensures.holds })
