use Rattle.std.proofs.Common.{◌+◌, ◌∙◌, subst, sym, take}
use Rattle.hg_connection.specs.Devices.{Gave, ReadsOnce}
use Rattle.hg_web.specs.code.Bodies.{BodyView, input_of}
use Rattle.hg_web.proofs.Bodies.{front_from, reads_on}
use Rattle.hg_web.proofs.body.BodyReader.read.Goals as goal

pub returns-clause-read : goal.returns-clause-read
returns-clause-read c =
    let inside = c.self.inside in
    let count = c.copy_front-count.result in
    let front = take count c.copy_front-count.new.buffer in
    let bytes = inside.bytes.now in
    let after : BodyView = record { bytes = bytes; at = inside.at + count; reads = c.and-self-inside.result.items } in
    subst (λ b. ReadsOnce (input_of b) (input_of after) (Gave front)) c.self.view_is
    (subst (λ reads. ReadsOnce (input_of (record { bytes = bytes; at = inside.at; reads = inside.reads.items }))
    (input_of (record { bytes = bytes; at = inside.at + count; reads = reads })) (Gave front))
    (sym c.and-self-inside.ensures)
    (reads_on (record { bytes = bytes; at = inside.at; reads = inside.reads.items }) count front
    (c.copy_front-count.ensures.front ∙ front_from count inside.at bytes)))
