use Rattle.std.proofs.Common.{◌≡◌, ◌<◌, length, sym, ap, ◌∙◌, arith}
use Rattle.std.proofs.lemmas.List.{length-map}
use Rattle.hg_digests.specs.Messages.{message_at}
use Rattle.hg_digests.specs.code.Blocks.{count_of}
use Rattle.hg_digests.specs.code.Lanes.{own}
use Rattle.hg_digests.specs.code.Hashing.{messages_at}
use Rattle.hg_digests.proofs.HashingLemmas.{hashing-begun, lane-begun, length-own}
use Rattle.hg_digests.proofs.lanes.Lanes.begin.Goals as goal

pub returns-clause-hashing : goal.returns-clause-hashing
returns-clause-hashing c =
    let messages = messages_at c.args.bytes.now c.args.places.now in
    let lanes = c.run-lanes.result in
    let all : length messages ≡ length c.args.places.now = length-map c.args.places.now (message_at c.args.bytes.now) in
    let number : c.begin.result.number ≡ lanes.begun = c.begin.ensures.number in
    let room : lanes.begun < length c.args.places.now = omega (arith, c.run-lanes.ensures.begun, c.soonest_first.ensures.begun, c.requires.more) in
    let there : c.begin.result.number < length messages = omega arith in
    let size = length-own c.args.bytes.now c.args.places.now lanes.begun (record { first = 0; second = 0; from = 0; to = 0 }) c.requires.within room in
    let left : c.begin.result.left ≡ count_of (length (own messages c.begin.result.number)) =
    c.begin.ensures.left ∙ ap count_of (sym size) ∙ ap (λ n. count_of (length (own messages n))) (sym number) in
    let some : 0 < c.begin.result.left = omega (arith, c.begin.ensures.left) in
    hashing-begun messages c.run-lanes.new.digests lanes c.begin.result c.run-lanes.ensures.hashing c.run-lanes.ensures.first
    (lane-begun messages c.begin.result there c.begin.ensures.hash c.begin.ensures.taken left c.begin.ensures.short) (some, number)
