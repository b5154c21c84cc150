use Rattle.std.proofs.Common.{◌≡◌, ◌<◌, ◌+◌, length, arith}
use Rattle.std.proofs.lemmas.List.{length-map}
use Rattle.hg_digests.specs.Messages.{message_at}
use Rattle.hg_digests.specs.code.Blocks.{count_of}
use Rattle.hg_digests.specs.code.Lanes.{own}
use Rattle.hg_digests.specs.code.Hashing.{messages_at}
use Rattle.hg_digests.proofs.HashingLemmas.{length-own}
use Rattle.hg_digests.proofs.lane.Lane.next_block.Goals as goal

pub block_of-requires-clause-there : goal.block_of-requires-clause-there
block_of-requires-clause-there c =
    let held = c.requires.lane (omega arith) in
    let number = c.args.self.now.number in
    let all : length (messages_at c.args.bytes.now c.args.places.now) ≡ length c.args.places.now =
    length-map c.args.places.now (message_at c.args.bytes.now) in
    let there : number < length c.args.places.now = omega (arith, held.there) in
    let size = length-own c.args.bytes.now c.args.places.now number (record { first = 0; second = 0; from = 0; to = 0 }) c.requires.within there in
    let blocks : c.args.self.now.taken + c.args.self.now.left ≡ count_of (length (own (messages_at c.args.bytes.now c.args.places.now) number)) =
    held.blocks in
    omega arith
