use Rattle.std.proofs.Common.{refl, sym, ◌∙◌, arith}
use Rattle.std.proofs.lemmas.List.{take-append-le}
use Rattle.sha1.specs.Sha1.{padding}
use Rattle.hg_digests.proofs.BlockLemmas.{put-rest}
use Rattle.hg_digests.proofs.block.next_block.Goals as goal

pub returns-then-rest-ge-BLOCK : goal.returns-then-rest-ge-BLOCK
returns-then-rest-ge-BLOCK c = c.copy_from_slice.ensures.after ∙ sym (take-append-le 64 c.args.rest.now (padding c.args.size) (omega arith))

pub returns : goal.returns
returns c = c.closed.ensures c.args.rest.now (put-rest c.args.rest.now c.copy_from_slice-2.new.self c.copy_from_slice-2.ensures.after) refl
