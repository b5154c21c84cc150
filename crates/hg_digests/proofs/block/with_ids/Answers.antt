use Rattle.hg_digests.proofs.BlockLemmas.{put-ids}
use Rattle.hg_digests.proofs.block.with_ids.Goals as goal

pub returns : goal.returns
returns c =
    put-ids c.args.first.now c.args.second.now c.copy_from_slice.new.self c.copy_from_slice-2.new.self
    c.copy_from_slice.ensures.after c.copy_from_slice-2.ensures.after c.requires.first c.requires.second
