use Rattle.std.proofs.Common.{◌∙◌, arith}
use Rattle.hg_digests.proofs.BlockLemmas.{put-end}
use Rattle.hg_digests.proofs.block.with_length.Goals as goal

pub returns : goal.returns
returns c = put-end c.args.block c.copy_from_slice.new.self _ (omega arith) (c.copy_from_slice.ensures.after ∙ c.to_be_bytes.ensures)
