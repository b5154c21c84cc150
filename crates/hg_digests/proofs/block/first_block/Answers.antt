use Rattle.std.proofs.Common.{◌≡◌, ◌++◌, ℕ, List, length, length-append, arith}
use Rattle.hg_digests.proofs.BlockLemmas.{first-block}
use Rattle.hg_digests.proofs.block.first_block.Goals as goal

pub returns : goal.returns
returns c =
    let ids : List ℕ = c.args.first.now ++ c.args.second.now in
    let size : length ids ≡ 40 = omega (arith, length-append c.args.first.now c.args.second.now) in
    first-block ids c.args.text.now c.with_ids-block.result c.copy_from_slice.new.self c.closed.result c.min-used.result c.args.size size
    c.requires.size (λ short. omega arith) (λ long. omega arith) c.with_ids-block.ensures c.copy_from_slice.ensures.after c.closed.ensures
