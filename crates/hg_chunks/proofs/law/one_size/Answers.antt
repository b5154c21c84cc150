use Rattle.std.proofs.Common.{ap, ◌++◌, [], List, ℕ}
use Rattle.hg_chunks.proofs.Sizes.{one_size_lem}
use Rattle.hg_chunks.proofs.law.one_size.Goals as goal

pub returns : goal.returns
returns c = λ a b fa fb same. (one_size_lem a b [] [] fa fb (ap (λ (bytes : List ℕ). bytes ++ []) same)).0
