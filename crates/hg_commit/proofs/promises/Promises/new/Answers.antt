use Rattle.hg_commit.proofs.Counting.{begins}
use Rattle.hg_commit.proofs.promises.Promises.new.Goals as goal

pub of_words-requires : goal.of_words-requires
of_words-requires g c = begins
