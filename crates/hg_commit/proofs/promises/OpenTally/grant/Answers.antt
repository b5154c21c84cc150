use Rattle.std.proofs.Common.{rules}
use Rattle.hg_commit.proofs.Counting.{copies}
use Rattle.hg_commit.proofs.promises.OpenTally.grant.Goals as goal

pub split_seat-seat-requires : goal.split_seat-seat-requires
split_seat-seat-requires g c = (search rules, search rules, copies _ _)
