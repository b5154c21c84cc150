use Rattle.hg_log.proofs.Ascending.{same_ascending}
use Rattle.hg_log.proofs.HeadValues.{heads_by_value, count_value}
use Rattle.hg_log.proofs.laws.one_list_of_heads.Goals as goal

pub returns : goal.returns
returns c = record { value = heads_by_value; one = same_ascending; count = count_value }
