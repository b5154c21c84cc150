use Rattle.hg_log.proofs.ParentLemmas.{parents_kept}
use Rattle.hg_log.proofs.AncestorLaws.{ancestors_kept}
use Rattle.hg_log.proofs.laws.other_rows_keep_their_ancestors.Goals as goal

pub returns : goal.returns
returns c = record {
  parents = λ rows n r lawful within low. parents_kept rows n r within lawful low;
  ancestors = ancestors_kept;
}
