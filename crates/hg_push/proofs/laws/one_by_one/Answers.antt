use Rattle.hg_push.specs.Run.{run_push}
use Rattle.hg_push.proofs.Journals.{one_by_one}
use Rattle.hg_push.proofs.Turns.{alone}
use Rattle.hg_push.proofs.laws.one_by_one.Goals as goal

pub returns : goal.returns
returns g c = record {
  leads = one_by_one run_push;
  alone = λ first last h runs. alone run_push _ first _ last _ runs (one_by_one run_push first h);
}
