use Rattle.std.proofs.Common.{ap, length, ◌∙◌}
use Rattle.std.specs.List.{range_with_len}
use Rattle.hg_parts.specs.declared.source.Source.TheVariants.{Push}
use Rattle.hg_push.specs.Run.{run_push}
use Rattle.hg_push.specs.World.{items_in, items_of}
use Rattle.hg_push.proofs.Completing.{complete_of, done_in, orderly_list, whole_list}
use Rattle.hg_push.proofs.laws.done_had_all_of_its_list.Goals as goal

pub returns : goal.returns
returns g c = record {
  complete = λ first p h put done orderly front is.
      let all = complete_of run_push first p h front.0 put done front.1 (orderly_list 0 put orderly) is in
      (whole_list (items_of p (items_in h)) front.0 put front.1 all.0, all.1);
  handled = λ first p h put done orderly front is.
      let all = complete_of run_push first p h front.0 put done front.1 (orderly_list 0 put orderly) is in
      let ran = done_in run_push first p h done is in
      c.done_runs_handle_all.ensures Push ran.before _ ran.after done ran.answered
      ∙ ap (λ ps. range_with_len 0 (length ps)) all.1.parts;
}
