use Rattle.std.proofs.Common.{ap, length, ◌∙◌}
use Rattle.std.specs.List.{range_with_len}
use Rattle.hg_parts.specs.declared.source.Source.TheVariants.{Push}
use Rattle.hg_push.specs.Run.{run_push}
use Rattle.hg_push.specs.World.{run_all, start}
use Rattle.hg_push.proofs.Completing.{all_complete, done_in}
use Rattle.hg_push.proofs.laws.done_had_all.Goals as goal

pub returns : goal.returns
returns g c = record {
  complete = λ capacity events first p done is. all_complete run_push first capacity events p done is;
  handled = λ capacity events first p done is.
      let all = all_complete run_push first capacity events p done is in
      let ran = done_in run_push first p (run_all events (start capacity)).history done is in
      c.done_runs_handle_all.ensures Push ran.before _ ran.after done ran.answered
      ∙ ap (λ ps. range_with_len 0 (length ps)) all.parts;
}
