use Rattle.std.proofs.Common.{◌∙◌, ap, sym}
use Rattle.hg_queue.specs.declared.view.View.{View}
use Rattle.hg_queue.specs.declared.view.View.TheVariants.{AsTaker}
use Rattle.hg_queue.specs.Words.{taker_of}
use Rattle.hg_queue.proofs.Facts.{stands_at}
use Rattle.hg_queue.proofs.queue.PartQueue.learn.Goals as goal

pub returns-clause-fact : goal.returns-clause-fact
returns-clause-fact g c =
    let l = c.learn_as.ensures in (
      l.rule.0,
      stands_at _ _ _ (c.requires.role ∙ ap (λ (v : View _). AsTaker (taker_of v)) (sym l.queue.1))
          l.rule.1,
    )
