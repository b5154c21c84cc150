use Rattle.std.proofs.Common.{List, ℕ, refl, subst}
use Rattle.hg_connection.specs.Sent.{Sends}
use Rattle.hg_connection.specs.declared.sending.Sending.TheVariants.{Whole as sent_whole}
use Rattle.hg_store_tools.specs.Reporting.{unsent, untold}
use Rattle.hg_store_tools.proofs.report.send_report.Goals as goal

pub returns-in-Err-clause-err : goal.returns-in-Err-clause-err
returns-in-Err-clause-err g c =
    let told = c.in-Err.ensures.err in
    (told.0, told.1, untold told.2 refl)

pub returns-clause-ok : goal.returns-clause-ok
returns-clause-ok g c =
    let told = c.in-Ok.ensures.ok in
    let out = c.in-Ok-sent.ensures.ok in
    let before = g.W.Writer.told c.args.writer.now in
    let after = g.W.Writer.told c.sent.new.writer in (
      told.0,
      told.1,
      c.in-Ok.told.1.items,
      out.0,
      told.2,
      subst (λ (bytes : List ℕ). Sends sent_whole out.0 before after bytes) c.deref.ensures.value out.1,
    )

pub returns-in-Err-sent-clause-err : goal.returns-in-Err-sent-clause-err
returns-in-Err-sent-clause-err g c =
    let told = c.in-Ok.ensures.ok in
    let out = c.in-Err-sent.ensures.err in
    let before = g.W.Writer.told c.args.writer.now in
    let after = g.W.Writer.told c.sent.new.writer in (
      told.0,
      told.1,
      unsent c.in-Ok.told.0 c.in-Ok.told.1.items out.0 out.1 told.2
          (subst (λ (bytes : List ℕ). Sends out.0 out.1 before after bytes) c.deref.ensures.value out.3) out.2,
    )
