use Rattle.std.proofs.Common.{◌≡◌, ◌<◌, length, ◌≤◌, true, false, Ok, Err, arith, refl, ap, ◌∙◌}
use Rattle.std.proofs.lemmas.Result.{err_from_is_err_and}
use Rattle.hg_log.specs.declared.add.AddFault.{AddFault}
use Rattle.hg_log.specs.Changeset.{Log}
use Rattle.hg_log.specs.Add.{Agrees, HasOutcome}
use Rattle.hg_log.specs.Add.IsAnswer.{known, mismatch, too_many, added}
use Rattle.hg_log.specs.Answer.{text_of}
use Rattle.hg_log.specs.code.Texts.{text_in}
use Rattle.hg_log.proofs.RowLemmas.{lacks_unknown}
use Rattle.hg_log.proofs.Answering.{answer_known, answer_no_text, answer_mismatch, answer_too_many}
use Rattle.hg_log.proofs.Answering.{answer_added}
use Rattle.hg_log.proofs.changelog.Changelog.add.Goals as goal

pub returns-then-knows-clause-answer : goal.returns-then-knows-clause-answer
returns-then-knows-clause-answer g c = λ _. known (c.if-knows.ensures.row.0 refl)

pub returns-then-knows-clause-value : goal.returns-then-knows-clause-value
returns-then-knows-clause-value g c =
    λ _. answer_known c.args.self.now c.args.entry.now (c.if-knows.ensures.row.0 refl)

pub returns-then-knows-clause-leaves : goal.returns-then-knows-clause-leaves
returns-then-knows-clause-leaves g c = (c.if-knows.ensures.row.0 refl, refl)

pub returns-in_err-text-clause-value : goal.returns-in_err-text-clause-value
returns-in_err-text-clause-value g c = λ other.
    let p = err_from_is_err_and c.from_residual-in_err-text.result c.from_residual-in_err-text.ensures.1 in
    let log : Log = c.args.self.now in
    let fault : AddFault = c.in_err-text.field-0.0 in
    let result : c.from_residual-in_err-text.result ≡ Err fault = p.1 ∙ ap (λ (f : AddFault). Err f) p.2 in
    let read : Err fault ≡ text_of log c.args.entry.now = c.in_err-text.ensures.fault_value
    (λ refused. other (result ∙ ap (λ (f : AddFault). Err f) refused)) in
    rw result (answer_no_text log c.args.entry.now fault c.in_ok-parents.ensures.known read)

pub returns-then-not-agrees : goal.returns-then-not-agrees
returns-then-not-agrees g c =
    let log : Log = c.args.self.now in
    let text = text_in c.args.entry.now c.in_ok-text.text in
    let other : ¬ (Agrees c.args.entry.now text) = λ agrees.
    absurd (let no_way : false ≡ true = c.if-not-agrees.ensures.1 agrees in cc) in
    record {
      answer = λ _. mismatch text c.in_ok-text.ensures.text other;
      value = λ _. answer_mismatch log c.args.entry.now text c.in_ok-parents.ensures.known
          c.in_ok-text.ensures.value other;
      leaves = tt;
      err = refl;
      ids = refl;
    }

pub returns-then-rev-self : goal.returns-then-rev-self
returns-then-rev-self g c =
    let log : Log = c.args.self.now in
    let text = text_in c.args.entry.now c.in_ok-text.text in
    let agrees : Agrees c.args.entry.now text = c.if-not-agrees.ensures.0 refl in
    let high : log.limits.revisions ≤ c.len-rev.result = rw (← c.self.view_is) c.if-rev-self.true in
    let full : log.limits.revisions ≤ length log.rows = omega (arith, c.len-rev.ensures.len) in
    record {
      answer = λ _. too_many text c.in_ok-text.ensures.text agrees full;
      value = λ _. answer_too_many log c.args.entry.now text c.in_ok-parents.ensures.known
          c.in_ok-text.ensures.value agrees full;
      leaves = tt;
      err = refl;
      ids = refl;
    }

pub append-requires-clause-new : goal.append-requires-clause-new
append-requires-clause-new g c =
    lacks_unknown c.args.self.now.rows c.args.entry.now.node.0 c.in_ok-parents.ensures.known.unknown

pub returns-in-Ok : goal.returns-in-Ok
returns-in-Ok g c =
    let log : Log = c.args.self.now in
    let text = c.taken_from-text.result in
    let is = c.taken_from-text.ensures.text in
    let agrees : Agrees c.args.entry.now text = rw is (c.if-not-agrees.ensures.0 refl) in
    let outcome : HasOutcome log c.args.entry.now (Ok text) = rw is c.in_ok-text.ensures.text in
    let value : Ok text ≡ text_of log c.args.entry.now = rw is c.in_ok-text.ensures.value in
    let low : c.len-rev.result < log.limits.revisions = rw (← c.self.view_is) c.if-rev-self.false in
    let room : length log.rows < log.limits.revisions = omega (arith, c.len-rev.ensures.len) in
    record {
      answer = λ _. rw (c.in-Ok.ensures.ok, c.len-rev.ensures.len) (added text outcome agrees room);
      value = λ _. rw (c.in-Ok.ensures.ok, c.len-rev.ensures.len)
          (answer_added log c.args.entry.now text c.in_ok-parents.ensures.known value agrees room);
      leaves = record {
        next = c.len-rev.ensures.len;
        text = text;
        appended = c.in-Ok.ensures.ok;
      };
      err = tt;
      ids = c.taken_from-text.ensures.ids;
    }
