use Rattle.std.proofs.Common.{◌≡◌, sym, ◌∙◌, None, rules}
use Rattle.hg_wireproto.proofs.Escapes.{first_escape, first_alone, first_other, first_no_letter}
use Rattle.hg_wireproto.proofs.batch.read_first.Goals as goal
use Rattle.hg_wireproto.proofs.batch.read_first.Goals.{else-text-gt1-via-else-text-gt1}
use Rattle.hg_wireproto.proofs.batch.read_first.Goals.{else-text-gt1-via-then-text-gt1+else-text-eq58}
use Rattle.hg_wireproto.proofs.batch.read_first.Goals.{else-text-gt1-via-then-text-gt1+then-text-eq58+in-None-1}

pub returns-clause-first : goal.returns-clause-first
returns-clause-first c =
    first_escape c.args.text.now c.in-Some.byte c.if-text-gt1.true c.if-text-eq58.true (sym c.in-Some.ensures)

pub returns-2-clause-first : goal.returns-2-clause-first
returns-2-clause-first c =
    elim c.else-text-gt1.branch [
      | else-text-gt1-via-else-text-gt1 w ↦ first_alone c.args.text.now c.requires w.if-text-gt1.false
      | else-text-gt1-via-then-text-gt1+else-text-eq58 w ↦
          first_other c.args.text.now w.if-text-gt1.true w.if-text-eq58.false
      | else-text-gt1-via-then-text-gt1+then-text-eq58+in-None-1 w ↦
          let none : w.byte_of.result ≡ None = first_of (cc, search rules) in
          first_no_letter c.args.text.now w.if-text-gt1.true (sym w.byte_of.ensures ∙ none)
    ]
