use Rattle.std.proofs.Common.{◌≡◌, sym, ◌∙◌, None, rules}
use Rattle.hg_wireproto.proofs.Extras.{first_escape, first_alone, first_other, first_no_letter}
use Rattle.hg_wireproto.proofs.branch.read_extra.Goals as goal
use Rattle.hg_wireproto.proofs.branch.read_extra.Goals.{else-extra-gt1-via-else-extra-gt1}
use Rattle.hg_wireproto.proofs.branch.read_extra.Goals.{else-extra-gt1-via-then-extra-gt1+else-extra-eq92}
use Rattle.hg_wireproto.proofs.branch.read_extra.Goals.{else-extra-gt1-via-then-extra-gt1+then-extra-eq92+in-None-1}

pub returns-clause-first : goal.returns-clause-first
returns-clause-first c =
    first_escape c.args.extra.now c.in-Some.byte c.if-extra-gt1.true c.if-extra-eq92.true (sym c.in-Some.ensures)

pub returns-2-clause-first : goal.returns-2-clause-first
returns-2-clause-first c =
    elim c.else-extra-gt1.branch [
      | else-extra-gt1-via-else-extra-gt1 w ↦ first_alone c.args.extra.now c.requires w.if-extra-gt1.false
      | else-extra-gt1-via-then-extra-gt1+else-extra-eq92 w ↦
          first_other c.args.extra.now w.if-extra-gt1.true w.if-extra-eq92.false
      | else-extra-gt1-via-then-extra-gt1+then-extra-eq92+in-None-1 w ↦
          let none : w.byte_of.result ≡ None = first_of (cc, search rules) in
          first_no_letter c.args.extra.now w.if-extra-gt1.true (sym w.byte_of.ensures ∙ none)
    ]
