use Rattle.std.proofs.Common.{subst, sym}
use Rattle.std.specs.Prelude.{MatchResult}
use Rattle.hg_recovery.specs.Opening.{AreNamesIf, IsBegunIf}
use Rattle.hg_recovery.specs.declared.opening.IfMissing.{IfMissing}
use Rattle.hg_recovery.proofs.Folders.{once_refused, tails_of}
use Rattle.hg_recovery.proofs.opening.begin_in.Goals as goal

pub returns-in-Refuse-clause-kept : goal.returns-in-Refuse-clause-kept
returns-in-Refuse-clause-kept g c =
    tails_of c.begin_store.result c.args.folder.now c.begin_store.new.folder c.begin_store.ensures.names

pub returns-in-Refuse-clause-names : goal.returns-in-Refuse-clause-names
returns-in-Refuse-clause-names g c =
    subst (λ (how : IfMissing). MatchResult c.begin_store.result
    (λ _. IsBegunIf how c.args.folder.now c.begin_store.new.folder)
    (λ _. AreNamesIf how c.args.folder.now c.begin_store.new.folder)) (sym c.in-Refuse.is)
    (once_refused c.begin_store.result c.args.folder.now c.begin_store.new.folder c.begin_store.ensures.names)
