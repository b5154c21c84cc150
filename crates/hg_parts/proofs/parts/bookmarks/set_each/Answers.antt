use Rattle.std.proofs.Common.{subst, sym}
use Rattle.hg_keys.specs.Known.{AreOnKnown}
use Rattle.hg_parts.proofs.Setting.{each_on_known}
use Rattle.hg_parts.proofs.parts.bookmarks.set_each.Goals as goal

pub returns-clause-pairs : goal.returns-clause-pairs
returns-clause-pairs g c =
    let rows = c.args.log.now.rows in
    subst (λ pairs. AreOnKnown rows pairs) (sym c.in_ok-set_each.ensures.ok)
    (each_on_known rows c.args.entries c.args.bookmarks.now.current c.requires.entries c.requires.pairs)
