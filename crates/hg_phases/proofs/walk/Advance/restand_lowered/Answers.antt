use Rattle.std.proofs.Common.{◌≡◌, ◌∙◌, true, false, sym}
use Rattle.hg_types.specs.declared.phase.Phase.TheVariants.{Public}
use Rattle.hg_log.specs.Parents.{parents_of}
use Rattle.hg_phases.proofs.Restood.{public_stands}
use Rattle.hg_phases.proofs.walk.Advance.restand_lowered.Goals as goal
use Rattle.hg_phases.proofs.walk.Advance.restand_lowered.Goals.{in-Public, in_default}

pub returns-then-matches-clause-ok : goal.returns-then-matches-clause-ok
returns-then-matches-clause-ok g c =
    let rows = c.args.rows.now in
    let is : c.args.self.now.target ≡ Public = elim c.match-matches.branch [
      | in-Public w ↦ w.in-Public.is
      | in_default w ↦ absurd (let e : true ≡ false = sym c.if-matches.true ∙ w.matches-is in cc)
    ] in
    public_stands (parents_of c.args.self.now.log.now.rows) rows c.args.row c.requires.row
    (c.requires.lowered ∙ is)
