use Rattle.std.proofs.Common.{◌<◌, length, inr, arith}
use Rattle.std.proofs.lemmas.Result.{on_ok_weaker}
use Rattle.hg_log.specs.Parents.{parents_of}
use Rattle.hg_phases.specs.Standing.{phases_told}
use Rattle.hg_phases.specs.code.Walk.{IsHigherRow}
use Rattle.hg_phases.proofs.Restood.{restood_none, restood_set}
use Rattle.hg_phases.proofs.walk.Advance.restand_higher.Goals as goal

pub returns-clause-ok : goal.returns-clause-ok
returns-clause-ok g c =
    let parents = parents_of c.args.self.now.log.now.rows in
    let rows = c.args.rows.now in
    let within : c.args.row < length rows = omega (arith, c.if-row-len.false, c.len.ensures) in
    on_ok_weaker c.restand.result
    (λ is. restood_set parents (λ r. ⊥) (λ r. IsHigherRow c.args.self.now.target (phases_told rows) c.args.row r) rows rows
    c.restand.new.rows c.args.row within is (λ r r_in higher. inr higher.0)
    (restood_none parents (λ r. ⊥) rows (λ r r_in none. none)))
    c.restand.ensures.ok
