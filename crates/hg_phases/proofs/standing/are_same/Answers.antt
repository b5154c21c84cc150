use Rattle.std.proofs.Common.{◌≡◌, length, refl, arith}
use Rattle.std.proofs.lemmas.List.{length-map}
use Rattle.hg_phases.specs.Standing.{phase_told, phases_told}
use Rattle.hg_phases.proofs.Steps.{all_same}
use Rattle.hg_phases.proofs.standing.are_same.Goals as goal

pub returns : goal.returns
returns c =
    let rows = c.args.rows.now in
    let others = c.args.others.now in
    let first : length (phases_told rows) ≡ length rows = length-map rows phase_told in
    let second : length (phases_told others) ≡ length others = length-map others phase_told in
    let same : phases_told rows ≡ phases_told others =
    all_same (phases_told rows) (phases_told others) c.loop-row.row (omega (arith, c.if-rows-others.false))
    (omega (arith, c.loop-row-test.false)) c.loop-row.invariant in
    (λ _. same, λ _. refl)
