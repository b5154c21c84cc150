use Rattle.std.proofs.Common.{◌≡◌, ◌<◌, length, get_or, sym, arith}
use Rattle.std.proofs.lemmas.List.{get_or_read}
use Rattle.hg_phases.specs.declared.standing.Standing.TheVariants.{PublicOnPublic}
use Rattle.hg_phases.specs.Counts.{counts_of}
use Rattle.hg_phases.specs.Standing.{phases_told}
use Rattle.hg_phases.proofs.Counting.{counts_set, some_in, few_in, few_less}
use Rattle.hg_phases.proofs.counts.CountedRows.set.Goals as goal

pub remove-requires : goal.remove-requires
remove-requires g c =
    let rows = c.self.inside.rows.items in
    let was = c.index-was.result.now in
    let low : c.args.row < length rows = rw c.self.view_is c.requires in
    let here : was ≡ get_or rows c.args.row PublicOnPublic = get_or_read rows c.args.row was low
    c.index-was.ensures PublicOnPublic in
    rw (c.phase.ensures, c.self.invariant) (some_in rows c.args.row was low here)

pub add-requires : goal.add-requires
add-requires g c =
    let rows = c.self.inside.rows in
    let held = rows.ok in
    rw (c.remove.ensures, c.self.invariant) (omega (
      arith,
      few_less c.phase-2.result c.phase.result (counts_of (phases_told rows.items)),
      few_in c.phase-2.result rows.items,
      held,
      rows.small,
    ))

pub invariant_of-self : goal.invariant_of-self
invariant_of-self g c =
    let rows = c.self.inside.rows.items in
    let was = c.index-was.result.now in
    let low : c.args.row < length rows = rw c.self.view_is c.requires in
    let here : was ≡ get_or rows c.args.row PublicOnPublic = get_or_read rows c.args.row was low
    c.index-was.ensures PublicOnPublic in
    rw (c.add.ensures, c.phase-2.ensures, c.remove.ensures, c.phase.ensures, c.self.invariant)
    (sym (counts_set rows c.args.row c.args.standing was low here))
