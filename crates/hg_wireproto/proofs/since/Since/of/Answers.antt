use Rattle.std.proofs.Common.{◌∙◌, ap, arith, length, sym, subst}
use Rattle.hg_wireproto.specs.code.Viewed.{markers_in, phases_in, ArePublic, IsSinceOf}
use Rattle.hg_wireproto.proofs.Coming.{shown_public}
use Rattle.hg_wireproto.proofs.Viewing.{noted_markers, noted_phases, noted_rows}
use Rattle.hg_wireproto.proofs.since.Since.of.Goals as goal

pub invariant_of-result : goal.invariant_of-result
invariant_of-result g c =
    let log = c.args.log.now in
    let markers = c.args.markers.now in
    let phases = c.args.phases.now in
    let first = c.min-first.result in
    let known = c.min-known.result in
    let public = c.in_ok-public.public.items in
    let entries = c.in_ok-entries.entries.items in
    let branches = c.in_ok-branches.branches.items in
    let kept = c.in_ok-kept.kept.items in
    let obsolete = c.in_ok-obsolete.obsolete.items in
    let rows_is = noted_rows _ _ log markers c.of.ensures c.beside.ensures in
    let markers_is = noted_markers _ _ log markers c.of.ensures c.beside.ensures in
    let phases_is = noted_phases _ _ phases markers c.of-2.ensures c.beside-2.ensures in (
      subst (λ rows. IsSinceOf first known public rows (markers_in c.beside.result.items)
          (phases_in c.beside-2.result.items) entries branches kept obsolete) (sym rows_is)
          (subst (λ ms. IsSinceOf first known public log.rows ms (phases_in c.beside-2.result.items) entries branches
          kept obsolete) (sym markers_is)
          (subst (λ ps. IsSinceOf first known public log.rows markers ps entries branches kept obsolete)
          (sym phases_is) (record {
            lawful = c.in_ok-entries.ensures.lawful;
            few = c.in_ok-entries.ensures.few;
            count = c.requires;
            first_within = omega (arith, c.min-first.ensures, c.len.ensures.len);
            known_within = omega (arith, c.min-known.ensures, ap length c.list-count.ensures.value);
            are_entries = c.in_ok-entries.ensures.entries;
            are_names = c.in_ok-branches.ensures;
            are_kept = c.in_ok-kept.ensures;
            are_listed = c.in_ok-obsolete.ensures;
            are_public = subst (λ revs. ArePublic phases.current.phases first revs) (sym c.in_ok-public.ensures)
                (shown_public first phases.current.phases _);
          }))),
      ap length c.list-count.ensures.value ∙ ap length (sym markers_is),
    )
