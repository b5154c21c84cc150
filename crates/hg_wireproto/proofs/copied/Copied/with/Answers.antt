use Rattle.std.proofs.Common.{◌∙◌, ap, sym, subst, take, List, ℕ, ◌++◌}
use Rattle.hg_wireproto.specs.Viewed.{IsBefore, Since, Viewed}
use Rattle.hg_wireproto.specs.code.Kept.{AreSaid}
use Rattle.hg_wireproto.specs.code.Viewed.{markers_in, phases_in, rows_in, IsKeptOf}
use Rattle.hg_wireproto.proofs.Coming.{listed_taken, view_on}
use Rattle.hg_wireproto.proofs.copied.Copied.with.Goals as goal

pub invariant_of-result : goal.invariant_of-result
invariant_of-result g c =
    let old = c.self.inside in
    let came = c.came.inside in
    let rows = rows_in came.made_of.items in
    let markers = markers_in came.made_of.items in
    let phases = phases_in came.phased.items in
    let was = phases_in old.phased.items in
    let view : Viewed g.row.A.Denot = record {
      rows = rows_in old.made_of.items;
      markers = markers_in old.made_of.items;
      phases = was;
    } in
    let since : Since g.row.A.Denot = record {
      first = came.first;
      known = came.known;
      public = came.public.items;
      rows = rows;
      markers = markers;
      phases = phases;
    } in
    let before : IsBefore view since =
    subst (λ (v : Viewed g.row.A.Denot). IsBefore v since) (sym c.self.view_is)
    (subst (λ (s : Since g.row.A.Denot). IsBefore c.args.self s) (sym c.came.view_is) c.requires) in
    let is = subst (λ ms. IsKeptOf (take came.first rows) ms was old.entries.items old.branches.items old.kept)
    before.markers (subst (λ rs. IsKeptOf rs (markers_in old.made_of.items) was old.entries.items old.branches.items
    old.kept) before.rows c.self.invariant.0) in
    let forgot : AreSaid 0 came.obsolete.items old.kept c.in_ok-kept.kept =
    subst (λ (revs : List ℕ). AreSaid 0 revs old.kept c.in_ok-kept.kept) c.as_slice-2.ensures.value
    c.in_ok-kept.ensures in
    let showed : AreSaid 1 came.public.items c.in_ok-kept.kept c.in_ok-kept-2.kept =
    subst (λ (revs : List ℕ). AreSaid 1 revs c.in_ok-kept.kept c.in_ok-kept-2.kept) c.as_slice-3.ensures.value
    c.in_ok-kept-2.ensures in (
      view_on rows markers phases was came.first came.known old.entries.items came.entries.items _ old.branches.items
          came.branches.items _ old.kept c.in_ok-kept.kept c.in_ok-kept-2.kept came.kept.items _ came.obsolete.items
          came.public.items is c.came.invariant.0 before.stay (listed_taken view since before) forgot showed
          (c.in_ok-extend_from_slice.ensures.items ∙ ap (λ es. old.entries.items ++ es) c.as_slice.ensures.value)
          c.in_ok-add_names.ensures
          (c.in_ok-kept-3.ensures ∙ ap (λ (ks : List ℕ). c.in_ok-kept-2.kept ++ ks) c.as_slice-4.ensures.value),
      c.came.invariant.1,
    )
