use Rattle.std.proofs.Common.{◌≡◌, ap}
use Rattle.hg_wireproto.specs.Viewed.{Viewed}
use Rattle.hg_queries.proofs.Copied.{if_ok}
use Rattle.hg_queries.proofs.reading.view_of.Goals as goal

pub returns : goal.returns
returns g c =
    let store = c.args.store.now in
    if_ok c.of.result (λ (v : Viewed g.row.A.Denot). v ≡ record {
      rows = store.log.rows;
      markers = store.markers;
      phases = store.phases.current.phases;
    }) _ (λ view is. record {
      rows = ap (λ (v : Viewed g.row.A.Denot). v.rows) is;
      markers = ap (λ (v : Viewed g.row.A.Denot). v.markers) is;
      phases = ap (λ (v : Viewed g.row.A.Denot). v.phases) is;
    }) c.of.ensures
