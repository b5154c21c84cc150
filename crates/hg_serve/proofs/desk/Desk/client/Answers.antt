use Rattle.std.proofs.Common.{◌≡◌, ◌∙◌}
use Rattle.hg_serve.specs.Desks.{desk_view, rows_of}
use Rattle.hg_serve.proofs.desk.Desk.client.Goals as goal

pub returns-clause-same : goal.returns-clause-same
returns-clause-same g c =
    let taken = c.visitor.ensures.taker in
    let here = c.self.inside in
    let same : desk_view here.book c.visitor.new.taker here.kept ≡ desk_view here.book here.taker here.kept =
    λ i. record {
      history = taken.2 i;
      taker = taken.1 i;
      rows = rows_of here.book;
      next = here.book.next;
      limit = here.book.limit;
      kept = here.kept;
    } in
    same ∙ c.self.view_is
