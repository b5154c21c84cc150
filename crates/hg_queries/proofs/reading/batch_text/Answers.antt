use Rattle.hg_queries.specs.Copied.{IsJoinedOf}
use Rattle.hg_queries.proofs.Copied.{batch_told, if_ok}
use Rattle.hg_queries.proofs.reading.batch_text.Goals as goal

pub returns : goal.returns
returns g c repo commands is each =
    let view = c.args.view.now in
    let pieces = c.args.pieces.now in
    if_ok c.joined_pieces.result (IsJoinedOf view pieces) _ (λ text so.
    batch_told repo view commands pieces text is each so) c.joined_pieces.ensures
