use Rattle.std.proofs.Common.{◌+◌, refl}
use Rattle.hg_store.proofs.ByPiece.{cut_in_second}
use Rattle.hg_store.proofs.pieces.fields_behind.Goals as goal

pub returns-clause-none : goal.returns-clause-none
returns-clause-none g c = λ stop is.
    let numbers = c.args.numbers in
    let cut = c.refill_whole-2.ensures.none stop is in (
      cut.0,
      cut_in_second (numbers.named + 20) numbers.size (numbers.named + 20 + numbers.size)
          c.refill_whole.new.bytes.items (g.R.Read.remaining c.args.reader.now)
          (g.R.Read.remaining c.refill_whole.new.reader) (g.R.Read.remaining c.refill_whole-2.new.reader) refl
          c.in-Ok.ensures.size c.in-Ok.ensures.gone cut.1,
    )
