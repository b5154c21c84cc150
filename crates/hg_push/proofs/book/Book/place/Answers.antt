use Rattle.std.proofs.Common.{sym, subst}
use Rattle.hg_push.specs.Run.{run_push}
use Rattle.hg_push.specs.Book.{HoldsHistory}
use Rattle.hg_push.proofs.Placing.{tells_place}
use Rattle.hg_push.proofs.book.Book.place.Goals as goal

pub returns : goal.returns
returns g c = λ first h holds.
    tells_place run_push first h _ c.args.push (subst (λ b. HoldsHistory run_push first h b) (sym c.self.view_is) holds)
    c.place_of_push.result
    (rw c.as_slice.ensures.value at c.place_of_push.ensures.none)
    (rw c.as_slice.ensures.value at c.place_of_push.ensures.some)
