use Rattle.std.proofs.Common.{arith}
use Rattle.std.specs.Prelude.{All}
use Rattle.std.proofs.lemmas.List.Elements.{All-weaker}
use Rattle.hg_commit.specs.Clients.{KeptSeen}
use Rattle.hg_commit.specs.Lives.{IsKeptSince}
use Rattle.hg_commit.specs.Promises.{Promise}
use Rattle.hg_durable.specs.Closing.{IsLeft}
use Rattle.hg_theorems.specs.Recovering.{FindsAgain}
use Rattle.hg_theorems.proofs.Both.{all_both}
use Rattle.hg_theorems.proofs.Seen.{among}
use Rattle.hg_theorems.proofs.recovery.what_was_answered_is_recovered.Goals as goal

pub returns : goal.returns
returns g c = λ publishing head stored first opened clients whole kept device begun closed.
    let moment = g.D.Device.moment in
    let left_since = g.D.Device.left_since in
    let may_leave = g.D.Device.may_leave in
    let h = closed.witness in
    let j = c.journals_grow.ensures in
    let IsKept : Promise → Type 0 = IsKeptSince moment left_since head stored first h kept device in
    record {
      h = h;
      begins = closed.begins;
      now = λ file left. c.fronts_are_recovered.ensures publishing head stored first h kept file begun
          (closed.life.now file left);
      each = all_both (IsLeft moment left_since may_leave head stored first whole closed.order device)
          (λ (k : KeptSeen g.row.A.Denot). All IsKept k.receipt.promises)
          (λ (k : KeptSeen g.row.A.Denot). All (FindsAgain left_since publishing head stored first h device k)
          k.receipt.promises)
          (λ k mine each. All-weaker IsKept (FindsAgain left_since publishing head stored first h device k)
          (λ promise is. record {
            opened = λ file left. c.fronts_are_recovered.ensures publishing head stored first h promise.count file begun
                (is.left file left);
            among = λ p place at low file left.
                let found = c.fronts_are_recovered.ensures publishing head stored first h promise.count file begun
                (is.left file left) in
                among j.journal j.parts j.places c.done_pushes_have_a_place.ensures.no_other
                c.closed_pushes_have_ended.ensures first k.history h whole _ p place mine.begins closed.begins
                found.after.done (omega (arith, low, found.enough)) at;
          }) k.receipt.promises each) clients closed.each closed.kept_since;
    }
