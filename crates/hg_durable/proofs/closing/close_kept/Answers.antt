use Rattle.std.proofs.Common.{List}
use Rattle.std.specs.Prelude.{All}
use Rattle.std.specs.List.{Contains}
use Rattle.std.proofs.lemmas.List.Elements.{All-contains, All-weaker}
use mathlib.Core.List.{IsPrefix}
use Rattle.hg_parts.specs.declared.item.Taken.{Taken}
use Rattle.hg_queue.specs.Words.{history}
use Rattle.hg_commit.specs.Clients.{KeptSeen}
use Rattle.hg_commit.specs.Lives.{IsKeptSince}
use Rattle.hg_commit.specs.Orders.{Event}
use Rattle.hg_commit.specs.Promises.{Promise}
use Rattle.hg_durable.specs.Closing.{IsLeft}
use Rattle.hg_durable.proofs.Ends.{has_beyond, has_last, has_still, is_left}
use Rattle.hg_durable.proofs.closing.close_kept.Goals as goal

pub returns-clause-left : goal.returns-clause-left
returns-clause-left g c =
    let first = g.J.Naming.first in
    let parts = c.into_parts-log.result in
    let life = c.into_parts-log.ensures.life in
    let witness = parts.witnesses.0 in
    let whole = history c.close-closed.result.taker in
    let device = parts.log.device in
    let seen = c.compare_each.new.seen.items in
    let Begins : List (Taken g.row.A.Denot) → Type 0 = λ h. IsPrefix h whole in
    let early = c.close-closed.ensures.earlier in
    let there : Contains seen witness = has_beyond c.put-2.new.clients.items seen witness c.compare_each.ensures.keeps
    (has_still c.put.new.clients.items c.put-2.new.clients.items witness parts.witnesses.1 c.put-2.ensures
    (has_last c.new-seen.result.items c.put.new.clients.items witness c.put.ensures)) in
    let theirs : IsPrefix witness whole = All-contains Begins seen witness early there in
    let moment = g.D.Device.moment in
    let left_since = g.D.Device.left_since in
    let may_leave = g.D.Device.may_leave in
    let head = g.J.Storing.head in
    let stored = g.J.Storing.stored in
    let promises : List Promise = parts.tally.promises in
    let order : List Event = c.compare_each.new.tally.order in
    let IsKept : Promise → Type 0 = IsKeptSince moment left_since head stored first witness parts.kept device in
    record {
      order = order;
      each = All-weaker (λ (k : KeptSeen g.row.A.Denot). All (Contains promises) k.receipt.promises
          × IsPrefix k.receipt.order order × Contains seen k.history)
          (IsLeft moment left_since may_leave head stored first whole order device)
          (λ k w.
          let mine : IsPrefix k.history whole = All-contains Begins seen k.history early w.2 in
          is_left moment left_since may_leave head stored first whole witness order parts.kept device k promises
          (λ p kept. c.what_is_promised_is_left.ensures head stored first k.history witness whole parts.kept device p
          mine theirs kept) mine w.1 c.into_parts-log.ensures.promises w.0) c.args.clients.items
          c.compare_each.ensures.each;
      witness = witness;
      begins = theirs;
      life = life;
      kept_since = All-weaker (λ (k : KeptSeen g.row.A.Denot). All (Contains promises) k.receipt.promises
          × IsPrefix k.receipt.order order × Contains seen k.history)
          (λ (k : KeptSeen g.row.A.Denot). All IsKept k.receipt.promises)
          (λ k w. All-weaker (Contains promises) IsKept
          (λ p there. All-contains IsKept promises p c.into_parts-log.ensures.promises there) k.receipt.promises w.0)
          c.args.clients.items c.compare_each.ensures.each;
    }
