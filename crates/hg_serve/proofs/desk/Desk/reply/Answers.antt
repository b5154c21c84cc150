use Rattle.std.proofs.Common.{◌≡◌, true, true≢false, ap, sym, subst, ◌∙◌}
use Rattle.std.specs.Prelude.{IsSome}
use Rattle.hg_queue.specs.History.{has}
use Rattle.hg_queue.specs.Words.{taker_view, history}
use Rattle.hg_serve.specs.Desks.{DeskView, rows_of}
use Rattle.hg_serve.specs.Histories.{newest_first, ending}
use Rattle.hg_serve.proofs.Orders.{replies, replied, find_row}
use Rattle.hg_serve.proofs.Waits.{some_of}
use Rattle.hg_serve.proofs.desk.Desk.reply.Goals as goal

pub invariant_of-self : goal.invariant_of-self
invariant_of-self g c =
    let o = c.self.invariant in
    let e = c.take_reply.ensures in
    let t = taker_view c.self.inside.taker in
    let joined' : has c.args.push t.joined ≡ true =
    ap (λ (d : DeskView g.row.A.Denot). has c.args.push d.taker.joined) c.self.view_is
    ∙ c.requires.joined in
    let noted' : has c.args.push t.noted ≡ true =
    ap (λ (d : DeskView g.row.A.Denot). has c.args.push d.taker.noted) c.self.view_is
    ∙ c.requires.noted in
    replied _ _ _ c.args.push c.self.inside.book c.take_reply.new.self c.self.inside.taker c.self.inside.kept
    (replies c.args.push c.self.inside.book c.take_reply.new.self c.take_reply.result e.none e.some)
    (e.holds _ (newest_first (history c.self.inside.taker)) o.held) joined' noted' o

pub unreachable-requires : goal.unreachable-requires
unreachable-requires g c =
    let o = c.self.invariant in
    let e = c.take_reply.ensures in
    let row' : has c.args.push (rows_of c.self.inside.book) ≡ true =
    ap (λ (d : DeskView g.row.A.Denot). has c.args.push d.rows) c.self.view_is ∙ c.requires.row in
    let closed : IsSome (ending g.J.Naming.first c.args.push c.args.self.now.history) =
    some_of _ c.requires.closed in
    let is = e.answer g.J.Naming.first (newest_first (history c.self.inside.taker)) o.held
    (find_row c.args.push c.self.inside.book.rows row') in
    let here = ap (λ (d : DeskView g.row.A.Denot). ending g.J.Naming.first c.args.push d.history)
    c.self.view_is in
    let none = sym here ∙ (sym is ∙ c.in-None.is) in
    true≢false (sym (subst (λ x. IsSome x) none closed))
