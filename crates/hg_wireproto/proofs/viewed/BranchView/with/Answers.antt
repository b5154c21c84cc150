use Rattle.std.proofs.Common.{◌∙◌, ◌≤◌, ap, arith, length, take, sym, subst, Bool, List}
use Rattle.hg_log.specs.Rows.{AreLawful}
use Rattle.hg_wireproto.specs.Viewed.{IsBefore, Viewed}
use Rattle.hg_wireproto.specs.code.Covered.{AreCovered, AreCoveredTo}
use Rattle.hg_wireproto.specs.code.HeadIds.{AreHeadIds}
use Rattle.hg_wireproto.specs.code.Ids.{AreIds}
use Rattle.hg_wireproto.specs.code.Settled.{AreHeadsAmong, AreSettled}
use Rattle.hg_wireproto.proofs.Coming.{obsolete_gone, obsolete_grows}
use Rattle.hg_wireproto.proofs.Settling.{covered_settled, front_long}
use Rattle.hg_wireproto.proofs.HeadIds.{front_heads, front_is, front_within}
use Rattle.hg_wireproto.proofs.viewed.BranchView.with.Goals as goal
use Rattle.hg_wireproto.proofs.viewed.BranchView.with.Goals.{then-shows_none+in_ok-covered, else-shows_none+in_ok-covered-2}

pub heads_among-requires : goal.heads_among-requires
heads_among-requires g c =
    let came = c.args.came in
    let covered = c.self.inside.covered.items in
    let size = front_long came.rows c.self.inside.copied.rows came.first c.gone.ensures.first
    (ap (λ (v : Viewed g.row.A.Denot). v.rows) c.self.view_is ∙ c.requires.rows) in
    λ k d low.
    let within = c.gone.ensures.listed.within k d low in
    omega (arith, within, size, c.self.invariant.0.as_long, ap length c.as_slice.ensures.value)

pub covered_with-requires-clause-gone : goal.covered_with-requires-clause-gone
covered_with-requires-clause-gone g c =
    let among = subst (λ (bs : List Bool). AreHeadsAmong bs c.gone.result.now c.in_ok-heads_gone.heads_gone.items)
    c.as_slice.ensures.value c.in_ok-heads_gone.ensures in
    among.within

pub covered_with-requires-clause-told : goal.covered_with-requires-clause-told
covered_with-requires-clause-told g c =
    let came = c.args.came in
    let old = c.self.inside.copied in
    let covered = c.self.inside.covered.items in
    let gone = c.gone.result.now in
    let heads = c.in_ok-heads_gone.heads_gone.items in
    let few_is = ap (λ (v : Viewed g.row.A.Denot). v.rows) c.self.view_is ∙ c.requires.rows in
    let size = front_long came.rows old.rows came.first c.gone.ensures.first few_is in
    let before = subst (λ v. IsBefore v came) (sym c.self.view_is) c.requires in
    let lawful : AreLawful came.rows =
    subst (λ (v : Viewed g.row.A.Denot). AreLawful v.rows) c.in_ok-copied.ensures c.len.ensures.lawful in
    subst (λ (v : Viewed g.row.A.Denot). (settled : List Bool)
    → AreSettled v.rows v.markers v.phases (length covered) heads covered settled
    → AreCoveredTo v.rows v.markers v.phases (length covered) settled) (sym c.in_ok-copied.ensures)
    (λ settled is. covered_settled came.rows old.rows came.markers old.markers came.phases old.phases came.first covered
    settled c.kept.result.now gone heads lawful c.len-first.ensures.lawful c.gone.ensures.first few_is
    (λ r low. c.kept.ensures.each r (omega (arith, low, size)))
    (obsolete_grows old came before c.gone.ensures.known (c.shows_none-shows_none.ensures c.if-shows_none.true))
    (obsolete_gone old came gone before c.gone.ensures.listed)
    (subst (λ (bs : List Bool). AreHeadsAmong bs gone heads) c.as_slice.ensures.value c.in_ok-heads_gone.ensures)
    c.self.invariant.0 is)

pub bring_up-requires-clause-within : goal.bring_up-requires-clause-within
bring_up-requires-clause-within g c =
    let came = c.args.came in
    subst (λ (v : Viewed g.row.A.Denot). c.len-first.result ≤ length v.rows) (sym c.in_ok-copied.ensures)
    (front_within came.rows c.self.inside.copied.rows came.first c.len-first.result
    c.gone.ensures.first (ap (λ (v : Viewed g.row.A.Denot). v.rows) c.self.view_is ∙ c.requires.rows)
    c.len-first.ensures.len)

pub bring_up-requires-clause-told : goal.bring_up-requires-clause-told
bring_up-requires-clause-told g c =
    let came = c.args.came in
    subst (λ (v : Viewed g.row.A.Denot). AreHeadIds (take c.len-first.result v.rows) c.self.inside.heads.keys)
    (sym c.in_ok-copied.ensures)
    (front_heads came.rows c.self.inside.copied.rows came.first c.len-first.result
    c.gone.ensures.first (ap (λ (v : Viewed g.row.A.Denot). v.rows) c.self.view_is ∙ c.requires.rows)
    c.len-first.ensures.len c.self.inside.heads.keys c.self.invariant.1)

pub add_ids-requires-clause-within : goal.add_ids-requires-clause-within
add_ids-requires-clause-within g c =
    let came = c.args.came in
    subst (λ (v : Viewed g.row.A.Denot). c.len-first.result ≤ length v.rows) (sym c.in_ok-copied.ensures)
    (front_within came.rows c.self.inside.copied.rows came.first c.len-first.result
    c.gone.ensures.first (ap (λ (v : Viewed g.row.A.Denot). v.rows) c.self.view_is ∙ c.requires.rows)
    c.len-first.ensures.len)

pub add_ids-requires-clause-told : goal.add_ids-requires-clause-told
add_ids-requires-clause-told g c =
    let came = c.args.came in
    subst (λ (v : Viewed g.row.A.Denot). AreIds (take c.len-first.result v.rows) c.self.inside.ids.keys)
    (sym c.in_ok-copied.ensures)
    (subst (λ rs. AreIds rs c.self.inside.ids.keys)
    (front_is came.rows c.self.inside.copied.rows came.first c.len-first.result
    c.gone.ensures.first (ap (λ (v : Viewed g.row.A.Denot). v.rows) c.self.view_is ∙ c.requires.rows)
    c.len-first.ensures.len) c.self.invariant.2)

pub invariant_of-result : goal.invariant_of-result
invariant_of-result g c =
    let copied = c.in_ok-copied.copied in (
      elim c.if-shows_none.branch [
        | then-shows_none+in_ok-covered w ↦
            subst (λ v. AreCovered copied.rows copied.markers copied.phases v.items) (sym w.covered2-is)
            w.in_ok-covered.ensures
        | else-shows_none+in_ok-covered-2 w ↦
            subst (λ v. AreCovered copied.rows copied.markers copied.phases v.items) (sym w.covered2-is)
            w.in_ok-covered-2.ensures
      ],
      c.in_ok-bring_up.ensures,
      c.in_ok-add_ids.ensures,
    )
