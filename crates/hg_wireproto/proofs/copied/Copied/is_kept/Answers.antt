use Rattle.std.proofs.Common.{◌≡◌, ◌<◌, ◌∙◌, ℕ, ap, get_or, length, List, sym, subst}
use Rattle.std.specs.Int.{bit_at}
use Rattle.hg_wireproto.specs.Hidden.{IsObsolete}
use Rattle.hg_wireproto.specs.Viewed.{Viewed}
use Rattle.hg_wireproto.proofs.Gathering.{some_within}
use Rattle.hg_wireproto.proofs.copied.Copied.is_kept.Goals as goal

pub returns-in-Some : goal.returns-in-Some
returns-in-Some g c is r same obsolete =
    let kept = c.self.inside.kept in
    let rev = c.in-Some.rev in
    let here : rev ≡ r = let e = sym c.in-Some.is ∙ same in cc in
    let within = some_within c.args.rev r (length c.args.self.now.rows) same c.requires in
    subst (λ (v : Viewed g.row.A.Denot). r < length v.rows → IsObsolete v.rows v.markers v.phases r → ⊥)
    c.self.view_is
    (λ low by_all.
    let read : get_or c.sets.result.now rev 0 ≡ get_or kept r 0 =
    ap (λ (l : List ℕ). get_or l rev 0) c.sets.ensures ∙ ap (λ k. get_or kept k 0) here in
    (c.self.invariant.0.are_kept r low).kept (ap (λ (s : ℕ). bit_at s 0) (sym read) ∙ c.is_kept.ensures.0 is) by_all)
    within obsolete
