use Rattle.std.proofs.Common.{◌≡◌, ◌<◌, ◌+◌, arith, ap, sym, subst, get_or, length, List, Vec, ℕ, ◌∙◌}
use Rattle.hg_obs.specs.declared.marker.Marker.{Marker}
use Rattle.hg_wireproto.proofs.Coming.{listed_all, listed_none, listed_one, AreListedTo}
use Rattle.hg_wireproto.proofs.since.obsolete_since.Goals as goal
use Rattle.hg_wireproto.proofs.since.obsolete_since.Goals.{in-Some+in_ok-push, in_default}

pub loop-place-preserved : goal.loop-place-preserved
loop-place-preserved g c =
    let rows = c.args.log.now.rows in
    let markers = c.args.markers.now in
    let phases = c.args.phases.now.current.phases in
    let n = c.loop-place.place in
    let marker = c.index-list-place.result in
    let old = c.loop-place.revs.items in
    let listed = c.list-list.ensures.value in
    let within : n < length markers = omega (arith, c.loop-place-test.true, ap length listed) in
    let read : marker ≡ get_or markers n marker =
    c.index-list-place.is ∙ ap (λ (ms : List (Marker g.row.A.Denot)). get_or ms n marker) listed in (
      omega (arith, c.loop-place.invariant.0),
      omega (arith, c.loop-place-test.true),
      elim c.match-before.branch [
        | in-Some+in_ok-push w ↦ listed_one rows markers phases c.args.first c.args.known n w.in-Some.rev marker
            c.before-in-loop-place.result old _ within read w.in-Some.is w.in-Some.ensures.within
            w.in-Some.ensures.named w.in-Some.ensures.not_public c.before-in-loop-place.ensures.found
            (ap (λ (v : Vec ℕ g.row.A.Denot). v.items) w.revs-is ∙ w.in_ok-push.ensures.items)
            c.loop-place.invariant.2
        | in_default w ↦ subst (λ (v : Vec ℕ g.row.A.Denot).
            AreListedTo rows markers phases c.args.first c.args.known (n + 1) v.items) (sym w.revs-is)
            (listed_none rows markers phases c.args.first c.args.known n marker c.before-in-loop-place.result old
            within read
            w.in_default.is c.before-in-loop-place.ensures.found c.loop-place.invariant.2)
      ],
    )

pub returns : goal.returns
returns g c =
    listed_all c.args.log.now.rows c.args.markers.now c.args.phases.now.current.phases c.args.first c.args.known
    c.loop-place.place
    c.loop-place.revs.items
    (omega (arith, c.loop-place-test.false, ap length c.list-list.ensures.value)) c.loop-place.invariant.2
