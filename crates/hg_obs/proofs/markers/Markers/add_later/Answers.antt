use Rattle.std.proofs.Common.{sym, ap, ◌∙◌, ◌≡◌, ◌<◌, ◌+◌, ◌++◌, ◌∷◌, [], rules, arith, true, false, cond}
use Rattle.std.proofs.Common.{Bool, Some, List, length, subst, unwrap_or}
use Rattle.std.specs.Map.{lookup}
use Rattle.hg_types.specs.declared.node.Node.{Node}
use Rattle.hg_obs.specs.declared.marker.Marker.{Marker}
use Rattle.hg_obs.specs.Markers.{is_in}
use Rattle.hg_obs.specs.code.Places.{place_from, without}
use Rattle.hg_obs.specs.Same.{is_same, same_node}
use Rattle.hg_obs.specs.code.Later.{AreKept}
use Rattle.hg_obs.proofs.PlaceLemmas.{place_below}
use Rattle.hg_obs.proofs.LaterLemmas.{Notes, later_added, later_unnoted, later_stays, later_none}
use Rattle.hg_obs.proofs.LaterLemmas.{is_later_new, stands}
use Rattle.hg_obs.proofs.markers.Markers.add_later.Goals as goal
use Rattle.hg_obs.proofs.markers.Markers.add_later.Goals.{else-other-place-via-then-other-place+else-is_among}
use Rattle.hg_obs.proofs.markers.Markers.add_later.Goals.{else-other-place-via-else-other-place}

pub index-requires : goal.index-requires
index-requires g c =
    let below : c.args.first < 0 + length c.self.inside.list.items =
    place_below 0 c.args.marker.predecessor c.self.inside.list.items c.args.first
    (subst (λ (l : List (Marker g.row.A.Denot)). place_from 0 c.args.marker.predecessor l ≡ Some
    c.args.first)
    (sym c.self.view_is) c.requires) in
    omega (arith, below, c.self.inside.list.ok.0)

pub returns-then-eq-clause-ok : goal.returns-then-eq-clause-ok
returns-then-eq-clause-ok g c =
    let below : c.args.first < 0 + length c.self.inside.list.items =
    place_below 0 c.args.marker.predecessor c.self.inside.list.items c.args.first
    (subst (λ (l : List (Marker g.row.A.Denot)). place_from 0 c.args.marker.predecessor l ≡ Some
    c.args.first)
    (sym c.self.view_is) c.requires) in
    let there : is_in c.self.inside.list.items c.args.marker ≡ true =
    stands c.self.inside.list.items c.args.first c.index.result.now c.args.marker (omega (arith, below))
    (ap (λ (m : Marker g.row.A.Denot). is_same m c.args.marker) (sym c.index.ensures) ∙ sym c.eq.ensures
    ∙ c.if-eq.true) in
    rw (← c.self.view_is) (sym (ap (λ (b : Bool). cond b c.self.inside.list.items (c.self.inside.list.items
    ++ c.args.marker ∷ [])) there))

pub returns-in_err-other-clause-needed : goal.returns-in_err-other-clause-needed
returns-in_err-other-clause-needed g c =
    let new : is_in c.self.inside.list.items c.args.marker ≡ false =
    is_later_new c.self.inside.state c.self.inside.list.items c.self.inside.firsts.entries
    c.self.inside.others.entries c.self.invariant c.args.marker c.len-place.result
    (c.len-place.ensures ∙ c.self.inside.list.ok.0)
    c.index.result.now c.args.first (subst (λ (l : List (Marker g.row.A.Denot)). place_from 0
    c.args.marker.predecessor l ≡ Some c.args.first)
    (sym c.self.view_is) c.requires) (ap (λ (m : Marker g.row.A.Denot). is_same m c.args.marker) (sym
    c.index.ensures) ∙ sym c.eq.ensures
    ∙ c.if-eq.false)
    (ap (λ (id : Node). lookup (same_node id) c.self.inside.others.entries) (sym c.seal_of-seal.ensures)
    ∙ c.in_err-other.ensures.needed) in
    rw (← c.self.view_is) (search (rules, new))

pub invariant_of-self-then-is_among : goal.invariant_of-self-then-is_among
invariant_of-self-then-is_among g c = later_stays c.self.inside.state c.self.inside.list.items
    c.self.inside.firsts.entries
    c.self.inside.others.entries c.self.invariant c.args.marker c.len-place.result
    (c.len-place.ensures ∙ c.self.inside.list.ok.0)
    c.note.new.places.entries c.in_ok-other.other (subst (λ (id : Node). Notes c.self.inside.others.entries
    c.note.new.places.entries id c.len-place.result)
    c.seal_of-seal.ensures c.in_ok-other.ensures.found) (c.in_ok-other.ensures.place ∙ ap (λ (id : Node).
    unwrap_or (lookup (same_node id)
    c.self.inside.others.entries) c.len-place.result) c.seal_of-seal.ensures) c.if-other-place.true

pub invariant_of-self-in-Err : goal.invariant_of-self-in-Err
invariant_of-self-in-Err g c =
    subst (λ (l : List (Marker g.row.A.Denot)). AreKept c.self.inside.state l c.self.inside.firsts.entries
    c.forget.new.places.entries) (sym c.in-Err.ensures.items)
    (later_unnoted c.self.inside.state c.self.inside.list.items c.self.inside.firsts.entries
    c.self.inside.others.entries c.self.invariant c.args.marker c.len-place.result
    (c.len-place.ensures ∙ c.self.inside.list.ok.0)
    c.note.new.places.entries c.forget.new.places.entries (subst (λ (id : Node). Notes
    c.self.inside.others.entries c.note.new.places.entries id c.len-place.result)
    c.seal_of-seal.ensures c.in_ok-other.ensures.found)
    (λ node. c.forget.ensures node ∙ ap (λ (id : Node). without (same_node node id) c.len-place.result
    (lookup (same_node node) c.note.new.places.entries)) c.seal_of-seal.ensures))

pub returns-in-Err-clause-needed : goal.returns-in-Err-clause-needed
returns-in-Err-clause-needed g c =
    let new : is_in c.self.inside.list.items c.args.marker ≡ false =
    elim c.else-other-place.branch [
      | else-other-place-via-then-other-place+else-is_among w ↦
          sym (ap (λ (l : List (Marker g.row.A.Denot)). is_in l c.args.marker) w.as_slice.ensures.value)
          ∙ sym w.is_among.ensures ∙ w.if-is_among.false
      | else-other-place-via-else-other-place w ↦
          is_later_new c.self.inside.state c.self.inside.list.items c.self.inside.firsts.entries
          c.self.inside.others.entries c.self.invariant c.args.marker c.len-place.result
          (c.len-place.ensures ∙ c.self.inside.list.ok.0)
          c.index.result.now c.args.first (subst (λ (l : List (Marker g.row.A.Denot)). place_from 0
          c.args.marker.predecessor l ≡ Some c.args.first)
          (sym c.self.view_is) c.requires) (ap (λ (m : Marker g.row.A.Denot). is_same m c.args.marker) (sym
          c.index.ensures) ∙ sym c.eq.ensures
          ∙ c.if-eq.false)
          (later_none c.self.inside.state c.self.inside.list.items c.self.inside.firsts.entries
          c.self.inside.others.entries c.self.invariant c.args.marker c.len-place.result
          (c.len-place.ensures ∙ c.self.inside.list.ok.0)
          c.in_ok-other.other (c.in_ok-other.ensures.place ∙ ap (λ (id : Node). unwrap_or (lookup
          (same_node id)
          c.self.inside.others.entries) c.len-place.result) c.seal_of-seal.ensures) w.if-other-place.false)
    ] in
    rw (← c.self.view_is) new

pub invariant_of-self-in_default : goal.invariant_of-self-in_default
invariant_of-self-in_default g c =
    let new : is_in c.self.inside.list.items c.args.marker ≡ false =
    elim c.else-other-place.branch [
      | else-other-place-via-then-other-place+else-is_among w ↦
          sym (ap (λ (l : List (Marker g.row.A.Denot)). is_in l c.args.marker) w.as_slice.ensures.value)
          ∙ sym w.is_among.ensures ∙ w.if-is_among.false
      | else-other-place-via-else-other-place w ↦
          is_later_new c.self.inside.state c.self.inside.list.items c.self.inside.firsts.entries
          c.self.inside.others.entries c.self.invariant c.args.marker c.len-place.result
          (c.len-place.ensures ∙ c.self.inside.list.ok.0)
          c.index.result.now c.args.first (subst (λ (l : List (Marker g.row.A.Denot)). place_from 0
          c.args.marker.predecessor l ≡ Some c.args.first)
          (sym c.self.view_is) c.requires) (ap (λ (m : Marker g.row.A.Denot). is_same m c.args.marker) (sym
          c.index.ensures) ∙ sym c.eq.ensures
          ∙ c.if-eq.false)
          (later_none c.self.inside.state c.self.inside.list.items c.self.inside.firsts.entries
          c.self.inside.others.entries c.self.invariant c.args.marker c.len-place.result
          (c.len-place.ensures ∙ c.self.inside.list.ok.0)
          c.in_ok-other.other (c.in_ok-other.ensures.place ∙ ap (λ (id : Node). unwrap_or (lookup
          (same_node id)
          c.self.inside.others.entries) c.len-place.result) c.seal_of-seal.ensures) w.if-other-place.false)
    ] in
    later_added c.self.inside.state c.self.inside.list.items c.self.inside.firsts.entries
    c.self.inside.others.entries c.self.invariant c.args.marker c.len-place.result
    (c.len-place.ensures ∙ c.self.inside.list.ok.0)
    c.note.new.places.entries c.push.new.self.items c.args.first (subst (λ (id : Node). Notes
    c.self.inside.others.entries c.note.new.places.entries id c.len-place.result)
    c.seal_of-seal.ensures c.in_ok-other.ensures.found)
    c.in_default.ensures.items (subst (λ (l : List (Marker g.row.A.Denot)). place_from 0
    c.args.marker.predecessor l ≡ Some c.args.first)
    (sym c.self.view_is) c.requires) new

pub returns-clause-ok : goal.returns-clause-ok
returns-clause-ok g c =
    let new : is_in c.self.inside.list.items c.args.marker ≡ false =
    elim c.else-other-place.branch [
      | else-other-place-via-then-other-place+else-is_among w ↦
          sym (ap (λ (l : List (Marker g.row.A.Denot)). is_in l c.args.marker) w.as_slice.ensures.value)
          ∙ sym w.is_among.ensures ∙ w.if-is_among.false
      | else-other-place-via-else-other-place w ↦
          is_later_new c.self.inside.state c.self.inside.list.items c.self.inside.firsts.entries
          c.self.inside.others.entries c.self.invariant c.args.marker c.len-place.result
          (c.len-place.ensures ∙ c.self.inside.list.ok.0)
          c.index.result.now c.args.first (subst (λ (l : List (Marker g.row.A.Denot)). place_from 0
          c.args.marker.predecessor l ≡ Some c.args.first)
          (sym c.self.view_is) c.requires) (ap (λ (m : Marker g.row.A.Denot). is_same m c.args.marker) (sym
          c.index.ensures) ∙ sym c.eq.ensures
          ∙ c.if-eq.false)
          (later_none c.self.inside.state c.self.inside.list.items c.self.inside.firsts.entries
          c.self.inside.others.entries c.self.invariant c.args.marker c.len-place.result
          (c.len-place.ensures ∙ c.self.inside.list.ok.0)
          c.in_ok-other.other (c.in_ok-other.ensures.place ∙ ap (λ (id : Node). unwrap_or (lookup
          (same_node id)
          c.self.inside.others.entries) c.len-place.result) c.seal_of-seal.ensures) w.if-other-place.false)
    ] in
    rw (← c.self.view_is) (c.in_default.ensures.items
    ∙ sym (ap (λ (b : Bool). cond b c.self.inside.list.items (c.self.inside.list.items
    ++ c.args.marker ∷ [])) new))
