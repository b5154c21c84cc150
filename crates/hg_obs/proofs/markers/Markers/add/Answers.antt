use Rattle.std.proofs.Common.{sym, ap, ◌∙◌, ◌≡◌, ◌++◌, ◌∷◌, [], rules, false, cond, Bool, List, subst}
use Rattle.hg_obs.specs.declared.marker.Marker.{Marker}
use Rattle.hg_obs.specs.Markers.{is_in}
use Rattle.hg_obs.specs.code.Later.{AreKept}
use Rattle.hg_obs.proofs.LaterLemmas.{first_added, first_unnoted, first_none, is_new}
use Rattle.hg_obs.proofs.markers.Markers.add.Goals as goal

pub returns-in_err-first-clause-needed : goal.returns-in_err-first-clause-needed
returns-in_err-first-clause-needed g c =
    let new : is_in c.self.inside.list.items c.args.marker ≡ false =
    is_new c.self.inside.state c.self.inside.list.items c.self.inside.firsts.entries
    c.self.inside.others.entries c.self.invariant c.args.marker c.len-place.result
    (c.len-place.ensures ∙ c.self.inside.list.ok.0)
    c.in_err-first.ensures.needed in
    rw (← c.self.view_is) (search (rules, new))

pub invariant_of-self-in-Err : goal.invariant_of-self-in-Err
invariant_of-self-in-Err g c =
    subst (λ (l : List (Marker g.row.A.Denot)). AreKept c.self.inside.state l c.forget.new.places.entries
    c.self.inside.others.entries) (sym c.in-Err.ensures.items)
    (first_unnoted c.self.inside.state c.self.inside.list.items c.self.inside.firsts.entries
    c.self.inside.others.entries c.self.invariant c.args.marker c.len-place.result
    (c.len-place.ensures ∙ c.self.inside.list.ok.0)
    c.note.new.places.entries c.forget.new.places.entries c.in_ok-first.ensures.found c.forget.ensures)

pub returns-in-Err-clause-needed : goal.returns-in-Err-clause-needed
returns-in-Err-clause-needed g c =
    let new : is_in c.self.inside.list.items c.args.marker ≡ false =
    is_new c.self.inside.state c.self.inside.list.items c.self.inside.firsts.entries
    c.self.inside.others.entries c.self.invariant c.args.marker c.len-place.result
    (c.len-place.ensures ∙ c.self.inside.list.ok.0)
    (first_none c.self.inside.state c.self.inside.list.items c.self.inside.firsts.entries
    c.self.inside.others.entries c.self.invariant c.args.marker c.len-place.result
    (c.len-place.ensures ∙ c.self.inside.list.ok.0)
    c.in_ok-first.first c.in_ok-first.ensures.place c.if-first-place.false) in
    rw (← c.self.view_is) new

pub invariant_of-self-in_default : goal.invariant_of-self-in_default
invariant_of-self-in_default g c = first_added c.self.inside.state c.self.inside.list.items
    c.self.inside.firsts.entries
    c.self.inside.others.entries c.self.invariant c.args.marker c.len-place.result
    (c.len-place.ensures ∙ c.self.inside.list.ok.0)
    c.note.new.places.entries c.push.new.self.items c.in_ok-first.ensures.found c.in_default.ensures.items
    (first_none c.self.inside.state c.self.inside.list.items c.self.inside.firsts.entries
    c.self.inside.others.entries c.self.invariant c.args.marker c.len-place.result
    (c.len-place.ensures ∙ c.self.inside.list.ok.0)
    c.in_ok-first.first c.in_ok-first.ensures.place c.if-first-place.false)

pub returns-clause-ok : goal.returns-clause-ok
returns-clause-ok g c =
    let new : is_in c.self.inside.list.items c.args.marker ≡ false =
    is_new c.self.inside.state c.self.inside.list.items c.self.inside.firsts.entries
    c.self.inside.others.entries c.self.invariant c.args.marker c.len-place.result
    (c.len-place.ensures ∙ c.self.inside.list.ok.0)
    (first_none c.self.inside.state c.self.inside.list.items c.self.inside.firsts.entries
    c.self.inside.others.entries c.self.invariant c.args.marker c.len-place.result
    (c.len-place.ensures ∙ c.self.inside.list.ok.0)
    c.in_ok-first.first c.in_ok-first.ensures.place c.if-first-place.false) in
    rw (← c.self.view_is) (c.in_default.ensures.items
    ∙ sym (ap (λ (b : Bool). cond b c.self.inside.list.items (c.self.inside.list.items
    ++ c.args.marker ∷ [])) new))
