use Rattle.std.proofs.Common.{sym, ap, ◌∙◌, Ok}
use Rattle.hg_obs.specs.declared.marker.Marker.{Marker}
use Rattle.hg_obs.specs.code.Lent.{fields_of_lent}
use Rattle.hg_obs.proofs.MarkerLaws.{marker_is, any_null}
use Rattle.hg_obs.proofs.read.marker_of.Goals as goal

pub returns-then-contains : goal.returns-then-contains
returns-then-contains g c =
    let null = sym (any_null c.in_ok-lent.lent.successors.now) ∙ sym c.contains.ensures.value
    ∙ c.if-contains.true in
    marker_is c.args.bytes.now (fields_of_lent c.in_ok-lent.lent) c.in_ok-lent.rest.now _ _
    c.in_ok-lent.ensures (sym c.is_metadata.ensures ∙ c.if-not-is_metadata.false) null

pub returns : goal.returns
returns g c =
    let null = sym (any_null c.in_ok-lent.lent.successors.now) ∙ sym c.contains.ensures.value
    ∙ c.if-contains.false in
    marker_is c.args.bytes.now (fields_of_lent c.in_ok-lent.lent) c.in_ok-lent.rest.now _ _
    c.in_ok-lent.ensures (sym c.is_metadata.ensures ∙ c.if-not-is_metadata.false) null
    ∙ ap (λ (m : Marker g.row.A.Denot). Ok (m, c.in_ok-lent.rest.now)) (sym c.in_ok-marker.ensures)
