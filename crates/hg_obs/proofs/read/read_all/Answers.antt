use Rattle.std.proofs.Common.{sym, ap, ◌∙◌, ◌<◌, ◌≡◌, length, arith, List, eqb-true}
use Rattle.std.proofs.lemmas.Bool.{eqb-false}
use Rattle.std.proofs.lemmas.Result.{err_from_is_err_and}
use Rattle.hg_obs.specs.declared.marker.Marker.{Marker}
use Rattle.hg_obs.specs.Reading.{markers_of, markers_at, with_front}
use Rattle.hg_obs.proofs.DataLaws.{goes_on, is_shorter, rest_fits, fails_on, ends, no_front, starts}
use Rattle.hg_obs.proofs.DataLaws.{starts_fits, bad_version, no_version_told, gives_fault}
use Rattle.hg_obs.proofs.read.read_all.Goals as goal

pub returns-in_err-version : goal.returns-in_err-version
returns-in_err-version g c =
    let p = err_from_is_err_and c.from_residual.result c.from_residual.ensures.1 in
    gives_fault c.from_residual.result p.0 c.in_err-version.field-0.0 (markers_of c.args.bytes.now) p.1 p.2
    (no_version_told g.row.A.Denot c.args.bytes.now c.in_err-version.field-0.0 c.in_err-version.ensures)

pub returns-then-version-ne0 : goal.returns-then-version-ne0
returns-then-version-ne0 g c =
    bad_version c.args.bytes.now c.in_ok-version.version c.in_ok-version.rest.now c.in_ok-version.ensures
    c.if-version-ne0.true

pub loop-rest-init : goal.loop-rest-init
loop-rest-init g c = record {
  reads =
      ap (λ (ms : List (Marker g.row.A.Denot)). with_front ms (markers_at c.in_ok-version.rest.now))
      c.new-markers.ensures ∙ no_front (markers_at c.in_ok-version.rest.now)
      ∙ sym (starts c.args.bytes.now c.in_ok-version.version c.in_ok-version.rest.now c.in_ok-version.ensures
      c.if-version-ne0.false);
  bytes = starts_fits c.args.bytes.now c.in_ok-version.version c.in_ok-version.rest.now
      c.in_ok-version.ensures (λ i. omega (arith, c.type_inv.bytes i));
}

pub returns-in_err-marker : goal.returns-in_err-marker
returns-in_err-marker g c =
    let p = err_from_is_err_and c.from_residual-in_err-marker.result
    c.from_residual-in_err-marker.ensures.1 in
    let some : 0 < length c.loop-rest.rest.now = omega
    (arith, eqb-false _ _ (sym c.loop-rest-test.ensures)) in
    gives_fault c.from_residual-in_err-marker.result p.0 c.in_err-marker.field-0.0
    (markers_of c.args.bytes.now) p.1 p.2 (
    fails_on c.loop-rest.markers c.loop-rest.rest.now c.in_err-marker.field-0.0
    (markers_of c.args.bytes.now) some c.loop-rest.invariant.reads c.in_err-marker.ensures
    )

pub loop-rest-smaller : goal.loop-rest-smaller
loop-rest-smaller g c = is_shorter c.loop-rest.rest.now c.in_ok-marker.marker c.in_ok-marker.after.now
    c.loop-rest.invariant.bytes c.in_ok-marker.ensures

pub loop-rest-preserved : goal.loop-rest-preserved
loop-rest-preserved g c =
    let some : 0 < length c.loop-rest.rest.now = omega
    (arith, eqb-false _ _ (sym c.loop-rest-test.ensures)) in
    record {
      reads =
          ap (λ (ms : List (Marker g.row.A.Denot)). with_front ms (markers_at c.in_ok-marker.after.now))
          c.in_ok-push.ensures.ok
          ∙ goes_on c.loop-rest.markers c.loop-rest.rest.now c.in_ok-marker.marker c.in_ok-marker.after.now
          (markers_of c.args.bytes.now) c.loop-rest.invariant.bytes some c.loop-rest.invariant.reads
          c.in_ok-marker.ensures;
      bytes = rest_fits c.loop-rest.rest.now c.in_ok-marker.marker c.in_ok-marker.after.now
          c.loop-rest.invariant.bytes c.in_ok-marker.ensures;
    }

pub returns : goal.returns
returns g c =
    let none : length c.loop-rest.rest.now ≡ 0 = eqb-true _ _ (sym c.loop-rest-test.ensures) in
    ends c.loop-rest.markers c.loop-rest.rest.now
    (markers_of c.args.bytes.now) none c.loop-rest.invariant.reads
