use Rattle.std.proofs.Common.{◌≡◌, ◌∙◌, Err, ap, inl, length, refl, sym, subst}
use Rattle.std.proofs.lemmas.Result.{err_from_is_err_and}
use Rattle.hg_store.specs.Calls.{bytes_in}
use Rattle.hg_recovery.specs.Opening.{IsRecovered, head_of, setup_for}
use Rattle.hg_recovery.specs.declared.opening.OpeningFault.TheVariants.{Restore, Store}
use Rattle.hg_recovery.proofs.Following.{opened_on, unfinished_since}
use Rattle.hg_recovery.proofs.Stops.{store_is}
use Rattle.hg_recovery.proofs.standby.open_followed.Goals as goal

pub run_rest-requires : goal.run_rest-requires
run_rest-requires g c = (c.args.standby.publishing, c.requires)

pub finish-requires : goal.finish-requires
finish-requires g c =
    (setup_for c.args.standby.publishing, (c.in_ok-run_rest.ensures.ended c.args.standby.publishing c.requires).0)

pub returns-in_err-run_rest-clause-stops : goal.returns-in_err-run_rest-clause-stops
returns-in_err-run_rest-clause-stops g c = λ fault is.
    let p = err_from_is_err_and c.from_residual.result c.from_residual.ensures.1 in
    let same : c.in_err-run_rest.field-0.0 ≡ Restore fault = cc in (
      c.run_rest.new.opening.calls,
      c.run_rest.ensures.same.0,
      refl,
      c.in_err-run_rest.ensures.stops c.args.standby.publishing c.requires fault (ap Err same),
    )

pub returns-in_err-run_rest-clause-unopened : goal.returns-in_err-run_rest-clause-unopened
returns-in_err-run_rest-clause-unopened g c = λ fault is.
    let p = err_from_is_err_and c.from_residual.result c.from_residual.ensures.1 in
    let same : c.in_err-run_rest.field-0.0 ≡ Store fault = cc in (
      c.run_rest.new.opening.calls,
      c.in_err-run_rest.ensures.unopened c.args.standby.publishing c.requires fault (ap Err same),
      inl c.run_rest.ensures.same.0,
    )

pub returns-in-Err-clause-unopened : goal.returns-in-Err-clause-unopened
returns-in-Err-clause-unopened g c = λ fault is.
    let same = store_is c.in-Err.left.fault fault is in
    let ended = c.in_ok-run_rest.ensures.ended c.args.standby.publishing c.requires in
    let why = unfinished_since c.in-Err.left.fault fault (setup_for c.args.standby.publishing)
    (bytes_in c.in-Err.left.calls.pieces.events) c.args.standby.opening.calls.history.events
    c.run_rest.new.opening.calls.history.events c.in-Err.left.calls.history.events c.finish.new.keeper same
    c.run_rest.ensures.same.0 (c.in-Err.ensures.err (setup_for c.args.standby.publishing) ended.0) c.in-Err.ensures.tail_err in
    (c.in-Err.left.calls, why.0, why.1)

pub returns-clause-ok : goal.returns-clause-ok
returns-clause-ok g c =
    let same = c.in-Ok.ensures.same in
    let opened = c.in-Ok.opened in
    let ended = c.in_ok-run_rest.ensures.ended c.args.standby.publishing c.requires in (
      record {
        settled = c.in-Ok.ensures.settled (setup_for c.args.standby.publishing) ended.0;
        recovered = subst (λ rs. IsRecovered c.args.standby.publishing (head_of c.args.standby.publishing opened.identity) rs.entries
            c.run_rest.new.repo) (sym same.1)
            (record { setup_is = refl; ran = ended.1.ran });
        count = same.2 ∙ ended.0.all.count ∙ ap (λ rs. length rs.entries) (sym same.1);
      },
      refl,
    )

pub returns-clause-found : goal.returns-clause-found
returns-clause-found g c =
    let same = c.in-Ok.ensures.same in
    let opened = c.in-Ok.opened in
    let ended = c.in_ok-run_rest.ensures.ended c.args.standby.publishing c.requires in
    opened_on (head_of c.args.standby.publishing opened.identity) c.args.standby.opening.records.entries
    c.run_rest.new.opening.records.entries opened.records.entries c.run_rest.new.opening.records.entries
    c.args.standby.opening.calls.history.events c.run_rest.new.opening.calls.history.events
    opened.log.device.calls.history.events c.finish.new.keeper c.in_ok-run_rest.ensures.more refl
    (ap (λ rs. rs.entries) same.1) c.run_rest.ensures.same.0
    (c.in-Ok.ensures.found (setup_for c.args.standby.publishing) ended.0) c.in-Ok.ensures.tail

pub returns-clause-name : goal.returns-clause-name
returns-clause-name g c = c.in-Ok.ensures.same.0 ∙ c.run_rest.ensures.same.1
