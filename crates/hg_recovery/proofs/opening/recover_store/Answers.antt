use Rattle.std.proofs.Common.{◌≡◌, ◌∙◌, [], List, Err, ap, inr, length, refl, subst, sym}
use Rattle.std.proofs.lemmas.Result.{err_from_is_err_and}
use Rattle.hg_store.specs.Calls.{Event, bytes_in}
use Rattle.hg_store.specs.Openings.{HasRead, IsFound}
use Rattle.hg_store.specs.Tails.{LosesNothing}
use Rattle.hg_recovery.specs.Opening.{IsRecovered, head_of, setup_for}
use Rattle.hg_recovery.specs.declared.opening.OpeningFault.TheVariants.{Restore, Store}
use Rattle.hg_recovery.proofs.Folders.{names_begun, names_if}
use Rattle.hg_recovery.proofs.Stops.{store_is, unbegun, unfinished, unread_is}
use Rattle.hg_recovery.proofs.opening.recover_store.Goals as goal

pub run_records-requires-clause-read : goal.run_records-requires-clause-read
run_records-requires-clause-read g c =
    subst (λ s. HasRead (λ f. bytes_in f.pieces.events) s [] c.in_ok-opening.opening) c.setup_for.ensures
    c.in_ok-opening.ensures.read

pub finish-requires : goal.finish-requires
finish-requires g c = (setup_for c.args.publishing, c.in_ok-repo.ensures.ended)

pub returns-in_err-opening-clause-unopened : goal.returns-in_err-opening-clause-unopened
returns-in_err-opening-clause-unopened g c = λ fault is.
    let p = err_from_is_err_and c.from_residual.result c.from_residual.ensures.1 in
    let same : c.in_err-opening.field-0.0 ≡ fault = cc in
    unbegun (λ f. bytes_in f.pieces.events) (λ f. f.history.events) c.in_err-opening.field-0.0 fault
    c.setup_for.result (setup_for c.args.publishing) c.begin_in.new.folder same c.setup_for.ensures
    c.in_err-opening.ensures.err

pub returns-in_err-repo-clause-stops : goal.returns-in_err-repo-clause-stops
returns-in_err-repo-clause-stops g c = λ fault is.
    let p = err_from_is_err_and c.from_residual-in_err-repo.result c.from_residual-in_err-repo.ensures.1 in
    let same : c.in_err-repo.field-0.0 ≡ Restore fault = cc in (
      c.run_records.new.opening.calls,
      c.run_records.ensures.same ∙ c.in_ok-opening.ensures.none.1,
      c.in_ok-opening.ensures.kept,
      c.in_err-repo.ensures.stops fault (ap Err same),
    )

pub returns-in_err-repo-clause-unopened : goal.returns-in_err-repo-clause-unopened
returns-in_err-repo-clause-unopened g c = λ fault is.
    let p = err_from_is_err_and c.from_residual-in_err-repo.result c.from_residual-in_err-repo.ensures.1 in
    let same : c.in_err-repo.field-0.0 ≡ Store fault = cc in
    let why = unread_is fault fault (setup_for c.args.publishing)
    (bytes_in c.run_records.new.opening.calls.pieces.events) c.in_ok-opening.opening.calls.history.events
    c.run_records.new.opening.calls.history.events c.begin_in.new.folder refl c.in_ok-opening.ensures.none.1
    c.run_records.ensures.same (c.in_err-repo.ensures.unopened fault (ap Err same)) in
    inr (c.run_records.new.opening.calls, why.0, why.1)

pub returns-in_err-repo-clause-names : goal.returns-in_err-repo-clause-names
returns-in_err-repo-clause-names g c =
    names_begun c.args.if_missing c.args.folder.now c.begin_in.new.folder c.in_ok-opening.ensures.names

pub returns-in-Err-clause-unopened : goal.returns-in-Err-clause-unopened
returns-in-Err-clause-unopened g c = λ fault is.
    let same = store_is c.in-Err.left.fault fault is in
    let why = unfinished c.in-Err.left.fault fault (setup_for c.args.publishing)
    (bytes_in c.in-Err.left.calls.pieces.events) c.run_records.new.opening.calls.history.events
    c.in-Err.left.calls.history.events c.finish.new.keeper same
    (c.run_records.ensures.same ∙ c.in_ok-opening.ensures.none.1)
    (c.in-Err.ensures.err (setup_for c.args.publishing) c.in_ok-repo.ensures.ended) c.in-Err.ensures.tail_err in
    inr (c.in-Err.left.calls, why.0, why.1)

pub returns-in-Err-clause-names : goal.returns-in-Err-clause-names
returns-in-Err-clause-names g c =
    names_if c.args.if_missing c.args.folder.now c.begin_in.new.folder c.finish.new.keeper
    c.in_ok-opening.ensures.names c.finish.ensures.done

pub returns-clause-ok : goal.returns-clause-ok
returns-clause-ok g c =
    let same = c.in-Ok.ensures.same in
    let opened = c.in-Ok.opened in
    let ended = c.in_ok-repo.ensures.ended in (
      record {
        settled = c.in-Ok.ensures.settled (setup_for c.args.publishing) ended;
        recovered = subst (λ rs. IsRecovered c.args.publishing (head_of c.args.publishing opened.identity) rs.entries
            c.in_ok-repo.repo) (sym same.1)
            (subst (λ id. IsRecovered c.args.publishing (head_of c.args.publishing id)
            c.run_records.new.opening.records.entries c.in_ok-repo.repo) (sym same.0) c.in_ok-repo.ensures.ran);
        count = same.2 ∙ ended.all.count ∙ ap (λ rs. length rs.entries) (sym same.1);
      },
      refl,
    )

pub returns-clause-found : goal.returns-clause-found
returns-clause-found g c =
    subst (λ (before : List Event). IsFound (head_of c.args.publishing c.in-Ok.opened.identity)
    c.in-Ok.opened.records.entries before c.in-Ok.opened.log.device.calls.history.events)
    (c.run_records.ensures.same ∙ c.in_ok-opening.ensures.none.1)
    (c.in-Ok.ensures.found (setup_for c.args.publishing) c.in_ok-repo.ensures.ended)

pub returns-clause-tail : goal.returns-clause-tail
returns-clause-tail g c =
    subst (λ (before : List Event). LosesNothing before c.in-Ok.opened.log.device.calls.history.events
    c.finish.new.keeper)
    (c.run_records.ensures.same ∙ c.in_ok-opening.ensures.none.1) c.in-Ok.ensures.tail

pub returns-clause-names : goal.returns-clause-names
returns-clause-names g c =
    names_if c.args.if_missing c.args.folder.now c.begin_in.new.folder c.finish.new.keeper
    c.in_ok-opening.ensures.names c.finish.ensures.done
