use Rattle.std.proofs.Common.{◌≡◌, ◌∙◌, [], List, ap, refl, subst, sym}
use Rattle.std.proofs.lemmas.Result.{err_from_is_err_and}
use Rattle.hg_types.specs.Limits.{standard_limits}
use Rattle.hg_store.specs.Calls.{bytes_in}
use Rattle.hg_store.specs.Entries.{Entry}
use Rattle.hg_store.specs.Openings.{HasRead}
use Rattle.hg_recovery.specs.Opening.{empty_repository, setup_for}
use Rattle.hg_recovery.specs.Replays.{Replays}
use Rattle.hg_recovery.proofs.Following.{unfollowed}
use Rattle.hg_recovery.proofs.standby.Standby.begin.Goals as goal

pub returns-in_err-opening-clause-unopened : goal.returns-in_err-opening-clause-unopened
returns-in_err-opening-clause-unopened g c = λ fault is.
    let p = err_from_is_err_and c.from_residual.result c.from_residual.ensures.1 in
    let same : c.in_err-opening.field-0.0 ≡ fault = cc in
    unfollowed (λ f. bytes_in f.pieces.events) (λ f. f.history.events) c.in_err-opening.field-0.0 fault
    c.setup_for-setup.result (setup_for c.args.publishing) same c.setup_for-setup.ensures c.in_err-opening.ensures.err

pub returns-clause-ok : goal.returns-clause-ok
returns-clause-ok g c =
    let first = empty_repository (setup_for c.args.publishing) in
    let repo : c.empty_repository-repo.result ≡ first =
    c.empty_repository-repo.ensures ∙ ap empty_repository c.setup_for-setup.ensures in (
      record {
        read = subst (λ s. HasRead (λ f. bytes_in f.pieces.events) s [] c.in_ok-opening.opening)
            c.setup_for-setup.ensures c.in_ok-opening.ensures.read;
        were = record {
          ran = subst (λ (rs : List Entry). Replays standard_limits first rs c.empty_repository-repo.result)
              (sym c.in_ok-opening.ensures.none.0) (sym repo);
          settings = ap (λ r. r.settings) repo;
        };
      },
      refl,
    )
