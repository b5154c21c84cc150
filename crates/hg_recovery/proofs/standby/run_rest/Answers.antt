use Rattle.std.proofs.Common.{◌≡◌, ◌∙◌, ℕ, Bool, Err, List, ap, refl, subst}
use Rattle.std.proofs.lemmas.Result.{err_from_is_err_and}
use Rattle.hg_store.specs.Calls.{Event, bytes_in}
use Rattle.hg_store.specs.Openings.{IsUnopened}
use Rattle.hg_recovery.specs.Opening.{setup_for}
use Rattle.hg_recovery.specs.Standbys.{IsFollowed}
use Rattle.hg_recovery.specs.declared.opening.OpeningFault.TheVariants.{Restore, Store}
use Rattle.hg_recovery.proofs.Following.{are_allowed, followed_all, followed_no_more, followed_on}
use Rattle.hg_recovery.proofs.Following.{goes_nowhere, goes_on, goes_same}
use Rattle.hg_recovery.proofs.standby.run_rest.Goals as goal

pub loop-init : goal.loop-init
loop-init c = record {
  followed = λ publishing is. is;
  more = goes_nowhere c.args.opening.now.records.entries;
  same = refl;
  name = refl;
}

pub run_next-requires-clause-allowed : goal.run_next-requires-clause-allowed
run_next-requires-clause-allowed c =
    let is = c.loop.invariant.followed c.requires.0 c.requires.1 in
    are_allowed c.requires.0 c.loop.opening.records.entries c.loop.repo is.were

pub run_next-requires-clause-read : goal.run_next-requires-clause-read
run_next-requires-clause-read c =
    (setup_for c.requires.0, (c.loop.invariant.followed c.requires.0 c.requires.1).read)

pub loop-preserved : goal.loop-preserved
loop-preserved c =
    let i = c.loop.invariant in
    let one = λ (publishing : Bool) (is : IsFollowed (λ f. bytes_in f.pieces.events) publishing c.loop.opening c.loop.repo).
    followed_on (λ f. bytes_in f.pieces.events) publishing _ c.loop.opening
    c.run_next.new.opening c.loop.repo c.run_next.new.repo is c.if-not-branch.false
    (c.in_ok-run_next.ensures.ok (setup_for publishing) is.read) c.run_next.ensures.settings in
    let first = one c.requires.0 (i.followed c.requires.0 c.requires.1) in
    record {
      followed = λ publishing is. (one publishing (i.followed publishing is)).0;
      more = goes_on c.args.opening.now.records.entries c.loop.opening.records.entries
          c.run_next.new.opening.records.entries first.1.0 i.more first.1.1;
      same = c.run_next.ensures.same ∙ i.same;
      name = c.run_next.ensures.name ∙ i.name;
    }

pub returns-then-not-branch-clause-ended : goal.returns-then-not-branch-clause-ended
returns-then-not-branch-clause-ended c = λ publishing is.
    let now = c.loop.invariant.followed publishing is in
    let all = followed_all (λ f. bytes_in f.pieces.events) publishing _ c.loop.opening
    c.run_next.new.opening c.loop.repo c.run_next.new.repo now c.if-not-branch.true
    (c.in_ok-run_next.ensures.ok (setup_for publishing) now.read) in
    (all.0, all.1)

pub returns-then-not-branch-clause-more : goal.returns-then-not-branch-clause-more
returns-then-not-branch-clause-more c =
    let i = c.loop.invariant in
    let now = i.followed c.requires.0 c.requires.1 in
    let all = followed_all (λ f. bytes_in f.pieces.events) c.requires.0 _ c.loop.opening
    c.run_next.new.opening c.loop.repo c.run_next.new.repo now c.if-not-branch.true
    (c.in_ok-run_next.ensures.ok (setup_for c.requires.0) now.read) in
    goes_same c.args.opening.now.records.entries c.loop.opening.records.entries
    c.run_next.new.opening.records.entries i.more all.2

pub returns-in_err-run_next-clause-stops : goal.returns-in_err-run_next-clause-stops
returns-in_err-run_next-clause-stops c = λ publishing is fault err.
    let p = err_from_is_err_and c.from_residual.result c.from_residual.ensures.1 in
    let same : c.in_err-run_next.field-0.0 ≡ Restore fault = cc in
    let now = c.loop.invariant.followed publishing is in
    followed_no_more (λ f. bytes_in f.pieces.events) publishing c.loop.opening c.run_next.new.opening c.loop.repo fault
    now (c.in_err-run_next.ensures.stops (setup_for publishing) now.read fault (ap Err same))

pub returns-in_err-run_next-clause-unopened : goal.returns-in_err-run_next-clause-unopened
returns-in_err-run_next-clause-unopened c = λ publishing is fault err.
    let p = err_from_is_err_and c.from_residual.result c.from_residual.ensures.1 in
    let same : c.in_err-run_next.field-0.0 ≡ Store fault = cc in
    let bytes : List ℕ = bytes_in c.run_next.new.opening.calls.pieces.events in
    let now : List Event = c.run_next.new.opening.calls.history.events in
    let still = c.loop.invariant.followed publishing is in
    subst (λ (before : List Event). IsUnopened fault (setup_for publishing) bytes before now) c.loop.invariant.same
    (c.in_err-run_next.ensures.unopened (setup_for publishing) still.read fault (ap Err same))
