use Rattle.std.proofs.Common.{◌≡◌, ◌∙◌, ℕ, List, Bool, Err, ap, refl, subst, sym}
use Rattle.std.proofs.lemmas.Result.{err_from_is_err_and}
use Rattle.hg_types.specs.Limits.{standard_limits}
use Rattle.hg_types.specs.declared.limits.Limits.{Limits}
use Rattle.hg_types.specs.declared.limits.Settings.{Settings}
use Rattle.hg_store.specs.Calls.{Event, bytes_in}
use Rattle.hg_store.specs.Entries.{Entry}
use Rattle.hg_store.specs.Openings.{IsUnopened}
use Rattle.hg_recovery.specs.Next.{RunsNext}
use Rattle.hg_recovery.specs.Opening.{empty_repository, setup_for}
use Rattle.hg_recovery.specs.Replays.{IsUnrun, Replays, ReplaysOne}
use Rattle.hg_recovery.specs.declared.opening.OpeningFault.TheVariants.{Restore, Store}
use Rattle.hg_recovery.proofs.Stops.{ran_more, stops_read}
use Rattle.hg_recovery.proofs.opening.run_records.Goals as goal

pub loop-init : goal.loop-init
loop-init c =
    let first = empty_repository (setup_for c.args.publishing) in
    let repo : c.empty_repository-repo.result ≡ first =
    c.empty_repository-repo.ensures ∙ ap empty_repository c.setup_for.ensures in
    record {
      read = c.requires.read;
      ran = subst (λ (rs : List Entry). Replays standard_limits first rs c.empty_repository-repo.result)
          (sym c.requires.none) (sym repo);
      settings = ap (λ r. r.settings) repo;
      same = refl;
    }

pub run_next-requires-clause-read : goal.run_next-requires-clause-read
run_next-requires-clause-read c = (setup_for c.args.publishing, c.loop.invariant.read)

pub loop-preserved : goal.loop-preserved
loop-preserved c =
    let i = c.loop.invariant in
    let next = subst (λ (more : Bool). RunsNext (λ f. bytes_in f.pieces.events) (setup_for c.args.publishing) more
    c.loop.opening c.run_next.new.opening c.loop.repo c.run_next.new.repo) c.if-not-branch.false
    (c.in_ok-run_next.ensures.ok (setup_for c.args.publishing) i.read) in
    let one = subst (λ (limits : Limits). ReplaysOne limits c.loop.repo next.1.entry.bundle
    c.run_next.new.repo) (ap (λ (s : Settings). s.limits) i.settings) next.1.ran in
    record {
      read = next.0;
      ran = ran_more (empty_repository (setup_for c.args.publishing)) c.loop.repo c.run_next.new.repo
          c.loop.opening.records.entries c.run_next.new.opening.records.entries next.1.entry next.1.more i.ran
          one;
      settings = c.run_next.ensures.settings ∙ i.settings;
      same = c.run_next.ensures.same ∙ i.same;
    }

pub returns-in_err-run_next-clause-stops : goal.returns-in_err-run_next-clause-stops
returns-in_err-run_next-clause-stops c = λ fault is.
    let i = c.loop.invariant in
    let p = err_from_is_err_and c.from_residual.result c.from_residual.ensures.1 in
    let same : c.in_err-run_next.field-0.0 ≡ Restore fault = cc in
    let un = c.in_err-run_next.ensures.stops (setup_for c.args.publishing) i.read fault (ap Err same) in
    stops_read _ c.args.publishing c.run_next.new.opening.identity c.loop.opening.records.entries
    c.run_next.new.opening.records.entries un.entry (bytes_in c.run_next.new.opening.calls.pieces.events) c.loop.repo
    c.loop.opening.stored fault un.read.allowed un.read.each un.read.read un.more i.read.count i.ran
    (subst (λ (limits : Limits). IsUnrun fault c.loop.opening.stored limits c.loop.repo un.entry.bundle)
    (ap (λ (s : Settings). s.limits) i.settings) un.unrun)

pub returns-in_err-run_next-clause-unopened : goal.returns-in_err-run_next-clause-unopened
returns-in_err-run_next-clause-unopened c = λ fault is.
    let i = c.loop.invariant in
    let p = err_from_is_err_and c.from_residual.result c.from_residual.ensures.1 in
    let same : c.in_err-run_next.field-0.0 ≡ Store fault = cc in
    let bytes : List ℕ = bytes_in c.run_next.new.opening.calls.pieces.events in
    let now : List Event = c.run_next.new.opening.calls.history.events in
    subst (λ (before : List Event). IsUnopened fault (setup_for c.args.publishing) bytes before now) i.same
    (c.in_err-run_next.ensures.unopened (setup_for c.args.publishing) i.read fault (ap Err same))

pub returns-then-not-branch-clause-ended : goal.returns-then-not-branch-clause-ended
returns-then-not-branch-clause-ended c =
    (subst (λ (more : Bool). RunsNext (λ f. bytes_in f.pieces.events) (setup_for c.args.publishing) more
    c.loop.opening c.run_next.new.opening c.loop.repo c.run_next.new.repo) c.if-not-branch.true
    (c.in_ok-run_next.ensures.ok (setup_for c.args.publishing) c.loop.invariant.read)).0

pub returns-then-not-branch-clause-ran : goal.returns-then-not-branch-clause-ran
returns-then-not-branch-clause-ran c =
    let next = subst (λ (more : Bool). RunsNext (λ f. bytes_in f.pieces.events) (setup_for c.args.publishing) more
    c.loop.opening c.run_next.new.opening c.loop.repo c.run_next.new.repo) c.if-not-branch.true
    (c.in_ok-run_next.ensures.ok (setup_for c.args.publishing) c.loop.invariant.read) in
    record {
      setup_is = refl;
      ran = subst (λ (rs : List Entry). Replays standard_limits (empty_repository (setup_for c.args.publishing)) rs
          c.run_next.new.repo) (sym next.1)
          (subst (Replays standard_limits (empty_repository (setup_for c.args.publishing))
          c.loop.opening.records.entries) (sym next.2) c.loop.invariant.ran);
    }
