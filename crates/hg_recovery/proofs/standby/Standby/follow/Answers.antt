use Rattle.std.proofs.Common.{◌≡◌, ◌∙◌, Err, List, ap, sym, subst}
use Rattle.std.proofs.lemmas.Result.{err_from_is_err_and}
use Rattle.hg_types.specs.Limits.{standard_limits}
use Rattle.hg_store.specs.Calls.{bytes_in}
use Rattle.hg_store.specs.Entries.{Entry}
use Rattle.hg_recovery.specs.Opening.{empty_repository, setup_for}
use Rattle.hg_recovery.specs.Replays.{Replays}
use Rattle.hg_recovery.specs.declared.opening.OpeningFault.TheVariants.{Restore, Store}
use Rattle.hg_recovery.proofs.Following.{are_allowed, followed_all, followed_no_more, followed_on}
use Rattle.hg_recovery.proofs.standby.Standby.follow.Goals as goal

pub run_next-requires-clause-allowed : goal.run_next-requires-clause-allowed
run_next-requires-clause-allowed c =
    are_allowed c.args.self.now.publishing c.args.self.now.opening.records.entries c.args.self.now.repo c.requires.were

pub run_next-requires-clause-read : goal.run_next-requires-clause-read
run_next-requires-clause-read c = (setup_for c.args.self.now.publishing, c.requires.read)

pub returns-then-branch-clause-ok : goal.returns-then-branch-clause-ok
returns-then-branch-clause-ok c =
    (followed_on (λ f. bytes_in f.pieces.events) c.args.self.now.publishing _
    c.args.self.now.opening c.run_next.new.opening c.args.self.now.repo c.run_next.new.repo c.requires
    c.if-branch.true (c.in_ok-run_next.ensures.ok (setup_for c.args.self.now.publishing) c.requires.read)
    c.run_next.ensures.settings).0

pub returns-then-branch-clause-one : goal.returns-then-branch-clause-one
returns-then-branch-clause-one c =
    (followed_on (λ f. bytes_in f.pieces.events) c.args.self.now.publishing _
    c.args.self.now.opening c.run_next.new.opening c.args.self.now.repo c.run_next.new.repo c.requires
    c.if-branch.true (c.in_ok-run_next.ensures.ok (setup_for c.args.self.now.publishing) c.requires.read)
    c.run_next.ensures.settings).1

pub go_back-requires : goal.go_back-requires
go_back-requires c = (
  setup_for c.args.self.now.publishing,
  (followed_all (λ f. bytes_in f.pieces.events) c.args.self.now.publishing _
      c.args.self.now.opening c.run_next.new.opening c.args.self.now.repo c.run_next.new.repo c.requires
      c.if-branch.false (c.in_ok-run_next.ensures.ok (setup_for c.args.self.now.publishing) c.requires.read)).0,
)

pub returns-in-Ok-clause-ok : goal.returns-in-Ok-clause-ok
returns-in-Ok-clause-ok c =
    let all = followed_all (λ f. bytes_in f.pieces.events) c.args.self.now.publishing _
    c.args.self.now.opening c.run_next.new.opening c.args.self.now.repo c.run_next.new.repo c.requires
    c.if-branch.false (c.in_ok-run_next.ensures.ok (setup_for c.args.self.now.publishing) c.requires.read) in
    record {
      read = c.in-Ok.ensures.read (setup_for c.args.self.now.publishing) all.0;
      were = record {
        ran = subst (λ (rs : List Entry). Replays standard_limits
            (empty_repository (setup_for c.args.self.now.publishing)) rs c.run_next.new.repo)
            (sym (ap (λ r. r.entries) c.go_back.ensures.records.0)) all.1.ran;
        settings = all.1.settings;
      };
    }

pub returns-in-Ok-clause-one : goal.returns-in-Ok-clause-one
returns-in-Ok-clause-one c =
    let all = followed_all (λ f. bytes_in f.pieces.events) c.args.self.now.publishing _
    c.args.self.now.opening c.run_next.new.opening c.args.self.now.repo c.run_next.new.repo c.requires
    c.if-branch.false (c.in_ok-run_next.ensures.ok (setup_for c.args.self.now.publishing) c.requires.read) in
    ap (λ r. r.entries) c.go_back.ensures.records.0 ∙ all.2

pub returns-in_err-run_next-clause-stops : goal.returns-in_err-run_next-clause-stops
returns-in_err-run_next-clause-stops c = λ fault is.
    let p = err_from_is_err_and c.from_residual.result c.from_residual.ensures.1 in
    let same : c.in_err-run_next.field-0.0 ≡ Restore fault = cc in
    followed_no_more (λ f. bytes_in f.pieces.events) c.args.self.now.publishing c.args.self.now.opening
    c.run_next.new.opening c.args.self.now.repo fault c.requires
    (c.in_err-run_next.ensures.stops (setup_for c.args.self.now.publishing) c.requires.read fault (ap Err same))

pub returns-in_err-run_next-clause-unopened : goal.returns-in_err-run_next-clause-unopened
returns-in_err-run_next-clause-unopened c = λ fault is.
    let p = err_from_is_err_and c.from_residual.result c.from_residual.ensures.1 in
    let same : c.in_err-run_next.field-0.0 ≡ Store fault = cc in
    c.in_err-run_next.ensures.unopened (setup_for c.args.self.now.publishing) c.requires.read fault (ap Err same)
