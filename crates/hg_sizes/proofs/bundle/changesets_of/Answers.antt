use Rattle.std.proofs.Common.{[], ap, sym, ◌∙◌, Err, refl}
use Rattle.hg_stream.specs.Unbundler.{state_of}
use Rattle.hg_sizes.specs.Changesets.{changesets_of}
use Rattle.hg_sizes.proofs.Bundles.{begins, is_faulty, is_not_ended}
use Rattle.hg_sizes.proofs.bundle.changesets_of.Goals as goal

pub returns-in-Err-clause-none : goal.returns-in-Err-clause-none
returns-in-Err-clause-none g c =
    is_faulty c.args.limits c.feed.new.self (c.streams_have_one_verdict.ensures c.args.limits)
    (c.feed.ensures.limits ∙ c.new-bundle.ensures.limits) c.args.body.now c.in-Err.ensures.err.0
    (c.in-Err.ensures.err.2 [] [] c.new-bundle.ensures.empty) c.in-Err.fault c.in-Err.ensures.failed
    c.in_ok-fault_of_bytes-in-Err.ensures
    (λ same. c.in-Err.ensures.not_truncated ([], [], c.new-bundle.ensures.empty, c.new-bundle.ensures.state) (ap Err same))

pub returns-in_default : goal.returns-in_default
returns-in_default g c = record {
  some = tt;
  none = is_not_ended c.args.limits c.feed.new.self (c.streams_have_one_verdict.ensures c.args.limits)
      (c.feed.ensures.limits ∙ c.new-bundle.ensures.limits) c.args.body.now c.in-Ok._count
      (c.in-Ok.ensures.ok [] [] c.new-bundle.ensures.empty) (state_of c.feed.new.self) refl
      (λ ended. c.in_default.not-Ended (c.state.ensures ∙ ended)) c.in-Ok.ensures.all
      (c.in-Ok.ensures.goes_on ([], [], c.new-bundle.ensures.empty, c.new-bundle.ensures.state));
}

pub returns-clause-some : goal.returns-clause-some
returns-clause-some g c =
    begins c.args.limits c.feed.new.self (c.streams_have_one_verdict.ensures c.args.limits)
    (c.feed.ensures.limits ∙ c.new-bundle.ensures.limits) c.args.body.now c.in-Ok._count
    (c.in-Ok.ensures.ok [] [] c.new-bundle.ensures.empty) (sym c.in-Ended.ensures) c.in_ok-entries.entries
    (c.in_ok-entries.ensures ∙ ap changesets_of (c.deref.ensures.value ∙ c.in_ok-parts.ensures.parts))
