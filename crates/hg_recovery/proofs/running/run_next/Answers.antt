use Rattle.std.proofs.Common.{◌≡◌, ◌∙◌, [], Bool, ap, refl, subst}
use Rattle.std.proofs.lemmas.Result.{err_from_is_err_and}
use Rattle.hg_types.specs.declared.limits.Settings.{Settings}
use Rattle.hg_store.specs.Openings.{HasNext}
use Rattle.hg_stream.specs.Unbundler.{limits_of}
use Rattle.hg_recovery.specs.Replays.{IsUnrun}
use Rattle.hg_recovery.specs.Taking.{Took}
use Rattle.hg_recovery.specs.declared.record.RecordIn.{RecordIn}
use Rattle.hg_recovery.specs.declared.restore.RestoreFault.{RestoreFault}
use Rattle.hg_recovery.proofs.Next.{few_parts, one_more, same_bundle, unread_unrun}
use Rattle.hg_recovery.proofs.running.run_next.Goals as goal

pub returns-then-not-branch-clause-ok : goal.returns-then-not-branch-clause-ok
returns-then-not-branch-clause-ok g c = λ setup has.
    let none = subst (λ (more : Bool). HasNext {T = RecordIn g.row.A.Denot} g.C.Calls.drawn Took
    c.new-record.result c.read_next.new.taker setup more c.args.opening.now c.read_next.new.self)
    c.if-not-branch.true (c.in_ok-read_next.ensures.read setup has) in
    (none.0, none.1, refl {a = c.args.repo.now})

pub returns-in_err-parts-clause-stops : goal.returns-in_err-parts-clause-stops
returns-in_err-parts-clause-stops g c = λ setup has fault is.
    let p = err_from_is_err_and c.from_residual-in_err-parts.result c.from_residual-in_err-parts.ensures.1 in
    let same : c.in_err-parts.field-0.0 ≡ fault = cc in
    let next = one_more g.C.Calls.drawn setup c.new-record.result c.read_next.new.taker _ c.args.opening.now
    c.read_next.new.self c.if-not-branch.false (c.in_ok-read_next.ensures.read setup has) in
    let entry = next.1.0 in
    let taken = next.1.1.taken c.new-record.result [] c.new-record.ensures.took in
    let limits = c.new-record.ensures.limits ∙ ap (λ (s : Settings). s.limits) c.settings.ensures in
    record {
      read = next.0;
      entry = entry;
      more = next.1.1.more;
      unrun = unread_unrun c.in_err-parts.field-0.0 fault c.args.opening.now.stored
          (limits_of c.new-record.result.bundle) c.args.repo.now.settings.limits c.args.repo.now entry.bundle same limits
          (c.in_err-parts.ensures.err c.new-record.result entry.bundle taken);
    }

pub run_parts-requires : goal.run_parts-requires
run_parts-requires g c =
    let setup = c.requires.read.0 in
    let next = one_more g.C.Calls.drawn setup c.new-record.result c.read_next.new.taker _ c.args.opening.now
    c.read_next.new.self c.if-not-branch.false (c.in_ok-read_next.ensures.read setup c.requires.read.1) in
    let entry = next.1.0 in
    let taken = next.1.1.taken c.new-record.result [] c.new-record.ensures.took in
    let limits = c.new-record.ensures.limits ∙ ap (λ (s : Settings). s.limits) c.settings.ensures in
    few_parts c.args.repo.now.settings.limits entry.bundle _ c.requires.allowed
    (same_bundle entry.bundle _ _ _ _ limits c.as_slice.ensures.value
    (c.in_ok-parts.ensures.ok c.new-record.result entry.bundle taken))

pub returns-in_err-run_parts-clause-stops : goal.returns-in_err-run_parts-clause-stops
returns-in_err-run_parts-clause-stops g c = λ setup has fault is.
    let p = err_from_is_err_and c.from_residual-in_err-run_parts.result c.from_residual-in_err-run_parts.ensures.1 in
    let same : c.in_err-run_parts.field-0.0 ≡ fault = cc in
    let next = one_more g.C.Calls.drawn setup c.new-record.result c.read_next.new.taker _ c.args.opening.now
    c.read_next.new.self c.if-not-branch.false (c.in_ok-read_next.ensures.read setup has) in
    let entry = next.1.0 in
    let taken = next.1.1.taken c.new-record.result [] c.new-record.ensures.took in
    let limits = c.new-record.ensures.limits ∙ ap (λ (s : Settings). s.limits) c.settings.ensures in
    record {
      read = next.0;
      entry = entry;
      more = next.1.1.more;
      unrun = subst (λ (f : RestoreFault). IsUnrun f c.args.opening.now.stored c.args.repo.now.settings.limits
          c.args.repo.now entry.bundle) same
          (c.in_err-run_parts.ensures.fault c.args.repo.now.settings.limits entry.bundle
          (same_bundle entry.bundle _ _ _ _ limits c.as_slice.ensures.value
          (c.in_ok-parts.ensures.ok c.new-record.result entry.bundle taken)));
    }

pub returns-clause-ok : goal.returns-clause-ok
returns-clause-ok g c = λ setup has.
    let next = one_more g.C.Calls.drawn setup c.new-record.result c.read_next.new.taker _ c.args.opening.now
    c.read_next.new.self c.if-not-branch.false (c.in_ok-read_next.ensures.read setup has) in
    let entry = next.1.0 in
    let taken = next.1.1.taken c.new-record.result [] c.new-record.ensures.took in
    let limits = c.new-record.ensures.limits ∙ ap (λ (s : Settings). s.limits) c.settings.ensures in (
      next.0,
      record {
        entry = entry;
        more = next.1.1.more;
        ran = c.in_ok-run_parts.ensures.ok c.args.repo.now.settings.limits entry.bundle
            (same_bundle entry.bundle _ _ _ _ limits c.as_slice.ensures.value
            (c.in_ok-parts.ensures.ok c.new-record.result entry.bundle taken));
      },
    )
