use Rattle.std.proofs.Common.{rules, ◌≡◌, ◌∙◌, ◌+◌, ◌||◌, List, length, inl, Ok, Err, refl, sym, ap, subst}
use Rattle.std.proofs.Common.{arith}
use Rattle.std.proofs.lemmas.Bool.{or_left}
use Rattle.hg_types.specs.declared.part.Part.{Part}
use Rattle.hg_parts.specs.declared.prepared.Prepared.{Prepared}
use Rattle.hg_parts.specs.declared.refusal.Refusal.TheVariants.{NoMemory}
use Rattle.hg_parts.specs.Repository.{Repository}
use Rattle.hg_parts.specs.Handled.{Handled}
use Rattle.hg_parts.specs.Store.{repository_of}
use Rattle.hg_parts.proofs.CallerLemmas.{grown_same, grown_on}
use Rattle.hg_repo.specs.Run.{Progress, run_of}
use Rattle.hg_repo.specs.code.Runs.{PartsGive}
use Rattle.hg_repo.specs.Replies.{AreReplies}
use Rattle.hg_repo.proofs.PreparedRuns.{IsReachedBy, reached_none, next_handled, next_refused}
use Rattle.hg_repo.proofs.PreparedRuns.{all_handled}
use Rattle.hg_repo.proofs.Replies.{no_replies, one_more}
use Rattle.hg_repo.proofs.run.run_prepared.Goals as goal
use Rattle.hg_repo.proofs.run.run_prepared.Goals.{then-replying, else-replying}

pub loop-part-init : goal.loop-part-init
loop-part-init g c =
    let all = c.args.prepared in
    let repo : Repository g.row.A.Denot = repository_of c.args.settings.now c.args.store.now in
    let counts = ap length c.into_items-left.ensures in
    record {
      count = omega (arith, counts);
      room = omega (arith, counts, c.len.ensures, c.in_ok-handled.ensures.len, c.in_ok-handled.ensures.capacity);
      sound = c.requires.sound;
      grown = grown_same _;
      replies = subst (λ (rs : List (Part g.row.A.Denot)). AreReplies 0 rs)
          (sym c.new-replies.ensures) no_replies;
      reached = rw (c.into_items-left.ensures, c.new-replies.ensures, c.in_ok-handled.ensures.items)
          (reached_none c.args.source repo all);
    }

pub loop-part-preserved : goal.loop-part-preserved
loop-part-preserved g c =
    let all = c.args.prepared in
    let settings = c.args.settings.now in
    let repo : Repository g.row.A.Denot = repository_of settings c.args.store.now in
    let now : Repository g.row.A.Denot = repository_of settings c.loop-part.store in
    let next : Repository g.row.A.Denot = repository_of settings c.handle_prepared.new.store in
    let starts = c.starts_replies-starts.result in
    let steps = c.in-Some.ensures.some in
    let counts = ap length steps in
    let left = c.next.new.self in
    let progress : Progress g.row.A.Denot = record {
      repo = now;
      replying = c.loop-part.replying;
      replies = c.loop-part.replies;
      handled = c.loop-part.handled.items;
    } in
    let given : Handled g.row.A.Denot = record { repo = next; reply = c.in_ok-reply.reply } in
    let before = subst (λ (left : List (Prepared g.row.A.Denot)).
    IsReachedBy c.args.source repo all left c.loop-part.place progress) steps
    c.loop-part.invariant.reached in
    let reached = next_handled c.args.source repo all left c.in-Some.part c.loop-part.place progress given
    starts before (λ part made. c.in_ok-reply.ensures.gives part made)
    (λ part made. c.starts_replies-starts.ensures part made) in
    let replying : (c.loop-part.replying || starts) ≡ c.if-replying.replying =
    elim c.if-replying.branch [
      | then-replying w ↦ or_left c.loop-part.replying starts w.if-replying.true ∙ sym w.if-replying.true
          ∙ sym w.replying-is
      | else-replying w ↦ ap (λ b. b || starts) w.if-replying.false ∙ sym w.replying-is
    ] in
    record {
      count = omega (arith, counts, c.loop-part.invariant.count);
      room = omega (arith, counts, c.loop-part.invariant.room, c.push_reserved.ensures.len, c.push_reserved.ensures.capacity);
      sound = c.in_ok-reply.ensures.sound;
      grown = grown_on _ _ _ c.loop-part.invariant.grown c.in_ok-reply.ensures.grown;
      replies = subst (λ (rs : List (Part g.row.A.Denot)). AreReplies (c.loop-part.place + 1) rs)
          (sym c.in_ok-keep_reply.ensures.kept)
          (one_more c.loop-part.place c.loop-part.replies c.in_ok-reply.reply c.loop-part.invariant.replies
          c.in_ok-reply.ensures.reply);
      reached = rw (c.in_ok-keep_reply.ensures.kept, c.push_reserved.ensures.items, sym replying) reached;
    }

pub returns-in_err-reply-clause-grown : goal.returns-in_err-reply-clause-grown
returns-in_err-reply-clause-grown g c =
    grown_on _ _ _ c.loop-part.invariant.grown c.in_err-reply.ensures.grown

pub returns-in_err-reply-clause-gives : goal.returns-in_err-reply-clause-gives
returns-in_err-reply-clause-gives g c =
    let all = c.args.prepared in
    let settings = c.args.settings.now in
    let repo : Repository g.row.A.Denot = repository_of settings c.args.store.now in
    let next : Repository g.row.A.Denot = repository_of settings c.handle_prepared.new.store in
    let refusal = c.in_err-reply.field-0.0 in
    let progress : Progress g.row.A.Denot = record {
      repo = repository_of settings c.loop-part.store;
      replying = c.loop-part.replying;
      replies = c.loop-part.replies;
      handled = c.loop-part.handled.items;
    } in
    let before = subst (λ (left : List (Prepared g.row.A.Denot)).
    IsReachedBy c.args.source repo all left c.loop-part.place progress) c.in-Some.ensures.some
    c.loop-part.invariant.reached in
    let told : c.from_residual-in_err-reply.result ≡ Err refusal = search rules in
    λ parts made. subst (λ result. PartsGive (run_of c.args.source repo parts) next result) (sym told)
    (next_refused c.args.source repo all c.next.new.self c.in-Some.part c.loop-part.place
    progress refusal before (λ part one. c.in_err-reply.ensures.gives part one) parts made)

pub returns-in_err-keep_reply-clause-grown : goal.returns-in_err-keep_reply-clause-grown
returns-in_err-keep_reply-clause-grown g c =
    grown_on _ _ _ c.loop-part.invariant.grown c.in_ok-reply.ensures.grown

pub returns-in_err-keep_reply-clause-gives : goal.returns-in_err-keep_reply-clause-gives
returns-in_err-keep_reply-clause-gives g c =
    let settings = c.args.settings.now in
    let repo : Repository g.row.A.Denot = repository_of settings c.args.store.now in
    let next : Repository g.row.A.Denot = repository_of settings c.handle_prepared.new.store in
    let told : c.from_residual-in_err-keep_reply.result ≡ Err NoMemory = search rules in
    λ parts made. subst (λ result. PartsGive (run_of c.args.source repo parts) next result) (sym told)
    (inl refl)

pub returns-clause-gives : goal.returns-clause-gives
returns-clause-gives g c =
    let all = c.args.prepared in
    let settings = c.args.settings.now in
    let repo : Repository g.row.A.Denot = repository_of settings c.args.store.now in
    let progress : Progress g.row.A.Denot = record {
      repo = repository_of settings c.loop-part.store;
      replying = c.loop-part.replying;
      replies = c.loop-part.replies;
      handled = c.loop-part.handled.items;
    } in
    let none = c.in_default.ensures.none in
    let reached = subst (λ (left : List (Prepared g.row.A.Denot)).
    IsReachedBy c.args.source repo all left c.loop-part.place progress)
    none c.loop-part.invariant.reached in
    λ parts made. all_handled c.args.source repo all c.loop-part.place progress reached parts made
    ∙ ap (λ ns. Ok (progress.repo, record { replies = progress.replies; handled = ns })) (sym c.from_vec.ensures)
