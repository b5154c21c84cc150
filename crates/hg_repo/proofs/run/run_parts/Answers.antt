use Rattle.std.proofs.Common.{◌≡◌, ◌∙◌, ◌+◌, ℕ, List, length, inl, inr, Ok, Err, sym, ap, subst, arith}
use Rattle.std.proofs.lemmas.Result.{err_from_is_err_and}
use Rattle.std.proofs.Common.{◌||◌}
use Rattle.std.proofs.lemmas.Bool.{or_left}
use Rattle.hg_types.specs.declared.part.Part.{Part}
use Rattle.hg_parts.specs.Repository.{Repository}
use Rattle.hg_parts.specs.PartTypes.{is_reply_caps, support_of}
use Rattle.hg_parts.specs.Handled.{Handled}
use Rattle.hg_parts.specs.Store.{repository_of}
use Rattle.hg_parts.proofs.CallerLemmas.{grown_on}
use Rattle.hg_repo.specs.Run.{Progress, run_of}
use Rattle.hg_repo.specs.code.Runs.{PartsGive}
use Rattle.hg_repo.specs.Replies.{AreReplies}
use Rattle.hg_repo.proofs.Runs.{IsReached, reached_more, reached_refused, reached_end}
use Rattle.hg_repo.proofs.Replies.{one_more}
use Rattle.hg_repo.proofs.run.run_parts.Goals as goal
use Rattle.hg_repo.proofs.run.run_parts.Goals.{then-replying, else-replying}

pub loop-place-preserved : goal.loop-place-preserved
loop-place-preserved g c =
    let settings = c.args.settings.now in
    let repo : Repository g.row.A.Denot = repository_of settings c.args.store.now in
    let now : Repository g.row.A.Denot = repository_of settings c.loop-place.store in
    let next : Repository g.row.A.Denot = repository_of settings c.handle_part.new.store in
    let part = c.index-parts-place.result in
    let progress : Progress g.row.A.Denot = record {
      repo = now;
      replying = c.loop-place.replying;
      replies = c.loop-place.replies;
      handled = c.loop-place.handled.items;
    } in
    let given : Handled g.row.A.Denot = record { repo = next; reply = c.in_ok-reply.reply } in
    let reached = reached_more c.args.source repo c.args.parts.now c.loop-place.place part progress given
    c.loop-place.invariant.reached c.loop-place-test.true c.index-parts-place.is
    c.in_ok-reply.ensures.gives in
    let replying : (c.loop-place.replying || is_reply_caps (support_of part)) ≡ c.if-replying.replying =
    elim c.if-replying.branch [
      | then-replying w ↦ or_left c.loop-place.replying (is_reply_caps (support_of part)) w.if-replying.true
          ∙ sym w.if-replying.true ∙ sym w.replying-is
      | else-replying w ↦ ap (λ b. b || is_reply_caps (support_of part)) w.if-replying.false
          ∙ sym w.starts_replies-replying.ensures ∙ sym w.replying-is
    ] in
    record {
      sound = c.in_ok-reply.ensures.sound;
      grown = grown_on _ _ _ c.loop-place.invariant.grown c.in_ok-reply.ensures.grown;
      replies = subst (λ (rs : List (Part g.row.A.Denot)). AreReplies (c.loop-place.place + 1) rs)
          (sym c.in_ok-keep_reply.ensures.kept)
          (one_more c.loop-place.place c.loop-place.replies c.in_ok-reply.reply c.loop-place.invariant.replies
          c.in_ok-reply.ensures.reply);
      reached = rw (c.in_ok-keep_reply.ensures.kept, c.push_reserved.ensures.items, sym replying) reached;
      room = omega (arith, c.loop-place.invariant.room, c.push_reserved.ensures.len, c.push_reserved.ensures.capacity);
    }

pub returns-in_err-reply-clause-gives : goal.returns-in_err-reply-clause-gives
returns-in_err-reply-clause-gives g c =
    let settings = c.args.settings.now in
    let repo : Repository g.row.A.Denot = repository_of settings c.args.store.now in
    let next : Repository g.row.A.Denot = repository_of settings c.handle_part.new.store in
    let refusal = c.in_err-reply.field-0.0 in
    let progress : Progress g.row.A.Denot = record {
      repo = repository_of settings c.loop-place.store;
      replying = c.loop-place.replying;
      replies = c.loop-place.replies;
      handled = c.loop-place.handled.items;
    } in
    let p = err_from_is_err_and c.from_residual-in_err-reply.result c.from_residual-in_err-reply.ensures.1 in
    let told : c.from_residual-in_err-reply.result ≡ Err refusal = p.1 ∙ ap Err p.2 in
    subst (λ result. PartsGive (run_of c.args.source repo c.args.parts.now) next result) (sym told)
    (elim c.in_err-reply.ensures.gives [
      | inl none ↦ inl none
      | inr refused ↦ inr (reached_refused c.args.source repo c.args.parts.now c.loop-place.place
          c.index-parts-place.result refusal progress c.loop-place.invariant.reached c.loop-place-test.true
          c.index-parts-place.is refused)
    ])

pub returns-clause-gives : goal.returns-clause-gives
returns-clause-gives g c =
    let settings = c.args.settings.now in
    let repo : Repository g.row.A.Denot = repository_of settings c.args.store.now in
    let progress : Progress g.row.A.Denot = record {
      repo = repository_of settings c.loop-place.store;
      replying = c.loop-place.replying;
      replies = c.loop-place.replies;
      handled = c.loop-place.handled.items;
    } in
    let all : c.loop-place.place ≡ length c.args.parts.now = omega
    (arith, c.loop-place-test.false, c.loop-place.auto.place-end) in
    let reached = subst (λ (n : ℕ). IsReached c.args.source repo c.args.parts.now n progress) all
    c.loop-place.invariant.reached in
    reached_end c.args.source repo c.args.parts.now progress reached
    ∙ ap (λ ps. Ok (progress.repo, record { replies = c.loop-place.replies; handled = ps }))
    (sym c.from_vec.ensures)
