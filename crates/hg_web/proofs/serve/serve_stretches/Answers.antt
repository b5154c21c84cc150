use Rattle.std.proofs.Common.{Ok, Err, inl, inr, [], refl, ap, subst, ◌∙◌}
use Rattle.std.specs.Io.KnownBytes.{Appends}
use Rattle.std.proofs.lemmas.Result.{err_from_is_err_and}
use Rattle.http_server.specs.History.{new_history}
use Rattle.hg_web.specs.Serving.{no_room_text}
use Rattle.hg_web.specs.declared.serve.Stretch.TheVariants.{Answered, Done, Refused}
use Rattle.hg_web.proofs.Served.{ends_last, ends_plainly, ends_refused, ends_with, is_broken, is_refused, new_served}
use Rattle.hg_web.proofs.Served.{one_answered, one_refused}
use Rattle.hg_web.proofs.Stretches.{ended_as, went_none, went_told}
use Rattle.hg_web.proofs.serve.serve_stretches.Goals.{in-Answered, in-Refused+in_ok-refuse-in-Refused+else-branch}
use Rattle.hg_web.proofs.serve.serve_stretches.Goals as goal

pub returns-in_err-ended : goal.returns-in_err-ended
returns-in_err-ended g c =
    let e = ended_as _ c.args.config _ _ _ _ _ _ _ _ _ (Err c.in_err-ended.field-0.0) c.new-connection.ensures.config
    c.in_err-ended.was c.serve_stretch-ended.ensures in
    let broke = err_from_is_err_and c.from_residual.result c.from_residual.ensures.1 in
    ends_plainly _ _ _ _ _ _ _ _ _ _ _ _ e.0 c.stretches.invariant e.1
    (went_told _ _ _ _ _ _ _ _ e.0 [] c.give_room_back.ensures e.2)
    (inl (is_broken c.from_residual.result broke.0 tt broke.1))

pub returns-in-Done : goal.returns-in-Done
returns-in-Done g c =
    let e = ended_as _ c.args.config _ _ _ _ _ _ _ _ _ (Ok Done) c.new-connection.ensures.config
    (c.in_ok-ended.was ∙ ap Ok c.in-Done.is) c.serve_stretch-ended.ensures in
    ends_plainly _ _ _ _ _ _ _ _ _ _ _ _ e.0 c.stretches.invariant e.1
    (went_told _ _ _ _ _ _ _ _ e.0 [] c.give_room_back.ensures e.2) (inr (e.3, e.4))

pub returns-in_err-refuse-in-Refused : goal.returns-in_err-refuse-in-Refused
returns-in_err-refuse-in-Refused g c =
    let e = ended_as _ c.args.config _ _ _ _ _ _ _ _ _ (Ok (Refused c.in-Refused.is_whole)) c.new-connection.ensures.config
    (c.in_ok-ended.was ∙ ap Ok c.in-Refused.is) c.serve_stretch-ended.ensures in
    let f = c.serve_stretch-ended.new.follower in
    let w = c.in-Refused.is_whole in
    let r = c.in_err-refuse-in-Refused.ensures in
    let result = c.from_residual-in_err-refuse-in-Refused.result in
    let broke = err_from_is_err_and result c.from_residual-in_err-refuse-in-Refused.ensures.1 in
    ends_with _ _ _ _ _ _ _ _ _ _ _ _ _ _ e.0 e.2.0 r.0 r.1 c.stretches.invariant e.1
    (went_told _ _ _ _ _ _ _ _ e.0 e.2.0 c.give_room_back.ensures e.2.1) r.2 r.3
    (ends_refused _ c.args.config e.0 e.2.0 r.0 w f r.1 (is_broken result broke.0 tt broke.1) e.1 e.2.2 r.4)

pub returns-then-branch : goal.returns-then-branch
returns-then-branch g c =
    let e = ended_as _ c.args.config _ _ _ _ _ _ _ _ _ (Ok (Refused c.in-Refused.is_whole)) c.new-connection.ensures.config
    (c.in_ok-ended.was ∙ ap Ok c.in-Refused.is) c.serve_stretch-ended.ensures in
    let f = c.serve_stretch-ended.new.follower in
    let w = c.in-Refused.is_whole in
    let r = c.in_ok-refuse-in-Refused.ensures in
    ends_with _ _ _ _ _ _ _ _ _ _ _ _ _ _ e.0 e.2.0 r.0 r.1 c.stretches.invariant e.1
    (went_told _ _ _ _ _ _ _ _ e.0 e.2.0 c.give_room_back.ensures e.2.1) r.2 r.3
    (ends_last _ c.args.config e.0 e.2.0 r.0 w f r.1 e.1 e.2.2 r.4.0 (r.4.1 ∙ ap no_room_text c.if-branch.true))

pub stretches-preserved : goal.stretches-preserved
stretches-preserved g c =
    let f = c.serve_stretch-ended.new.follower in
    elim c.match-branch-2.branch [
      | in-Answered w ↦
          let e = ended_as _ c.args.config _ _ _ _ _ _ _ _ _ (Ok Answered) c.new-connection.ensures.config
          (c.in_ok-ended.was ∙ ap Ok w.in-Answered.is) c.serve_stretch-ended.ensures in
          rw (w.reader-is, w.writer-is)
          (one_answered _ _ _ _ _ _ _ _ _ _ _ e.0 c.stretches.invariant e.3
          (went_told _ _ _ _ _ _ _ _ e.0 [] c.give_room_back.ensures e.2))
      | in-Refused+in_ok-refuse-in-Refused+else-branch w ↦
          let e = ended_as _ c.args.config _ _ _ _ _ _ _ _ _ (Ok (Refused w.in-Refused.is_whole))
          c.new-connection.ensures.config (c.in_ok-ended.was ∙ ap Ok w.in-Refused.is) c.serve_stretch-ended.ensures in
          let whole = w.in-Refused.is_whole in
          let r = w.in_ok-refuse-in-Refused.ensures in
          rw (w.reader-is, w.writer-is)
          (one_refused _ _ _ _ _ _ _ _ _ _ _ _ _ e.0 e.2.0 r.0 c.stretches.invariant
          (is_refused c.args.config e.0 e.2.0 r.0 whole f e.1 e.2.2 r.4.0)
          (went_told _ _ _ _ _ _ _ _ e.0 e.2.0 c.give_room_back.ensures e.2.1) r.2
          (subst (λ text. Appends (g.W.Write.contents c.serve_stretch-ended.new.writer) (g.W.Write.contents w.refuse.new.writer)
          text) (r.4.1 ∙ ap no_room_text w.if-branch.false) r.3))
    ]

pub returns : goal.returns
returns g c =
    ends_plainly _ _ _ _ _ _ _ _ _ _ _ _ new_history c.stretches.invariant ∣ new_served _ ∣₁
    (went_none _ _ _ _ new_history refl) (inl (λ is. cc))
