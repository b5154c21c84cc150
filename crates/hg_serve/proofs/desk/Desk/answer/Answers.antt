use Rattle.std.proofs.Common.{◌≡◌, sym, subst, ◌∙◌, List, Some}
use mathlib.Core.List.{IsPrefix}
use Rattle.hg_parts.specs.declared.item.Taken.{Taken}
use Rattle.hg_queue.specs.History.{of, items_of}
use Rattle.hg_queue.specs.Words.{claim_at, seen}
use Rattle.hg_push.specs.declared.outcome.Outcome.TheVariants.{Aborted}
use Rattle.hg_push.specs.declared.outcome.Reason.TheVariants.{NoMemory}
use Rattle.hg_push.specs.History.{IsHistory}
use Rattle.hg_serve.specs.Answers.{Answers}
use Rattle.hg_serve.specs.Clients.{AwaitingView}
use Rattle.hg_serve.specs.Histories.{newest_first, ending, ClosesLast}
use Rattle.hg_serve.proofs.Dones.{ran_all, handled_all}
use Rattle.hg_serve.proofs.Orders.{prefix_again}
use Rattle.hg_serve.proofs.Waits.{put_prefix, put_all, put_orderly}
use Rattle.hg_serve.proofs.desk.Desk.answer.Goals as goal

pub returns-clause-answers : goal.returns-clause-answers
returns-clause-answers g c =
    let f = c.finish-takes.ensures in
    let r = c.reply-outcome.ensures in
    let push = c.ended.inside.push in
    let claim = claim_at c.ended.inside.marked in
    let first = g.J.Naming.first in
    let how = c.reply-outcome.result in
    let after = seen c.show.new.visitor in
    let same = sym (c.show.ensures.visitor.1 ∙ r.same) in
    let awaits = f.same.awaited ∙ c.begin.ensures.awaits in
    let mine = c.ended.invariant.2 in
    let P : List (Taken g.row.A.Denot) → Type 0 = λ h. IsPrefix (of push (items_of h)) claim.put in
    let Q : List (Taken g.row.A.Denot) → Type 0 = λ h. of push (items_of h) ≡ claim.put in
    let taken' = subst P same
    (put_prefix g.J.Naming.capacity c.finish-takes.new.self push claim awaits mine f.known) in
    let ended' = subst (λ (h : List (Taken g.row.A.Denot)). ending first push h ≡ Some how) same r.outcome in
    let orderly' = put_orderly g.J.Naming.capacity c.finish-takes.new.self push claim awaits mine f.known in
    let law = c.done_had_all_of_its_list.ensures in
    let inner : Answers g.J.Naming.capacity first push claim.put
    (seen c.ended.inside.visitor) how c.finish-takes.result after = record {
      earlier = subst (IsPrefix (seen c.ended.inside.visitor)) same
          (prefix_again _ _ _ c.begin.ensures.earlier f.later);
      taken = taken';
      all = λ isnt. subst Q same
          (put_all c.closed_pushes_have_ended.ensures first g.J.Naming.capacity c.finish-takes.new.self push
          claim awaits mine f.known f.closed
          (λ o. (let both : Some how ≡ Some (Aborted NoMemory) = sym r.outcome ∙ o in
          let is : how ≡ Aborted NoMemory = cc in isnt is)));
      legal = subst (λ (h : List (Taken g.row.A.Denot)). IsHistory (newest_first h)) same r.legal;
      ended = ended';
      complete = ran_all law.complete first push after claim.put how orderly' taken' ended';
      handled = handled_all law.handled first push after claim.put how orderly' taken' ended';
      told = r.told;
      bound = f.takes;
      last = λ some. subst (λ (h : List (Taken g.row.A.Denot)). ClosesLast first push h) same (f.last some);
    } in
    subst (λ (v : AwaitingView g.row.A.Denot). Answers g.J.Naming.capacity first v.push v.put v.history how
    c.finish-takes.result after) c.ended.view_is inner
