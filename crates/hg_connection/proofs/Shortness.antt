-- The reply to a bundle's push is short: its parts are few.
use Rattle.std.proofs.Common.{ℕ, ◌≡◌, ◌≤◌, List, refl, ap, arith, length}
use Rattle.hg_types.specs.declared.part.Part.{Part}
use Rattle.hg_types.specs.declared.limits.Limits.{Limits}
use Rattle.hg_parts.specs.declared.item.Item.{Item}
use Rattle.hg_parts.specs.declared.item.Taken.{Taken}
use Rattle.hg_types.specs.Limits.{IsAllowed}
use Rattle.hg_repo.specs.declared.done.Done.{Done}
use Rattle.hg_parts.specs.declared.refusal.Refusal.{Refusal}
use Rattle.hg_push.specs.declared.outcome.Outcome.{Outcome}
use Rattle.hg_push.specs.declared.outcome.Outcome.TheVariants.{Done as done_with, Aborted}
use Rattle.hg_push.specs.History.{parts as ran_parts}
use Rattle.hg_push.specs.Lengths.{greatest_reply, most_parts}
use Rattle.hg_push.specs.Reply.{reply_of}
use Rattle.hg_push.specs.Run.{RepositoryOf}
use Rattle.hg_push.specs.World.{all_parts}
use Rattle.hg_serve.specs.Answers.{Answers}
use Rattle.hg_serve.specs.Histories.{newest_first}
use Rattle.hg_connection.specs.declared.bundle_end.BundleEnd.{BundleEnd}
use Rattle.hg_connection.specs.Receiving.{IsReceived, mark_of, push_items, state_at}
use Rattle.hg_connection.specs.Devices.{ReadAnswer}
use Rattle.hg_connection.proofs.ReceivingLemmas.{AbortedAreShort, DoneAreShort, PartsAreFew, mark_empty, put_parts}

answer_short : {A : Type 0} → DoneAreShort A → AbortedAreShort A
    → (capacity : ℕ) (first : RepositoryOf A) (push : ℕ) (put : List (Item A)) (before : List (Taken A))
    (how : Outcome (Done A) (Refusal A)) (takes : ℕ) (after : List (Taken A))
    → Answers capacity first push put before how takes after
    → length (all_parts put) ≤ most_parts → length (reply_of how) ≤ greatest_reply
answer_short {A} done_short aborted_short capacity first push put before (done_with done) takes after a few =
    let all = (a.complete done refl).parts in
    let ran : length (ran_parts push (newest_first after)) ≡ length (all_parts put) =
    ap (λ (ps : List (Part A)). length ps) all in
    done_short first push (newest_first after) done a.ended a.told (omega (arith, ran, few))
answer_short done_short aborted_short capacity first push put before (Aborted reason) takes after a few =
    aborted_short reason

pub reply_short : {A : Type 0} → DoneAreShort A → AbortedAreShort A → PartsAreFew A
    → (limits : Limits) (capacity : ℕ) (first : RepositoryOf A) (waited : List ℕ) (reads : List ReadAnswer)
    (ending : BundleEnd) (parts : List (Part A)) (consumed rest : List ℕ) (push : ℕ) (before : List (Taken A))
    (how : Outcome (Done A) (Refusal A)) (takes : ℕ) (after : List (Taken A))
    → IsAllowed limits → IsReceived limits waited reads ending parts consumed rest
    → Answers capacity first push (push_items push parts (mark_of ending)) before how takes after
    → length (reply_of how) ≤ greatest_reply
reply_short {A} done_short aborted_short few limits capacity first waited reads ending parts consumed rest
    push before how takes after allowed received answers =
    let count : length parts ≤ limits.parts = few limits (state_at ending) consumed parts received.tells in
    let limit : limits.parts ≤ 10000 = allowed.parts.1 in
    let put = push_items push parts (mark_of ending) in
    let all = put_parts push 0 (length parts) parts (mark_of ending) (mark_empty ending) in
    let same : length (all_parts put) ≡ length parts = ap (λ (ps : List (Part A)). length ps) all in
    let at_most : length (all_parts put) ≤ most_parts = omega (arith, count, limit, same) in
    answer_short done_short aborted_short capacity first push put before how takes after answers at_most
