-- Lemmas for callers: what the answer to a bundle's push says of the bundle.
use Rattle.std.proofs.Common.{ℕ, ◌≡◌, ◌≤◌, List, [], ◌∷◌, ◌++◌, refl, sym, ◌∙◌, ap, subst, length}
use Rattle.hg_types.specs.declared.limits.Limits.{Limits}
use Rattle.hg_types.specs.Limits.{IsAllowed}
use Rattle.hg_types.specs.declared.part.Part.{Part}
use Rattle.hg_parts.specs.declared.item.Item.{Item}
use Rattle.hg_parts.specs.declared.item.Taken.{Taken}
use Rattle.hg_parts.specs.declared.item.What.TheVariants.{End}
use Rattle.hg_repo.specs.declared.done.Done.{Done}
use Rattle.hg_parts.specs.declared.refusal.Refusal.{Refusal}
use Rattle.hg_push.specs.declared.outcome.Outcome.{Outcome}
use Rattle.hg_push.specs.declared.outcome.Outcome.TheVariants.{Done as done_with}
use Rattle.hg_push.specs.History.{parts as ran_parts}
use Rattle.hg_push.specs.Lengths.{greatest_reply}
use Rattle.hg_push.specs.Reply.{reply_of}
use Rattle.hg_push.specs.Run.{RepositoryOf}
use Rattle.hg_queue.specs.Words.{next_item}
use Rattle.hg_serve.specs.Answers.{Answers}
use Rattle.hg_serve.specs.Clients.{SenderView, AwaitingView, PutsItsMark, GoesOn}
use Rattle.hg_serve.specs.Histories.{newest_first}
use Rattle.hg_connection.specs.Devices.{ReadAnswer, Gave}
use Rattle.hg_connection.specs.declared.bundle_end.BundleEnd.{BundleEnd}
use Rattle.hg_connection.specs.declared.bundle_end.BundleEnd.TheVariants.{Whole}
use Rattle.hg_connection.specs.Receiving.{IsPiece, IsReceived, mark_of, part_items, push_items}
use Rattle.hg_connection.proofs.ReceivingLemmas.{AbortedAreShort, DoneAreShort, PartsAreFew, end_whole}
use Rattle.hg_connection.proofs.ReceivingLemmas.{items_length, mark_empty, put_parts}
use Rattle.hg_connection.proofs.Exchanges.{received_read}
use Rattle.hg_connection.proofs.Shortness.{reply_short}

-- the push that was answered put the bundle's parts and the mark that the ending asks for
pub answers_bundle : {A : Type 0} (capacity : ℕ) (first : RepositoryOf A) (s new : SenderView A)
    (parts : List (Part A)) (ending : BundleEnd) (e : AwaitingView A) (how : Outcome (Done A) (Refusal A))
    (takes : ℕ) (after : List (Taken A)) → GoesOn s new (part_items s.putter.push 0 parts)
    → PutsItsMark new (mark_of ending) e → Answers capacity first e.push e.put e.history how takes after
    → Answers capacity first s.putter.push (push_items s.putter.push parts (mark_of ending)) s.history how
    takes after
answers_bundle {A} capacity first s new parts ending e how takes after put m a =
    let push' : e.push ≡ s.putter.push = m.push ∙ put.push in
    let count : length new.putter.put ≡ length parts = ap (λ (l : List (Item A)). length l) put.put_is
    ∙ items_length s.putter.push 0 parts in
    let item : next_item new.putter (mark_of ending) ≡ record {
      push = s.putter.push;
      index = length parts;
      what = mark_of ending;
    } = λ i.
    record { push = put.push i; index = count i; what = mark_of ending } in
    let put' : e.put ≡ push_items s.putter.push parts (mark_of ending) = m.put
    ∙ (λ i. put.put_is i ++ item i ∷ []) in
    let history' : e.history ≡ s.history = m.history ∙ put.history in
    subst (λ (y : ℕ × List (Item A) × List (Taken A)). Answers capacity first y.0 y.1 y.2 how takes after)
    (λ i. (push' i, put' i, history' i)) a

last_same : {X : Type 0} (xs ys : List X) (x y : X) → xs ++ x ∷ [] ≡ ys ++ y ∷ [] → x ≡ y
last_same [] [] x y e = cc
last_same [] (z ∷ []) x y e = absurd cc
last_same [] (z ∷ w ∷ ys) x y e = absurd cc
last_same (w ∷ []) [] x y e = absurd cc
last_same (w ∷ v ∷ xs) [] x y e = absurd cc
last_same (w ∷ xs) (z ∷ ys) x y e = let r : xs ++ x ∷ [] ≡ ys ++ y ∷ [] = cc in last_same xs ys x y r

-- where the push is done, the bundle was read to its end mark, and its parts were run
pub done_whole : {A : Type 0} (capacity : ℕ) (first : RepositoryOf A) (push : ℕ) (parts : List (Part A))
    (ending : BundleEnd) (before : List (Taken A)) (done : Done A) (takes : ℕ) (after : List (Taken A))
    → Answers capacity first push (push_items push parts (mark_of ending)) before (done_with done) takes after
    → (ending ≡ Whole) × (ran_parts push (newest_first after) ≡ parts)
done_whole {A} capacity first push parts ending before done takes after a =
    let c = a.complete done refl in
    let m = c.mark in
    let same : m.mark ≡ record { push = push; index = length parts; what = mark_of ending } =
    last_same m.front (part_items push 0 parts) m.mark
    (record { push = push; index = length parts; what = mark_of ending }) (sym m.spelled) in
    let is : mark_of ending ≡ End = sym (ap (λ (x : Item A). x.what) same) ∙ m.is_end in
    (end_whole ending is, c.parts ∙ put_parts push 0 (length parts) parts (mark_of ending) (mark_empty ending))

pub bundle_reply_short : {A : Type 0} → DoneAreShort A → AbortedAreShort A → PartsAreFew A
    → (limits : Limits) (capacity : ℕ) (first : RepositoryOf A) (waited : List ℕ) (reads : List ReadAnswer)
    (ending : BundleEnd) (parts : List (Part A)) (consumed rest : List ℕ) (push : ℕ) (before : List (Taken A))
    (how : Outcome (Done A) (Refusal A)) (takes : ℕ) (after : List (Taken A))
    → IsAllowed limits → IsReceived limits waited reads ending parts consumed rest
    → Answers capacity first push (push_items push parts (mark_of ending)) before how takes after
    → length (reply_of how) ≤ greatest_reply
bundle_reply_short done_short aborted_short few limits capacity first waited reads ending parts consumed rest
    push before how takes after allowed received answers =
    reply_short done_short aborted_short few limits capacity first waited reads ending parts consumed rest push
    before how takes after allowed received answers

-- a bundle that was received after a piece was received by the read that gave the piece, and by those after it
pub received_with : {A : Type 0} (limits : Limits) (piece : List ℕ) (reads : List ReadAnswer) (ending : BundleEnd)
    (parts : List (Part A)) (consumed rest : List ℕ) → IsPiece piece
    → IsReceived limits piece reads ending parts consumed rest
    → IsReceived limits [] (Gave piece ∷ reads) ending parts consumed rest
received_with limits piece reads ending parts consumed rest is r =
    received_read limits piece reads ending parts consumed rest is r
