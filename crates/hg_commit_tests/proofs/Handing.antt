-- What is handed in of a push whose bundle was received.
use Rattle.std.proofs.Common.{ℕ, ◌≡◌, ◌≤◌, ◌+◌, ◌-◌, List, Option, Some, None, refl, sym, ◌∙◌, ap, subst, arith, rules}
use Rattle.std.specs.Prelude.{IfSome}
use Rattle.hg_types.specs.declared.limits.Limits.{Limits}
use Rattle.hg_types.specs.declared.part.Part.{Part}
use Rattle.hg_parts.specs.declared.item.Taken.{Taken}
use Rattle.hg_repo.specs.declared.done.Done.{Done}
use Rattle.hg_parts.specs.declared.refusal.Refusal.{Refusal}
use Rattle.hg_stream.specs.Faults.{StateTells}
use Rattle.hg_stream.specs.Frames.{IsBundle}
use Rattle.hg_push.specs.declared.outcome.Outcome.{Outcome}
use Rattle.hg_push.specs.declared.outcome.Outcome.TheVariants.{Done as done_with, Aborted}
use Rattle.hg_push.specs.declared.outcome.Reason.{Reason}
use Rattle.hg_push.specs.History.{parts as ran_parts}
use Rattle.hg_push.specs.Places.{IsPlace, RestsOn}
use Rattle.hg_push.specs.Run.{RepositoryOf, run_push}
use Rattle.hg_serve.specs.Answers.{Answers}
use Rattle.hg_serve.specs.Clients.{AwaitingView, PutsItsMark, SenderView}
use Rattle.hg_serve.specs.Histories.{newest_first}
use Rattle.hg_connection.specs.Devices.{Input}
use Rattle.hg_connection.specs.declared.bundle_end.BundleEnd.{BundleEnd}
use Rattle.hg_connection.specs.Receiving.{mark_of, state_at}
use Rattle.hg_connection.specs.Keeping.{ReceivesKept}
use Rattle.hg_connection.proofs.CallerLemmas.{answers_bundle, done_whole}
use Rattle.hg_commit.specs.Clients.{KeptSeen}
use Rattle.hg_commit.specs.Orders.{HasGrown, ReceiptView}
use Rattle.hg_commit.specs.Records.{IsRecordOf, done_in}

-- these bytes are the record of the last of so many pushes
abbrev IsHandedIn : {A : Type 0} → RepositoryOf A → List (Taken A) → ℕ → List ℕ → Type 0
IsHandedIn first after rests bytes = (1 ≤ rests) × IsRecordOf first after (rests - 1) bytes

module _ {A : Type 0} (limits : Limits) (capacity : ℕ) (first : RepositoryOf A) (waited waiting : List ℕ)
    (input left : Input) (s new : SenderView A) (ending : BundleEnd) (kept : List ℕ) (e : AwaitingView A)
    (takes : ℕ) (after : List (Taken A)) (rests : ℕ)
    (r : ReceivesKept limits waited waiting input left s new ending kept)
    (m : PutsItsMark new (mark_of ending) e) (same : limits ≡ first.settings.limits)
  where
    of_done : (done : Done A) → Answers capacity first e.push e.put e.history (done_with done) takes after
        → RestsOn run_push first (newest_first after) e.push (done_with done) rests
        → IsHandedIn first after rests kept
    of_done done a on =
        let w = done_whole capacity first s.putter.push r.is.parts ending s.history done takes after
        (answers_bundle capacity first s new r.is.parts ending e (done_with done) takes after r.is.put m a) in
        let mine = subst (λ (p : ℕ). RestsOn run_push first (newest_first after) p (done_with done) rests)
        (m.push ∙ r.is.put.push) on in
        let is : rests ≡ mine.0 + 1 = mine.2 in
        let back : mine.0 ≡ rests - 1 = omega (arith, is) in
        let tells : IsBundle limits r.is.bundle.consumed r.is.parts = subst
        (λ (x : BundleEnd). StateTells (state_at x) limits r.is.bundle.consumed r.is.parts) w.0 r.is.bundle.received.tells in
        subst (λ (bytes : List ℕ). IsHandedIn first after rests bytes) (sym (r.kept_is w.0)) (
          omega (arith, is),
          record {
            push = s.putter.push;
            at = subst (λ (k : ℕ). IsPlace run_push first (newest_first after) s.putter.push k) back mine.1;
            bundle = subst (λ (l : Limits). IsBundle l r.is.bundle.consumed (ran_parts s.putter.push (newest_first after))) same
                (subst (λ (ps : List (Part A)). IsBundle limits r.is.bundle.consumed ps) (sym w.1) tells);
          },
        )

    -- it is the record of a done push, and there is none where the push is aborted
    pub handed : (client : KeptSeen A) (receipt : ReceiptView)
        → (let has : KeptSeen A = record { history = after; receipt = receipt } in client ≡ has)
        → (how : Outcome (Done A) (Refusal A)) (bundle : Option (List ℕ))
        → ((done : Done A) → how ≡ done_with done → bundle ≡ Some kept)
        → ((reason : Reason (Refusal A)) → how ≡ Aborted reason → bundle ≡ None)
        → Answers capacity first e.push e.put e.history how takes after
        → RestsOn run_push first (newest_first after) e.push how rests
        → IfSome bundle (λ bytes. IsHandedIn first client.history rests bytes)
    handed client receipt has (done_with done) bundle done_is aborted_is a on =
        let seen : after ≡ client.history = sym (ap (λ (v : KeptSeen A). v.history) has) in
        let there : IfSome (Some kept) (λ bytes. IsHandedIn first client.history rests bytes) =
        subst (λ (h : List (Taken A)). IsHandedIn first h rests kept) seen (of_done done a on) in
        subst (λ (o : Option (List ℕ)). IfSome o (λ bytes. IsHandedIn first client.history rests bytes))
        (sym (done_is done refl)) there
    handed client receipt has (Aborted reason) bundle done_is aborted_is a on =
        let none : IfSome None (λ (bytes : List ℕ). IsHandedIn first client.history rests bytes) = search rules in
        subst (λ (o : Option (List ℕ)). IfSome o (λ bytes. IsHandedIn first client.history rests bytes))
        (sym (aborted_is reason refl)) none

-- what a client had it still has, which it was made of again
pub grown : {A : Type 0} (before : KeptSeen A) (after : List (Taken A)) (had : ReceiptView) (client now : KeptSeen A)
    → (let has : KeptSeen A = record { history = after; receipt = had } in client ≡ has)
    → had ≡ before.receipt → HasGrown client.receipt now.receipt → HasGrown before.receipt now.receipt
grown {A} before after had client now has same grows =
    subst (λ (r : ReceiptView). HasGrown r now.receipt) (ap (λ (v : KeptSeen A). v.receipt) has ∙ same) grows

-- so many pushes are done in what the client has seen, after its record was handed in too
pub within : {A : Type 0} (first : RepositoryOf A) (after : List (Taken A)) (had : ReceiptView)
    (client now : KeptSeen A) (rests : ℕ)
    → (let has : KeptSeen A = record { history = after; receipt = had } in client ≡ has)
    → now.history ≡ client.history → rests ≤ done_in first after → rests ≤ done_in first now.history
within {A} first after had client now rests has same few =
    subst (λ (h : List (Taken A)). rests ≤ done_in first h) (sym (same ∙ ap (λ (v : KeptSeen A). v.history) has)) few
