-- One bundle, from its bytes to its receipt and its reply.
use Rattle.std.proofs.Common.{ℕ, ◌≡◌, ◌≤◌, ◌+◌, ◌-◌, List, refl, sym, ◌∙◌, subst, arith, rules}
use Rattle.std.specs.Prelude.{Bool, true, IfErr, IfOk, IfSome, Some, option_to_list, Result, Ok, Err}
use Rattle.hg_types.specs.declared.limits.Limits.{Limits}
use Rattle.hg_types.specs.declared.part.Part.{Part}
use Rattle.hg_parts.specs.declared.item.Taken.{Taken}
use Rattle.hg_repo.specs.declared.done.Done.{Done}
use Rattle.hg_parts.specs.declared.refusal.Refusal.{Refusal}
use Rattle.hg_stream.specs.Frames.{IsBundle}
use Rattle.hg_push.specs.declared.outcome.Outcome.{Outcome}
use Rattle.hg_push.specs.declared.outcome.Outcome.TheVariants.{Done as done_with, Aborted}
use Rattle.hg_push.specs.History.{parts as ran_parts}
use Rattle.hg_push.specs.Places.{IsPlace, RestsOn}
use Rattle.hg_push.specs.Reply.{CanBeTold}
use Rattle.hg_push.specs.Run.{RepositoryOf, run_push}
use Rattle.hg_serve.specs.Answers.{Answers}
use Rattle.hg_serve.specs.Clients.{SenderView, AwaitingView, PutsItsMark}
use Rattle.hg_serve.specs.Histories.{newest_first}
use Rattle.hg_store.specs.Entries.{Entry, Stamp}
use Rattle.hg_store.specs.declared.head.Head.{Head}
use Rattle.hg_connection.specs.Devices.{Input}
use Rattle.hg_commit.specs.Clients.{IsCovered, IsGranted, KeptSeen, KeptView}
use Rattle.hg_commit.specs.Orders.{HasBeat, ReceiptView}
use Rattle.hg_commit.specs.Records.{IsRecordOf}
use Rattle.hg_connection.specs.declared.bundle_end.BundleEnd.{BundleEnd}
use Rattle.hg_connection.specs.Receiving.{mark_of, push_items, state_at}
use Rattle.hg_connection.specs.Keeping.{ReceivesKept}
use Rattle.hg_stream.specs.Faults.{StateTells}
use Rattle.hg_connection.proofs.CallerLemmas.{answers_bundle, done_whole}
use Rattle.hg_durable.specs.Kept.{AreRecorded, IsKeptExchange, IsKeptOrNot, KeepsBundle, KeptExchange, MayBeTold}
use Rattle.hg_durable.specs.Kept.{OpenedView, record_of}

module _ {A : Type 0} (limits : Limits) (capacity : ℕ) (first : RepositoryOf A) (waited waiting : List ℕ)
    (input left : Input) (s new : SenderView A) (ending : BundleEnd) (kept : List ℕ) (e : AwaitingView A)
    (takes : ℕ) (after : List (Taken A)) (rests : ℕ)
    (r : ReceivesKept limits waited waiting input left s new ending kept)
    (m : PutsItsMark new (mark_of ending) e) (same : limits ≡ first.settings.limits)
  where
    pub answered : (how : Outcome (Done A) (Refusal A))
        → Answers capacity first e.push e.put e.history how takes after
        → Answers capacity first s.putter.push (push_items s.putter.push r.is.parts (mark_of ending)) s.history
        how takes after
    answered how a = answers_bundle capacity first s new r.is.parts ending e how takes after r.is.put m a

    pub rested : (how : Outcome (Done A) (Refusal A))
        → RestsOn run_push first (newest_first after) e.push how rests
        → RestsOn run_push first (newest_first after) s.putter.push how rests
    rested how on = subst (λ (p : ℕ). RestsOn run_push first (newest_first after) p how rests)
        (m.push ∙ r.is.put.push) on

    done_recorded : (done : Done A) → Answers capacity first e.push e.put e.history (done_with done) takes after
        → RestsOn run_push first (newest_first after) e.push (done_with done) rests
        → (stamp : Stamp)
        → (1 ≤ rests) × IsRecordOf first after (rests - 1) (record { stamp = stamp; bundle = r.is.bundle.consumed })
    done_recorded done a on stamp =
        let w = done_whole capacity first s.putter.push r.is.parts ending s.history done takes after
        (answered (done_with done) a) in
        let at = (rested (done_with done) on).1 in
        let is : rests ≡ (rested (done_with done) on).0 + 1 = (rested (done_with done) on).2 in
        let back : (rested (done_with done) on).0 ≡ rests - 1 = omega (arith, is) in
        let tells : IsBundle limits r.is.bundle.consumed r.is.parts = subst
        (λ (x : BundleEnd). StateTells (state_at x) limits r.is.bundle.consumed r.is.parts) w.0 r.is.bundle.received.tells in (
          omega (arith, is),
          record {
            push = s.putter.push;
            at = subst (λ (k : ℕ). IsPlace run_push first (newest_first after) s.putter.push k) back at;
            bundle = subst (λ (l : Limits). IsBundle l r.is.bundle.consumed (ran_parts s.putter.push (newest_first after))) same
                (subst (λ (ps : List (Part A)). IsBundle limits r.is.bundle.consumed ps) (sym w.1) tells);
          },
        )

    pub recorded : (how : Outcome (Done A) (Refusal A))
        → Answers capacity first e.push e.put e.history how takes after
        → RestsOn run_push first (newest_first after) e.push how rests
        → (stamp : Stamp) → AreRecorded first after rests
        (option_to_list (record_of how (record { stamp = stamp; bundle = r.is.bundle.consumed })))
    recorded (done_with done) a on stamp = done_recorded done a on stamp
    recorded (Aborted reason) a on stamp = tt

    -- the bundle of a done push is what was kept of it
    pub hands_in : (how : Outcome (Done A) (Refusal A))
        → Answers capacity first e.push e.put e.history how takes after → (stamp : Stamp)
        → record_of how (record { stamp = stamp; bundle = kept })
        ≡ record_of how (record { stamp = stamp; bundle = r.is.bundle.consumed })
    hands_in (done_with done) a stamp =
        let w = done_whole capacity first s.putter.push r.is.parts ending s.history done takes after
        (answered (done_with done) a) in
        λ i. Some (record { stamp = stamp; bundle = r.kept_is w.0 i })
    hands_in (Aborted reason) a stamp = refl

    -- what is handed in
    pub handed : (how : Outcome (Done A) (Refusal A))
        → Answers capacity first e.push e.put e.history how takes after
        → RestsOn run_push first (newest_first after) e.push how rests
        → (stamp : Stamp) → IfSome (record_of how (record { stamp = stamp; bundle = kept }))
        (λ entry. (1 ≤ rests) × IsRecordOf first after (rests - 1) entry)
    handed (done_with done) a on stamp =
        let w = done_whole capacity first s.putter.push r.is.parts ending s.history done takes after
        (answered (done_with done) a) in
        subst (λ (bytes : List ℕ). (1 ≤ rests)
        × IsRecordOf first after (rests - 1) (record { stamp = stamp; bundle = bytes }))
        (sym (r.kept_is w.0)) (done_recorded done a on stamp)
    handed (Aborted reason) a on stamp = search rules

-- what its client has seen then, where so many done pushes are kept for it, or where the store failed
abbrev pub client_of : {A E : Type 0} → Result (KeptView A) (KeptSeen A × E) → KeptSeen A
client_of (Ok kept) = kept.client
client_of (Err back) = back.0

module _ {A D E : Type 0} (seen : D → List ℕ) (may_leave : D → List ℕ → Type 0) (moment : D → ℕ) (head : Head)
    (stored : List Entry) (first : RepositoryOf A) (before : KeptSeen A) (rests : ℕ) (handed_in : List Entry)
    (beats : Bool)
  where
    pub granted : (kept : Result (KeptView A) (KeptSeen A × E))
        → IfOk kept (λ k. (k.rests ≡ rests) × (k.handed ≡ handed_in) × IsGranted before k.client
        × IsCovered seen may_leave moment head stored first k.client rests)
        → IfErr kept (λ back. IsGranted before back.0) → IsGranted before (client_of kept)
    granted (Ok kept) is failed = is.2
    granted (Err back) is failed = failed

    pub kept_or_not : (kept : Result (KeptView A) (KeptSeen A × E))
        → IfOk kept (λ k. (k.rests ≡ rests) × (k.handed ≡ handed_in) × IsGranted before k.client
        × IsCovered seen may_leave moment head stored first k.client rests)
        → (beats ≡ true → IfOk kept (λ k. HasBeat before.receipt k.client.receipt rests))
        → IsKeptOrNot seen may_leave moment head stored first beats before.receipt (client_of kept) rests handed_in kept
    kept_or_not (Ok kept) is beat = (
      λ i. record { client = kept.client; rests = is.0 i; handed = is.1 i },
      record { is_covered = is.3; has_beat = beat },
    )
    kept_or_not (Err back) is beat = refl

-- what holds of a push that was opened so holds of it by another view of it
pub kept_on : {A : Type 0} (limits : Limits) (capacity : ℕ) (first : RepositoryOf A) (waited waiting : List ℕ)
    (input left : Input) (opened other : OpenedView A) (stamp : Stamp) (x : KeptExchange A) → opened ≡ other
    → KeepsBundle limits capacity first waited waiting input left opened stamp x
    → KeepsBundle limits capacity first waited waiting input left other stamp x
kept_on {A} limits capacity first waited waiting input left opened other stamp x same is =
    subst (λ (o : OpenedView A). KeepsBundle limits capacity first waited waiting input left o stamp x) same is

-- its reply may be told by what is kept
pub may_be_told : {A D E : Type 0} (seen : D → List ℕ) (may_leave : D → List ℕ → Type 0) (moment : D → ℕ) (head : Head)
    (stored : List Entry) (limits : Limits) (capacity : ℕ) (first : RepositoryOf A) (before : KeptSeen A)
    (waited : List ℕ) (x : KeptExchange A) (how : Outcome (Done A) (Refusal A))
    (kept : Result (KeptView A) (KeptSeen A × E)) (beats : Bool) (asked : ReceiptView)
    → IsKeptExchange limits capacity first before waited x → x.how ≡ how
    → IsKeptOrNot seen may_leave moment head stored first beats asked x.after x.rests x.handed kept
    → IfOk kept (λ k. MayBeTold first how k)
may_be_told {A} seen may_leave moment head stored limits capacity first before waited x how (Ok kept) beats asked is same
    all = record {
      push = x.push;
      rests_on = subst (λ (y : KeptView A × Outcome (Done A) (Refusal A)). RestsOn run_push first
          (newest_first y.0.client.history) x.push y.1 y.0.rests) (λ i. (sym all.0 i, same i)) is.rests_on;
      told = subst (λ (h : Outcome (Done A) (Refusal A)). CanBeTold h) same is.answers.told;
    }
may_be_told seen may_leave moment head stored limits capacity first before waited x how (Err back) beats asked is same
    all = tt
