-- A push over HTTP, and what it is answered.
use Rattle.std.specs.Prelude.{ℕ, ◌≡◌, ◌≢◌, ◌⊎◌, ◌++◌, Bool, true, false, ◌&&◌, List, [], ◌∷◌}
use Rattle.std.specs.Prelude.{Option, Some, None, option_to_list, codes, bytes_eq, IfSome, Result, Ok, Err}
use Rattle.std.specs.List.{list_any}
use Rattle.hg_types.specs.declared.part.Part.{Part}
use Rattle.hg_types.specs.declared.part.Param.{Param}
use Rattle.hg_repo.specs.declared.done.Done.{Done}
use Rattle.hg_parts.specs.declared.refusal.Refusal.{Refusal as RunRefusal}
use Rattle.hg_push.specs.declared.outcome.Outcome.{Outcome}
use Rattle.hg_push.specs.declared.outcome.Outcome.TheVariants.{Done as done_with, Aborted}
use Rattle.hg_push.specs.Places.{RestsOn}
use Rattle.hg_push.specs.Reply.{reply_of}
use Rattle.hg_push.specs.Run.{RepositoryOf, run_push}
use Rattle.hg_queue.specs.History.{of, items_of}
use Rattle.hg_serve.specs.Answers.{Answers as IsAnswered}
use Rattle.hg_serve.specs.Histories.{newest_first}
use Rattle.hg_connection.specs.declared.bundle_end.BundleEnd.TheVariants.{InputEnded, ReadFailed}
use Rattle.hg_connection.specs.Receiving.{IsReceived, mark_of, push_items}
use Rattle.hg_store.specs.Entries.{Stamp}
use Rattle.hg_commit.specs.Clients.{IsLater, KeptSeen}
use Rattle.hg_commit.specs.Orders.{HasGrown, ReceiptView}
use Rattle.hg_durable.specs.Kept.{AreRecorded, CatchesUp, KeptExchange, record_of}
use Rattle.hg_http.specs.declared.answer.HttpAnswer.{HttpAnswer}
use Rattle.hg_http.specs.declared.answer.HttpAnswer.TheVariants.{Text, Refused}
use Rattle.hg_http.specs.declared.answer.RequestRefusal.TheVariants.{NotOpened, NoAnswer}
use Rattle.hg_web.specs.declared.push.KeptPush.{KeptPush}

-- how a push ended
abbrev pub How : Type 0 → Type 0
How A = Outcome (Done A) (RunRefusal A)

-- What is said of an answer holds of it. Where the store failed there is none, and the client may have seen more.
abbrev pub Answered : {A E : Type 0} → (KeptSeen A → HttpAnswer A → KeptSeen A → Type 0) →
    KeptSeen A → Result (HttpAnswer A) E → KeptSeen A → Type 0
Answered Says before (Ok answer) after = Says before answer after
Answered Says before (Err e) after = IsLater before after

-- One bundle was pushed: its bytes begin the body, and end before it only after an end mark or a fault. No read of the
-- body failed. It is one push: a request of its client came, the push was opened for it, and no other request of this
-- client came until it was answered. As it was opened, its client had seen as many done pushes as were promised when
-- the request came, to whatever client, or more, and no item of this push. It goes on from that, and ended so. The
-- answer rests on so many done pushes, of which a done one is the last, with its bundle as its record, which was
-- handed in with that stamp; all of these were on the device, and the receipt of its client has a promise of them; with
-- beats this rests on one that began behind the request.
pub record IsPush {A : Type 0} (capacity : ℕ) (first : RepositoryOf A)
    (kept : ReceiptView → KeptSeen A → ℕ → Type 0) (stamp : Stamp) (before : KeptSeen A) (body : List ℕ) (x : KeptExchange A) :
    Type 0
  where
    pub opened : KeptSeen A
    pub catches_up : CatchesUp first before opened
    pub one : x.after.receipt.came ≡ opened.receipt.came
    pub received : IsReceived first.settings.limits [] x.reads x.ending x.parts x.consumed x.rest
    pub fresh : of x.push (items_of opened.history) ≡ []
    pub answers : IsAnswered capacity first x.push (push_items x.push x.parts (mark_of x.ending))
        opened.history x.how x.takes x.after.history
    pub grows : HasGrown opened.receipt x.after.receipt
    pub rests_on : RestsOn run_push first (newest_first x.after.history) x.push x.how x.rests
    pub recorded : AreRecorded first x.after.history x.rests x.handed
    pub handed : x.handed ≡ option_to_list (record_of x.how (record { stamp = stamp; bundle = x.consumed }))
    pub is_kept : kept opened.receipt x.after x.rests
    pub read : x.ending ≢ ReadFailed
    pub behind : List ℕ
    pub body_is : body ≡ x.consumed ++ behind
    pub whole : x.ending ≡ InputEnded → behind ≡ []

-- no push was opened: nothing changed, but that the request may have come, and its client seen what was promised
abbrev pub IsNotOpened : {A : Type 0} → RepositoryOf A → KeptSeen A → KeptSeen A → Type 0
IsNotOpened first before after = (after ≡ before) ⊎ CatchesUp first before after

-- No push was opened; or one was, and ended so. Its reply was made, if there was memory for it.
abbrev pub Pushes : {A : Type 0} → ℕ → RepositoryOf A → (ReceiptView → KeptSeen A → ℕ → Type 0) → Stamp → KeptSeen A →
    List ℕ → Option (KeptPush A) → KeptSeen A → Type 0
Pushes capacity first kept stamp before body None after = IsNotOpened first before after
Pushes {A} capacity first kept stamp before body (Some push) after =
    (x : KeptExchange A) × IsPush capacity first kept stamp before body x × (x.how ≡ push.outcome)
    × (x.after ≡ after) × IfSome push.reply (λ reply. reply ≡ reply_of push.outcome)

-- the same; where the store failed, nothing is answered
abbrev pub PushesOrFails : {A E : Type 0} → ℕ → RepositoryOf A → (ReceiptView → KeptSeen A → ℕ → Type 0) → Stamp → KeptSeen A →
    List ℕ → Result (Option (KeptPush A)) E → KeptSeen A → Type 0
PushesOrFails capacity first kept stamp before body (Ok pushed) after =
    Pushes capacity first kept stamp before body pushed after
PushesOrFails capacity first kept stamp before body (Err e) after = IsLater before after

-- a push that ended so is answered by this text, or there was no memory for the answer
abbrev pub IsReplyTo : {A : Type 0} → (How A → List ℕ) → How A → HttpAnswer A → Type 0
IsReplyTo reply how answer = (answer ≡ Text (reply how)) ⊎ (answer ≡ Refused NoAnswer)

-- the answer is the reply to how the push ended; where none was opened, the refusal that says so
abbrev pub IsReply : {A : Type 0} → (How A → List ℕ) → Option (KeptPush A) → HttpAnswer A → Type 0
IsReply reply None answer = answer ≡ Refused NotOpened
IsReply reply (Some push) answer = IsReplyTo reply push.outcome answer

-- A push of that bundle, with that stamp, was answered: it was not opened; or it was, and the answer reports how it ended.
pub record IsPushAnswered {A : Type 0} (capacity : ℕ) (first : RepositoryOf A)
    (kept : ReceiptView → KeptSeen A → ℕ → Type 0) (stamp : Stamp) (body : List ℕ) (reply : How A → List ℕ) (before : KeptSeen A)
    (answer : HttpAnswer A) (after : KeptSeen A) : Type 0 where
  pub ended : Option (KeptPush A)
  pub pushes : Pushes capacity first kept stamp before body ended after
  pub answer_is : IsReply reply ended answer

-- ---- a push that sets one key

-- the parameter of a reply that says 1
abbrev pub is_one : {A : Type 0} → Param A → Bool
is_one param = bytes_eq param.key (codes "return") && bytes_eq param.value (codes "1")

-- a part of a reply that says 1
abbrev pub says_one : {A : Type 0} → Part A → Bool
says_one part = list_any is_one part.params

-- the push is done, and its reply says that the key was set
abbrev pub is_set : {A : Type 0} → How A → Bool
is_set (done_with done) = list_any says_one done.replies
is_set (Aborted reason) = false

-- `1` or `0`, and a line feed
abbrev pub set_line : Bool → List ℕ
set_line true = 49 ∷ 10 ∷ []
set_line false = 48 ∷ 10 ∷ []

-- the line that says it
abbrev pub key_line : {A : Type 0} → How A → List ℕ
key_line how = set_line (is_set how)
