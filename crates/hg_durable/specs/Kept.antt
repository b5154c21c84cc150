-- One bundle whose push is kept before it is answered.
use Rattle.std.specs.Prelude.{ℕ, ◌≡◌, ◌≤◌, ◌-◌, ⊤, Bool, List, [], ◌∷◌, ◌++◌, length, Option, Some, None}
use Rattle.std.specs.Prelude.{option_to_list, Result, Ok, Err}
use Rattle.std.specs.Io.KnownBytes.{Appends, Consumes}
use mathlib.Core.List.{IsPrefix}
use Rattle.hg_parts.specs.declared.item.Taken.{Taken}
use Rattle.hg_types.specs.declared.limits.Limits.{Limits}
use Rattle.hg_types.specs.declared.part.Part.{Part}
use Rattle.hg_repo.specs.declared.done.Done.{Done}
use Rattle.hg_parts.specs.declared.refusal.Refusal.{Refusal}
use Rattle.hg_queue.specs.History.{of, items_of}
use Rattle.hg_push.specs.declared.outcome.Outcome.{Outcome}
use Rattle.hg_push.specs.declared.outcome.Outcome.TheVariants.{Done as done_with, Aborted}
use Rattle.hg_push.specs.Lengths.{greatest_reply}
use Rattle.hg_push.specs.Places.{RestsOn}
use Rattle.hg_push.specs.Reply.{CanBeTold, reply_of}
use Rattle.hg_push.specs.Run.{RepositoryOf, run_push}
use Rattle.hg_serve.specs.Answers.{Answers}
use Rattle.hg_serve.specs.Histories.{newest_first}
use Rattle.hg_store.specs.Entries.{Entry, Stamp}
use Rattle.hg_store.specs.declared.head.Head.{Head}
use Rattle.hg_commit.specs.Clients.{IsCovered, IsKept, KeptSeen, KeptView}
use Rattle.hg_commit.specs.Orders.{Comes, HasGrown, ReceiptView}
use Rattle.hg_commit.specs.Records.{done_in, IsRecordOf}
use Rattle.hg_connection.specs.Devices.{Input, Output, ReadAnswer, WriteAnswer, TellsMore}
use Rattle.hg_connection.specs.Sent.{IsSent}
use Rattle.hg_connection.specs.declared.bundle_end.BundleEnd.{BundleEnd}
use Rattle.hg_connection.specs.Receiving.{IsReceived, KeepsWaiting, Ran, mark_of, push_items}
use Rattle.hg_durable.specs.declared.served.KeptRound.{KeptRound}
use Rattle.hg_durable.specs.declared.served.Replied.{Replied}
use Rattle.hg_durable.specs.declared.served.Replied.TheVariants.{Sent, NotStored}

-- the record of a push that ended so, where it is done
abbrev pub record_of : {A : Type 0} → Outcome (Done A) (Refusal A) → Entry → Option Entry
record_of (done_with done) entry = Some entry
record_of (Aborted reason) entry = None

-- A request of a client came, and so many done pushes were promised to be on the device by then, to whatever client.
-- The client has seen a history then that goes on from what it had seen, and has as many done pushes or more.
pub record CatchesUp {A : Type 0} (first : RepositoryOf A) (before after : KeptSeen A) : Type 0 where
  pub promised : ℕ
  pub comes : Comes before.receipt after.receipt promised
  pub earlier : IsPrefix before.history after.history
  pub has_all : promised ≤ done_in first after.history

-- A push that was opened, and its client.
pub record OpenedView (A : Type 0) : Type 0 where
  pub push : ℕ
  pub client : KeptSeen A

-- One bundle whose push is kept before it is answered: how its reader was read, the bytes that are the bundle's and
-- those that were read after them, why no more was read of it, and its parts; its push, how that ended and how many
-- items were taken for it; on how many done pushes its answer rests; the record of it that was handed in to the ledger, if
-- one was; and what its client has seen then, and its receipt.
pub record KeptExchange (A : Type 0) : Type 0 where
  pub reads : List ReadAnswer
  pub consumed : List ℕ
  pub rest : List ℕ
  pub ending : BundleEnd
  pub parts : List (Part A)
  pub push : ℕ
  pub how : Outcome (Done A) (Refusal A)
  pub takes : ℕ
  pub rests : ℕ
  pub handed : List Entry
  pub after : KeptSeen A

-- a record that was handed in is that of the last push that the answer rests on
abbrev pub AreRecorded : {A : Type 0} → RepositoryOf A → List (Taken A) → ℕ → List Entry → Type 0
AreRecorded first after rests [] = ⊤
AreRecorded first after rests (entry ∷ others) =
    (1 ≤ rests) × IsRecordOf first after (rests - 1) entry

-- The bundle was received by these reads, after the bytes that waited. The client had seen no item of the
-- push. Of the push the bundle's parts were put and the mark that the ending asks for, and it was answered so.
-- The answer rests on so many done pushes, the last of which is this one, where it is done; a record that was handed in is
-- that of this one. The promises that the client had it still has, and it has seen what it had seen. No further request of
-- it came. The reply is no longer than a reply can be.
pub record IsKeptExchange {A : Type 0} (limits : Limits) (capacity : ℕ) (first : RepositoryOf A)
    (before : KeptSeen A) (waited : List ℕ) (x : KeptExchange A) : Type 0 where
  pub received : IsReceived limits waited x.reads x.ending x.parts x.consumed x.rest
  pub fresh : of x.push (items_of before.history) ≡ []
  pub answers : Answers capacity first x.push
      (push_items x.push x.parts (mark_of x.ending)) before.history x.how x.takes x.after.history
  pub rests_on : RestsOn run_push first (newest_first x.after.history) x.push x.how x.rests
  pub recorded : AreRecorded first x.after.history x.rests x.handed
  pub grows : HasGrown before.receipt x.after.receipt
  pub came : x.after.receipt.came ≡ before.receipt.came
  pub short : length (reply_of x.how) ≤ greatest_reply

-- its bytes came from that reader
pub record ComesFrom {A : Type 0} (waited waiting : List ℕ) (input left : Input) (x : KeptExchange A) : Type 0 where
  pub more : List ℕ
  pub spelled : waited ++ more ≡ x.consumed ++ x.rest
  pub bytes : Consumes input.left left.left more
  pub told : TellsMore input.reads left.reads x.reads
  pub keeps : KeepsWaiting x.ending x.rest waiting
  pub ran : Ran x.ending left

-- One bundle was received from that reader on the push that was opened. Where the push is done, its record is handed in:
-- that stamp, and the bundle byte for byte.
pub record KeepsBundle {A : Type 0} (limits : Limits) (capacity : ℕ) (first : RepositoryOf A)
    (waited waiting : List ℕ) (input left : Input) (opened : OpenedView A) (stamp : Stamp) (x : KeptExchange A) :
    Type 0 where
  pub hands_in : x.handed ≡ option_to_list (record_of x.how (record { stamp = stamp; bundle = x.consumed }))
  pub is : IsKeptExchange limits capacity first opened.client waited x
  pub own : x.push ≡ opened.push
  pub flows : ComesFrom waited waiting input left x

-- So many done pushes were on the device, and the client's receipt has a promise of them; with beats this rests on one
-- that began behind the request. What says so comes with the client, and with the record that was handed in. Where the
-- store failed, the client comes back.
abbrev pub IsKeptOrNot : {A D E : Type 0} → (D → List ℕ) → (D → List ℕ → Type 0) → (D → ℕ) → Head →
    List Entry → RepositoryOf A → Bool → ReceiptView → KeptSeen A → ℕ → List Entry →
    Result (KeptView A) (KeptSeen A × E) → Type 0
IsKeptOrNot seen may_leave moment head stored first beats asked after rests handed (Ok kept) =
    (kept ≡ record { client = after; rests = rests; handed = handed })
    × IsKept seen may_leave moment head stored first beats asked after rests
IsKeptOrNot seen may_leave moment head stored first beats asked after rests handed (Err back) = back.0 ≡ after

-- What the call reports of the bundle, whose request came as its client had this receipt.
pub record IsRound {J D A : Type 0} (seen : D → List ℕ) (may_leave : D → List ℕ → Type 0) (moment : D → ℕ)
    (head : Head) (stored : List Entry) (first : RepositoryOf A) (beats : Bool) (asked : ReceiptView)
    (x : KeptExchange A) (round : KeptRound J D A) : Type 0
  where
    pub ending_is : x.ending ≡ round.ending
    pub how_is : x.how ≡ round.answer.outcome
    pub takes_are : x.takes ≡ round.answer.takes
    pub rests_are : x.rests ≡ round.rests
    pub kept_is : IsKeptOrNot seen may_leave moment head stored first beats asked x.after x.rests x.handed round.kept

-- ---- its reply

-- A push of the client ended so, and what is kept is all that its answer rests on. The reply can be written.
pub record MayBeTold {A : Type 0} (first : RepositoryOf A) (how : Outcome (Done A) (Refusal A))
    (kept : KeptView A) : Type 0 where
  pub push : ℕ
  pub rests_on : RestsOn run_push first (newest_first kept.client.history) push how kept.rests
  pub told : CanBeTold how

-- A reply that was sent is true: all that is kept was on the device, so many done pushes, and the client's receipt
-- has a promise of them. Where the store failed, the writer was not used.
abbrev pub IsReplied : {A D E : Type 0} → (D → List ℕ) → (D → List ℕ → Type 0) → (D → ℕ) → Head →
    List Entry → RepositoryOf A → Result (KeptView A) E → List ℕ → List ℕ → List WriteAnswer → Replied → Type 0
IsReplied seen may_leave moment head stored first (Ok kept) reply gone uses (Sent sending) =
    IsCovered seen may_leave moment head stored first kept.client kept.rests × IsSent sending gone uses reply
IsReplied seen may_leave moment head stored first (Ok kept) reply gone uses NotStored = ⊥
IsReplied seen may_leave moment head stored first (Err e) reply gone uses (Sent sending) = ⊥
IsReplied seen may_leave moment head stored first (Err e) reply gone uses NotStored = (gone ≡ []) × (uses ≡ [])

-- this became of a reply at a writer, which took so many bytes of it
pub record RepliesBy {A D E : Type 0} (seen : D → List ℕ) (may_leave : D → List ℕ → Type 0) (moment : D → ℕ)
    (head : Head) (stored : List Entry) (first : RepositoryOf A) (kept : Result (KeptView A) E) (reply : List ℕ)
    (out sent : Output) (replied : Replied) (written : ℕ) : Type 0 where
  pub gone : List ℕ
  pub uses : List WriteAnswer
  pub is : IsReplied seen may_leave moment head stored first kept reply gone uses replied
  pub written_is : written ≡ length gone
  pub went : Appends out.taken sent.taken gone
  pub used : TellsMore out.uses sent.uses uses
