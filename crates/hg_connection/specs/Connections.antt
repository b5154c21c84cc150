-- What a connection did: its bundles, one after another.
use Rattle.std.specs.Prelude.{ℕ, ◌≡◌, ◌≢◌, ◌⊎◌, ◌≤◌, ◌+◌, ◌*◌, ⊤, List, [], ◌∷◌, ◌++◌, length, option_to_list}
use Rattle.std.specs.Prelude.{Option, Some, None}
use Rattle.std.specs.List.{flat_map}
use Rattle.std.specs.Io.KnownBytes.{Consumes, Appends, IsAtEnd}
use Rattle.hg_types.specs.declared.part.Part.{Part}
use Rattle.hg_parts.specs.declared.item.Taken.{Taken}
use Rattle.hg_types.specs.declared.limits.Limits.{Limits}
use Rattle.hg_repo.specs.declared.done.Done.{Done}
use Rattle.hg_parts.specs.declared.refusal.Refusal.{Refusal}
use Rattle.hg_queue.specs.History.{of, items_of}
use Rattle.hg_push.specs.declared.outcome.Outcome.{Outcome}
use Rattle.hg_push.specs.Lengths.{greatest_reply}
use Rattle.hg_push.specs.Reply.{reply_of}
use Rattle.hg_push.specs.Run.{RepositoryOf}
use Rattle.hg_stream.specs.declared.fault.StreamFault.TheVariants.{Truncated}
use Rattle.hg_serve.specs.declared.desk.Answer.{Answer}
use Rattle.hg_serve.specs.Answers.{Answers}
use Rattle.hg_connection.specs.Devices.{Input, Output, ReadAnswer, WriteAnswer, Gave, Failed, TellsMore}
use Rattle.hg_connection.specs.declared.sending.Sending.{Sending}
use Rattle.hg_connection.specs.declared.sending.Sending.TheVariants.{Whole as sent_whole, Broken, NoMemory}
use Rattle.hg_connection.specs.Sent.{IsSent}
use Rattle.hg_connection.specs.declared.bundle_end.BundleEnd.{BundleEnd}
use Rattle.hg_connection.specs.declared.bundle_end.BundleEnd.TheVariants.{Whole, Fault, InputEnded, ReadFailed}
use Rattle.hg_connection.specs.declared.served.ConnFault.{ConnFault}
use Rattle.hg_connection.specs.declared.served.ConnFault.TheVariants.{Open, ReadFailed as read_failed, Stream}
use Rattle.hg_connection.specs.declared.served.ConnFault.TheVariants.{WriteFailed, NoMemory as without_memory}
use Rattle.hg_connection.specs.declared.served.Served.{Served}
use Rattle.hg_connection.specs.Receiving.{IsReceived, KeepsWaiting, Ran, mark_of, push_items}

-- One bundle of a connection: how its reader was read, the bytes that are the bundle's and those that were
-- read after them, why no more was read of it, and its parts; its push, how that ended and how many items
-- were taken for it; how the writer was used for the reply, what became of it and which bytes of it went out;
-- and what its client has seen then. What a reply may become and what is known of a client are types of their own.
pub record ExchangeOf (A S H : Type 0) : Type 0 where
  pub reads : List ReadAnswer
  pub consumed : List ℕ
  pub rest : List ℕ
  pub ending : BundleEnd
  pub parts : List (Part A)
  pub push : ℕ
  pub how : Outcome (Done A) (Refusal A)
  pub takes : ℕ
  pub uses : List WriteAnswer
  pub sending : S
  pub gone : List ℕ
  pub after : H

-- one whose reply is sent, as far as the writer takes it; of its client its history is known
abbrev pub Exchange : Type 0 → Type 0
Exchange A = ExchangeOf A Sending (List (Taken A))

-- The bundle was received by these reads, after the bytes that waited. The client had seen no item of the
-- push. Of the push the bundle's parts were put and the mark that the ending asks for, and it was answered
-- so. Its reply was sent by these uses of the writer, also where the bundle holds a fault or a read failed.
pub record IsExchange {A : Type 0} (limits : Limits) (capacity : ℕ) (first : RepositoryOf A)
    (before : List (Taken A)) (waited : List ℕ) (x : Exchange A) : Type 0 where
  pub received : IsReceived limits waited x.reads x.ending x.parts x.consumed x.rest
  pub fresh : of x.push (items_of before) ≡ []
  pub answers : Answers capacity first x.push
      (push_items x.push x.parts (mark_of x.ending)) before x.how x.takes x.after
  pub sent : IsSent x.sending x.gone x.uses (reply_of x.how)

-- its bytes came from that reader and went to that writer, and its reply is no longer than a reply can be
pub record Flows {A S H : Type 0} (waited waiting : List ℕ) (input left : Input) (out sent : Output)
    (x : ExchangeOf A S H) : Type 0 where
  pub more : List ℕ
  pub spelled : waited ++ more ≡ x.consumed ++ x.rest
  pub bytes : Consumes input.left left.left more
  pub told : TellsMore input.reads left.reads x.reads
  pub keeps : KeepsWaiting x.ending x.rest waiting
  pub ran : Ran x.ending left
  pub went : Appends out.taken sent.taken x.gone
  pub used : TellsMore out.uses sent.uses x.uses
  pub short : length (reply_of x.how) ≤ greatest_reply

-- one bundle was served by that reader and that writer
pub record ServesBundle {A : Type 0} (limits : Limits) (capacity : ℕ) (first : RepositoryOf A)
    (waited waiting : List ℕ) (input left : Input) (out sent : Output) (before : List (Taken A))
    (x : Exchange A) : Type 0 where
  pub is : IsExchange limits capacity first before waited x
  pub flows : Flows waited waiting input left out sent x

-- what the call reports of the bundle
pub record IsReported {A S H : Type 0} (x : ExchangeOf A S H) (ending : BundleEnd)
    (how : Outcome (Done A) (Refusal A)) (takes : ℕ) (sending : S) (written : ℕ) (after : H) : Type 0 where
  pub ending_is : x.ending ≡ ending
  pub how_is : x.how ≡ how
  pub takes_are : x.takes ≡ takes
  pub sending_is : x.sending ≡ sending
  pub written_is : written ≡ length x.gone
  pub after_is : x.after ≡ after

-- the fault of a connection whose bundle ended so, and whose reply went out so: the first that came
abbrev pub fault_of : BundleEnd → Sending → Option ConnFault
fault_of ReadFailed sending = Some read_failed
fault_of (Fault fault) sending = Some (Stream fault)
fault_of InputEnded sending = Some (Stream Truncated)
fault_of Whole sent_whole = None
fault_of Whole Broken = Some WriteFailed
fault_of Whole NoMemory = Some without_memory

-- Each goes on from what the client had seen after the one before, and from the bytes that were read after its
-- end mark.
abbrev pub AreChained : {A S H : Type 0} → (H → List ℕ → ExchangeOf A S H → Type 0) → H → List ℕ →
    List (ExchangeOf A S H) → H → Type 0
AreChained Is before waited [] after = after ≡ before
AreChained Is before waited (x ∷ xs) after = Is before waited x × AreChained Is x.after x.rest xs after

-- those of a connection
abbrev pub AreExchanges : {A : Type 0} → Limits → ℕ → RepositoryOf A → List (Taken A) → List ℕ →
    List (Exchange A) → List (Taken A) → Type 0
AreExchanges limits capacity first before waited xs after =
    AreChained (IsExchange limits capacity first) before waited xs after

-- each was read to its end mark, and that became of its reply
abbrev pub AreAllWhole : {A S H : Type 0} → (S → Type 0) → List (ExchangeOf A S H) → Type 0
AreAllWhole Is [] = ⊤
AreAllWhole Is (x ∷ xs) = (x.ending ≡ Whole) × Is x.sending × AreAllWhole Is xs

-- each was read to its end mark, and its reply was written whole and flushed
abbrev pub AreWhole : {A : Type 0} → List (Exchange A) → Type 0
AreWhole xs = AreAllWhole (λ sending. sending ≡ sent_whole) xs

-- the bytes of the bundles, joined
abbrev pub bytes_of : {A S H : Type 0} → List (ExchangeOf A S H) → List ℕ
bytes_of xs = flat_map (λ x. x.consumed) xs

-- the answers of the reads of all bundles, in order
abbrev pub reads_of : {A S H : Type 0} → List (ExchangeOf A S H) → List ReadAnswer
reads_of xs = flat_map (λ x. x.reads) xs

-- the answers of the writer's uses for all replies, in order
abbrev pub uses_of : {A S H : Type 0} → List (ExchangeOf A S H) → List WriteAnswer
uses_of xs = flat_map (λ x. x.uses) xs

-- the replies, joined
abbrev pub replies_of : {A S H : Type 0} → List (ExchangeOf A S H) → List ℕ
replies_of xs = flat_map (λ x. reply_of x.how) xs

-- what went out of their replies
abbrev pub gone_of : {A S H : Type 0} → List (ExchangeOf A S H) → List ℕ
gone_of xs = flat_map (λ x. x.gone) xs

-- the answer that is reported is that of the last bundle
abbrev pub IsLastAnswer : {A S H : Type 0} → Option (Answer A) → List (ExchangeOf A S H) → Type 0
IsLastAnswer {A} {S} {H} None xs = xs ≡ []
IsLastAnswer {A} {S} {H} (Some answer) xs = (front : List (ExchangeOf A S H)) × (x : ExchangeOf A S H)
    × (xs ≡ front ++ x ∷ []) × (answer.outcome ≡ x.how) × (answer.takes ≡ x.takes)

-- Why a connection ended between two bundles, after these whole ones, and by which read. Without a fault: so
-- many were asked for, and nothing more was read; or one read met the end of the input, with no byte of a next
-- bundle. With one: at an opening, where at most the first piece of the next bundle was read; or by a failed
-- read. Before the first bundle nothing is read: its push is opened first, and it is answered whatever is read.
abbrev pub EndsBetween : {X : Type 0} → ℕ → List X → List ReadAnswer → List ℕ → Input → Option ConnFault →
    Type 0
EndsBetween most whole final dropped left None =
    ((length whole ≡ most) × (final ≡ [])) ⊎ ((whole ≢ []) × (dropped ≡ []) × (final ≡ Gave [] ∷ []) × IsAtEnd left.left)
EndsBetween most whole final dropped left (Some (Open fault)) =
    ((final ≡ []) ⊎ ((whole ≢ []) × (final ≡ Gave dropped ∷ []))) × (whole ≡ [] → dropped ≡ [])
EndsBetween most whole final dropped left (Some read_failed) =
    (whole ≢ []) × (dropped ≡ []) × (final ≡ Failed ∷ [])
EndsBetween most whole final dropped left (Some fault) = ⊥

-- Why the connection ended: between two bundles, or with the fault of the bundle that is the last, after which
-- nothing was read.
abbrev pub EndsBy : {A : Type 0} → ℕ → List (Exchange A) → Option (Exchange A) → List ReadAnswer → List ℕ →
    Input → Option ConnFault → Type 0
EndsBy most whole None final dropped left fault = EndsBetween most whole final dropped left fault
EndsBy most whole (Some x) final dropped left None = ⊥
EndsBy most whole (Some x) final dropped left (Some fault) =
    (final ≡ []) × (dropped ≡ x.rest) × (fault_of x.ending x.sending ≡ Some fault) × Ran x.ending left

-- These bundles, at most so many, are all that was read and written, except one read at the end. So many bundles
-- and bytes are reported, and the answer of the last one. The bytes that were read are those of the bundles and
-- a rest, and a front of the replies went out.
pub record AreJoined {A S H : Type 0} (limits : Limits) (most : ℕ) (input left : Input) (out sent : Output)
    (xs : List (ExchangeOf A S H)) (bundles : ℕ) (last : Option (Answer A)) (written : ℕ) : Type 0 where
  pub count : bundles ≡ length xs
  pub few : length xs ≤ most
  pub tells : IsLastAnswer last xs
  pub final : List ReadAnswer
  pub reads : TellsMore input.reads left.reads (reads_of xs ++ final)
  pub uses : TellsMore out.uses sent.uses (uses_of xs)
  pub dropped : List ℕ
  pub read : Consumes input.left left.left (bytes_of xs ++ dropped)
  pub bound : length (bytes_of xs ++ dropped) ≤ most * limits.stream + 4096
  pub gone : List ℕ
  pub gone_is : gone ≡ gone_of xs
  pub kept : List ℕ
  pub replies : replies_of xs ≡ gone ++ kept
  pub went : Appends out.taken sent.taken gone
  pub wrote : written ≡ length gone

-- A connection of at most so many bundles: whole ones, each of which was answered, and its reply written and
-- flushed, and one that ended it, if there is one. All reads and all uses of the writer are theirs, in their
-- order, except one read at the end. So after a bundle whose reply was not written and flushed nothing was
-- read, and after a failed read no bundle was begun, and nothing was written after the reply to the bundle
-- that it broke. The bytes that were read are those of the bundles and a rest. A front of the replies went
-- out, which is what went out of each, and all of them where there is no fault.
pub record Connects {A : Type 0} (limits : Limits) (capacity : ℕ) (first : RepositoryOf A) (most : ℕ)
    (input left : Input) (out sent : Output) (before after : List (Taken A))
    (served : Served A) : Type 0 where
  pub whole : List (Exchange A)
  pub last : Option (Exchange A)
  pub chain : AreExchanges limits capacity first before [] (whole ++ option_to_list last) after
  pub ends : AreWhole whole
  pub joined : AreJoined limits most input left out sent (whole ++ option_to_list last) served.bundles
      served.last served.written
  pub all : served.fault ≡ None → joined.kept ≡ []
  pub end : EndsBy most whole last joined.final joined.dropped left served.fault
