-- What one bundle over a body says of its push.
use Rattle.std.proofs.Common.{◌≡◌, ◌≢◌, ℕ, List, [], ◌∷◌, ◌++◌, Option, Some, None}
use Rattle.std.proofs.Common.{sym, ap, subst, ◌∙◌, append-nil, append_assoc, map, drop}
use Rattle.std.specs.Prelude.{⊤, Bool, IfSome, Result, Ok, Err}
use Rattle.hg_types.specs.declared.limits.Limits.{Limits}
use Rattle.hg_push.specs.Reply.{reply_of}
use Rattle.hg_push.specs.Run.{RepositoryOf}
use Rattle.hg_connection.specs.Devices.{Output, ReadAnswer, Gave, Failed, WriteAnswer}
use Rattle.hg_connection.specs.Sent.{IsSent}
use Rattle.hg_connection.specs.declared.sending.Sending.TheVariants.{Whole as sent_whole}
use Rattle.hg_connection.specs.declared.bundle_end.BundleEnd.{BundleEnd}
use Rattle.hg_connection.specs.declared.bundle_end.BundleEnd.TheVariants.{InputEnded, ReadFailed}
use Rattle.hg_connection.specs.Receiving.{IsReceived, last_read, Ran, StopsBundle}
use Rattle.hg_store.specs.Entries.{Entry, Stamp}
use Rattle.hg_store.specs.declared.head.Head.{Head}
use Rattle.hg_commit.specs.Clients.{IsKept, IsLater, KeptSeen, KeptView}
use Rattle.hg_commit.specs.Orders.{ReceiptView}
use Rattle.hg_durable.specs.Kept.{CatchesUp, IsKeptOrNot, IsReplied, KeepsBundle, KeptExchange, OpenedView, RepliesBy}
use Rattle.hg_durable.specs.declared.served.Replied.{Replied}
use Rattle.hg_durable.specs.declared.served.Replied.TheVariants.{Sent}
use Rattle.hg_web.specs.code.Bodies.{BodyView, given, input_of}
use Rattle.hg_web.proofs.Later.{came_and_grew, prefix_again}
use Rattle.hg_web.specs.code.Rounds.{IsOfRound}
use Rattle.hg_web.specs.Pushes.{How, IsPush, PushesOrFails}
use Rattle.hg_web.specs.declared.push.KeptPush.{KeptPush}

-- no read failed
abbrev AllGave : List ReadAnswer → Type 0
AllGave [] = ⊤
AllGave (Gave bytes ∷ reads) = AllGave reads
AllGave (Failed ∷ reads) = ⊥

all_given : (bytes : List ℕ) (reads : List (ℕ × ℕ)) → AllGave (map (given bytes) reads)
all_given bytes [] = tt
all_given bytes (read ∷ reads) = all_given bytes reads

back_gave : (xs ys : List ReadAnswer) → AllGave (xs ++ ys) → AllGave ys
back_gave [] ys h = h
back_gave (Gave bytes ∷ xs) ys h = back_gave xs ys h
back_gave (Failed ∷ xs) ys h = absurd h

none_failed : (pieces : List (List ℕ)) (ending : BundleEnd) → AllGave (map Gave pieces ++ last_read ending) →
    ending ≢ ReadFailed
none_failed pieces ending h is =
    subst (λ e. AllGave (last_read e)) is (back_gave (map Gave pieces) (last_read ending) h)

-- a reply that was sent whole is what went out
sent_all : (gone : List ℕ) (uses : List WriteAnswer) (reply : List ℕ) → IsSent sent_whole gone uses reply →
    reply ≡ gone
sent_all gone uses reply s = s.reply_is ∙ (ap (λ l. gone ++ l) s.ends.0 ∙ append-nil gone)

-- what a writer tells that has these bytes
abbrev has : List ℕ → Output
has bytes = record { taken = Some bytes; uses = None }

-- the reply that a buffer has, where all of it was sent there
module _ {A D E : Type 0} (seen : D → List ℕ) (may_leave : D → List ℕ → Type 0) (moment : D → ℕ) (head : Head)
    (stored : List Entry) (first : RepositoryOf A) (how : How A) (reply : List ℕ)
  where
    abbrev Replies : Result (KeptView A) E → List ℕ → List WriteAnswer → Replied → Type 0
    Replies kept gone uses replied =
        IsReplied seen may_leave moment head stored first kept (reply_of how) gone uses replied

    pub told_whole : (kept : Result (KeptView A) E) (replied : Replied) (written : ℕ)
        → RepliesBy seen may_leave moment head stored first kept (reply_of how) (has []) (has reply) replied written
        → (all : KeptView A) → kept ≡ Ok all → (r : Option (List ℕ))
        → IfSome r (λ told. (told ≡ reply) × (replied ≡ Sent sent_whole)) → IfSome r (λ told. told ≡ reply_of how)
    told_whole kept replied written by all is None h = tt
    told_whole kept replied written by all is (Some told) h =
        let there : Replies (Ok all) by.gone by.uses (Sent sent_whole) =
        subst (λ (y : Result (KeptView A) E × Replied). Replies y.0 by.gone by.uses y.1) (λ i. (is i, h.1 i)) by.is in
        h.0 ∙ (by.went ∙ sym (sent_all by.gone by.uses (reply_of how) there.1))

module _ {A D : Type 0} (seen : D → List ℕ) (may_leave : D → List ℕ → Type 0) (moment : D → ℕ) (head : Head)
    (stored : List Entry) (limits : Limits) (capacity : ℕ) (first : RepositoryOf A)
    (before after : KeptSeen A) (body waiting : List ℕ) (left : BodyView) (opened : OpenedView A)
    (stamp : Stamp) (x : KeptExchange A) (beats : Bool)
    (v : KeepsBundle limits capacity first [] waiting (input_of (record { bytes = body; at = 0; reads = [] }))
    (input_of left) opened stamp x)
    (come : CatchesUp first before opened.client)
    (same : limits ≡ first.settings.limits)
  where
    abbrev kept : ReceiptView → KeptSeen A → ℕ → Type 0
    kept asked client count = IsKept seen may_leave moment head stored first beats asked client count

    abbrev rest : List ℕ
    rest = drop left.at left.bytes

    -- what the end of the input broke took all of the body
    took_all : x.ending ≡ InputEnded → x.rest ++ rest ≡ []
    took_all ended =
        let none : x.rest ≡ [] = subst (λ e. StopsBundle A e limits [] v.is.received.pieces x.consumed x.rest) ended
        v.is.received.stops in
        let at_end : rest ≡ [] = subst (λ e. Ran e (input_of left)) ended v.flows.ran in
        ap (λ l. l ++ rest) none ∙ at_end

    is_push : kept opened.client.receipt x.after x.rests → IsPush capacity first kept stamp before body x
    is_push are_kept = record {
      opened = opened.client;
      catches_up = come;
      one = v.is.came;
      received = subst (λ l. IsReceived l [] x.reads x.ending x.parts x.consumed x.rest) same v.is.received;
      fresh = v.is.fresh;
      answers = v.is.answers;
      grows = v.is.grows;
      rests_on = v.is.rests_on;
      recorded = v.is.recorded;
      handed = v.hands_in;
      is_kept = are_kept;
      read = none_failed v.is.received.pieces x.ending
          (subst AllGave v.is.received.reads_are (subst AllGave v.flows.told (all_given left.bytes left.reads)));
      behind = x.rest ++ rest;
      body_is = v.flows.bytes ∙ (ap (λ l. l ++ rest) v.flows.spelled ∙ append_assoc x.consumed x.rest rest);
      whole = took_all;
    }

    is_later : IsLater before x.after
    is_later = record {
      seen = prefix_again before.history opened.client.history x.after.history come.earlier v.is.answers.earlier;
      grows = came_and_grew before.receipt opened.client.receipt x.after.receipt come.promised come.comes v.is.grows;
    }

    pub pushed : {E F : Type 0} (how : How A) → x.how ≡ how → (it : Result (KeptView A) (KeptSeen A × E))
        → IsKeptOrNot seen may_leave moment head stored first beats opened.client.receipt x.after x.rests x.handed it
        → (told : Result (Option (KeptPush A)) F) → IsOfRound it how told after
        → PushesOrFails capacity first kept stamp before body told after
    pushed how is (Ok all) k (Ok (Some told)) t = (
      x,
      is_push k.1,
      is ∙ sym t.1,
      ap (λ (y : KeptView A). y.client) (sym k.0) ∙ sym t.0,
      subst (λ h. IfSome told.reply (λ r. r ≡ reply_of h)) (sym t.1) t.2,
    )
    pushed how is (Ok all) k (Ok None) t = absurd t
    pushed how is (Ok all) k (Err fault) t = absurd t
    pushed how is (Err back) k (Ok told) t = absurd t
    pushed how is (Err back) k (Err fault) t = subst (λ h. IsLater before h) (sym k ∙ sym t) is_later

-- one bundle, told of where it began
module _ {A : Type 0} (limits : Limits) (capacity : ℕ) (first : RepositoryOf A) (opened : OpenedView A)
    (stamp : Stamp) (x : KeptExchange A) (waiting : List ℕ) (left : BodyView)
  where
    pub begun : (waited waited_at : List ℕ) (start start_at : BodyView) → waited ≡ waited_at → start ≡ start_at
        → KeepsBundle limits capacity first waited waiting (input_of start) (input_of left) opened stamp x
        → KeepsBundle limits capacity first waited_at waiting (input_of start_at) (input_of left) opened stamp x
    begun waited waited_at start start_at w s v =
        subst (λ (y : List ℕ × BodyView). KeepsBundle limits capacity first y.0 waiting (input_of y.1) (input_of left)
        opened stamp x) (λ i. (w i, s i)) v
