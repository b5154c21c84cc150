-- One bundle, from its bytes to its reply.
use Rattle.std.proofs.Common.{ℕ, ◌≡◌, inl, inr, List, [], ◌∷◌, ◌++◌, refl, sym, ◌∙◌, ap, subst, length}
use Rattle.std.proofs.lemmas.List.Elements.{All-cons}
use Rattle.std.proofs.KnownBytes.{Consumes-trans}
use Rattle.hg_types.specs.declared.limits.Limits.{Limits}
use Rattle.hg_types.specs.Limits.{IsAllowed}
use Rattle.hg_types.specs.declared.part.Part.{Part}
use Rattle.hg_parts.specs.declared.item.Item.{Item}
use Rattle.hg_parts.specs.declared.item.Taken.{Taken}
use Rattle.hg_repo.specs.declared.done.Done.{Done}
use Rattle.hg_parts.specs.declared.refusal.Refusal.{Refusal}
use Rattle.hg_push.specs.declared.outcome.Outcome.{Outcome}
use Rattle.hg_push.specs.Reply.{reply_of}
use Rattle.hg_push.specs.Run.{RepositoryOf}
use Rattle.hg_queue.specs.History.{of, items_of}
use Rattle.hg_queue.specs.Words.{next_item}
use Rattle.hg_serve.specs.Answers.{Answers}
use Rattle.hg_serve.specs.Clients.{SenderView, AwaitingView, PutsItsMark}
use Rattle.hg_connection.specs.Devices.{Input, Output, ReadAnswer, Gave}
use Rattle.hg_connection.proofs.DeviceLemmas.{Adds-trans}
use Rattle.hg_connection.specs.declared.sending.Sending.{Sending}
use Rattle.hg_connection.specs.Sent.{Sends}
use Rattle.hg_connection.specs.declared.bundle_end.BundleEnd.{BundleEnd}
use Rattle.hg_connection.specs.declared.bundle_end.BundleEnd.TheVariants.{Whole, Fault, InputEnded, ReadFailed}
use Rattle.hg_connection.specs.Receiving.{IsPiece, IsReceived, StopsBundle, StopsIn, mark_of}
use Rattle.hg_connection.specs.Steps.{Arrives, Receives}
use Rattle.hg_connection.specs.Receiving.{push_items}
use Rattle.hg_connection.specs.Connections.{Exchange, ServesBundle}
use Rattle.hg_connection.proofs.ReceivingLemmas.{AbortedAreShort, DoneAreShort, PartsAreFew, items_length}
use Rattle.hg_connection.proofs.Shortness.{reply_short}

module _ {A : Type 0} (limits : Limits) (capacity : ℕ) (first : RepositoryOf A) (waited waiting : List ℕ)
    (input left : Input) (out sent : Output) (s new : SenderView A) (ending : BundleEnd) (e : AwaitingView A)
    (how : Outcome (Done A) (Refusal A)) (takes : ℕ) (after : List (Taken A)) (sending : Sending)
    (written : ℕ) (r : Receives limits waited waiting input left s new ending)
    (m : PutsItsMark new (mark_of ending) e)
    (a : Answers capacity first e.push e.put e.history how takes after)
    (w : Sends sending written out sent (reply_of how)) where
  answered : Answers capacity first s.putter.push (push_items s.putter.push r.parts (mark_of ending))
      s.history how takes after
  answered =
      let push' : e.push ≡ s.putter.push = m.push ∙ r.put.push in
      let count : length new.putter.put ≡ length r.parts = ap (λ (l : List (Item A)). length l) r.put.put_is
      ∙ items_length s.putter.push 0 r.parts in
      let item : next_item new.putter (mark_of ending) ≡ record {
        push = s.putter.push;
        index = length r.parts;
        what = mark_of ending;
      } = λ i.
      record { push = r.put.push i; index = count i; what = mark_of ending } in
      let put' : e.put ≡ push_items s.putter.push r.parts (mark_of ending) = m.put
      ∙ (λ i. r.put.put_is i ++ item i ∷ []) in
      let history' : e.history ≡ s.history = m.history ∙ r.put.history in
      subst (λ (y : ℕ × List (Item A) × List (Taken A)). Answers capacity first y.0 y.1 y.2 how takes after)
      (λ i. (push' i, put' i, history' i)) a

  pub serves : of s.putter.push (items_of s.history) ≡ [] → DoneAreShort A → AbortedAreShort A → PartsAreFew A
      → IsAllowed limits
      → ServesBundle limits capacity first waited waiting input left out sent s.history
      (record {
        reads = r.bundle.reads;
        consumed = r.bundle.consumed;
        rest = r.bundle.rest;
        ending = ending;
        parts = r.parts;
        push = s.putter.push;
        how = how;
        takes = takes;
        uses = w.uses;
        sending = sending;
        gone = w.gone;
        after = after;
      })
  serves fresh done_short aborted_short few allowed = record {
    is = record { received = r.bundle.received; fresh = fresh; answers = answered; sent = w.sent };
    flows = record {
      more = r.bundle.more;
      spelled = r.bundle.spelled;
      bytes = r.bundle.bytes;
      told = r.bundle.told;
      keeps = r.bundle.keeps;
      ran = r.bundle.ran;
      went = w.bytes;
      used = w.told;
      short = reply_short done_short aborted_short few limits capacity first waited r.bundle.reads ending r.parts
          r.bundle.consumed
          r.bundle.rest s.putter.push s.history how takes after allowed r.bundle.received answered;
    };
  }

-- the bytes that were fed last were read, if not before the others then as the first
stops_read : {A : Type 0} (limits : Limits) (piece : List ℕ) (pieces : List (List ℕ)) (consumed rest : List ℕ)
    → StopsIn A limits piece pieces consumed rest → StopsIn A limits [] (piece ∷ pieces) consumed rest
stops_read {A} limits piece pieces consumed rest s = record {
  front = s.front;
  taken = s.taken;
  fed = s.fed;
  earlier = s.earlier;
  goes_on = s.goes_on;
  consumed_is = s.consumed_is;
  fed_is = s.fed_is;
  some = s.some;
  place = inr (elim s.place [
    | inl first ↦ ([], (λ i. sym first.2 i ∷ first.0 i), first.1)
    | inr later ↦ (piece ∷ later.0, ap (λ (ps : List (List ℕ)). piece ∷ ps) later.1, later.2)
  ]);
}

stops_as_read : (A : Type 0) (ending : BundleEnd) (limits : Limits) (piece : List ℕ) (pieces : List (List ℕ))
    (consumed rest : List ℕ) → StopsBundle A ending limits piece pieces consumed rest
    → StopsBundle A ending limits [] (piece ∷ pieces) consumed rest
stops_as_read A Whole limits piece pieces consumed rest s = stops_read limits piece pieces consumed rest s
stops_as_read A (Fault fault) limits piece pieces consumed rest s =
    (s.0, stops_read limits piece pieces consumed rest s.1)
stops_as_read A InputEnded limits piece pieces consumed rest s = s
stops_as_read A ReadFailed limits piece pieces consumed rest s = s

pub received_read : {A : Type 0} (limits : Limits) (piece : List ℕ) (reads : List ReadAnswer) (ending : BundleEnd)
    (parts : List (Part A)) (consumed rest : List ℕ) → IsPiece piece
    → IsReceived limits piece reads ending parts consumed rest
    → IsReceived limits [] (Gave piece ∷ reads) ending parts consumed rest
received_read {A} limits piece reads ending parts consumed rest is r = record {
  pieces = piece ∷ r.pieces;
  each = All-cons IsPiece piece r.pieces is r.each;
  reads_are = ap (λ (l : List ReadAnswer). Gave piece ∷ l) r.reads_are;
  spelled = r.spelled;
  tells = r.tells;
  stops = stops_as_read A ending limits piece r.pieces consumed rest r.stops;
  bound = r.bound;
}

-- The same bundle, with the read that saw it come.
pub record Comes {A : Type 0} (limits : Limits) (capacity : ℕ) (first : RepositoryOf A)
    (waited waiting : List ℕ) (input left : Input) (out sent : Output) (before : List (Taken A))
    (x : Exchange A) : Type 0 where
  pub own : Exchange A
  pub served : ServesBundle limits capacity first waited waiting input left out sent before own
  pub same : own ≡ record x { reads = own.reads }

pub comes : {A : Type 0} (limits : Limits) (capacity : ℕ) (first : RepositoryOf A)
    (waited piece waiting : List ℕ) (input mid left : Input) (out sent : Output) (before : List (Taken A))
    (x : Exchange A) → Arrives waited piece input mid
    → ServesBundle limits capacity first piece waiting mid left out sent before x
    → Comes limits capacity first waited waiting input left out sent before x
comes {A} limits capacity first waited piece waiting input mid left out sent before x arrives v =
    elim arrives [
      | inl there ↦ record {
        own = x;
        served = subst (λ (y : List ℕ × Input). ServesBundle limits capacity first y.0 waiting y.1 left out sent before
            x) (λ i. (there.0 i, there.1 i)) v;
        same = refl;
      }
      | inr read ↦ record {
        own = record x { reads = Gave piece ∷ x.reads };
        served = subst (λ (l : List ℕ). ServesBundle limits capacity first l waiting input left out sent before
            (record x { reads = Gave piece ∷ x.reads })) (sym read.0) (record {
              is = record {
                received = received_read limits piece x.reads x.ending x.parts x.consumed x.rest read.2
                    v.is.received;
                fresh = v.is.fresh;
                answers = v.is.answers;
                sent = v.is.sent;
              };
              flows = record {
                more = piece ++ v.flows.more;
                spelled = v.flows.spelled;
                bytes = Consumes-trans input.left mid.left left.left piece v.flows.more read.1.bytes v.flows.bytes;
                told = Adds-trans input.reads mid.reads left.reads (Gave piece ∷ []) x.reads read.1.told v.flows.told;
                keeps = v.flows.keeps;
                ran = v.flows.ran;
                went = v.flows.went;
                used = v.flows.used;
                short = v.flows.short;
              };
            });
        same = refl;
      }
    ]
