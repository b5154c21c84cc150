-- One more bundle of a connection.
use Rattle.std.proofs.Common.{true, false, true≢false, ℕ, ◌≡◌, ◌≢◌, ◌≤◌, ◌<◌, ◌+◌, ◌*◌, ◌^◌, List, [], ◌∷◌}
use Rattle.std.proofs.Common.{◌++◌, refl, sym, ◌∙◌, ap, subst, inl, inr, arith, length, append_assoc, Option}
use Rattle.std.proofs.Common.{Some, None}
use Rattle.std.proofs.lemmas.List.{append-nil, length-append}
use Rattle.std.proofs.KnownBytes.{Consumes-trans, Consumes-nil, Appends-nil, Appends-trans}
use Rattle.std.specs.Prelude.{is_some}
use Rattle.std.specs.Io.KnownBytes.{Consumes, Appends}
use Rattle.hg_types.specs.declared.limits.Limits.{Limits}
use Rattle.hg_parts.specs.declared.item.Taken.{Taken}
use Rattle.hg_repo.specs.declared.done.Done.{Done}
use Rattle.hg_parts.specs.declared.refusal.Refusal.{Refusal}
use Rattle.hg_push.specs.declared.outcome.Outcome.{Outcome}
use Rattle.hg_push.specs.Lengths.{greatest_reply}
use Rattle.hg_push.specs.Reply.{reply_of}
use Rattle.hg_push.specs.Run.{RepositoryOf}
use Rattle.hg_push.specs.declared.book.OpenFault.{OpenFault}
use Rattle.hg_stream.specs.declared.state.State.TheVariants.{Ended}
use Rattle.hg_stream.specs.Faults.{StateTells}
use Rattle.hg_serve.specs.declared.desk.Answer.{Answer}
use Rattle.hg_connection.specs.Devices.{Input, Output, ReadAnswer, WriteAnswer, Gave, Failed, TellsMore}
use Rattle.hg_connection.proofs.DeviceLemmas.{Adds-nil, Adds-trans}
use Rattle.hg_connection.specs.declared.sending.Sending.{Sending}
use Rattle.hg_connection.specs.declared.sending.Sending.TheVariants.{Whole as sent_whole, Broken, NoMemory}
use Rattle.hg_connection.specs.declared.bundle_end.BundleEnd.{BundleEnd}
use Rattle.hg_connection.specs.declared.bundle_end.BundleEnd.TheVariants.{Whole, Fault, InputEnded, ReadFailed}
use Rattle.hg_connection.specs.declared.coming.Next.TheVariants.{Comes, InputEnded as comes_no_more}
use Rattle.hg_connection.specs.declared.coming.Next.TheVariants.{ReadFailed as comes_broken}
use Rattle.hg_connection.specs.declared.served.ConnFault.{ConnFault}
use Rattle.hg_connection.specs.declared.served.ConnFault.TheVariants.{Open, ReadFailed as read_failed}
use Rattle.hg_connection.specs.declared.served.Served.{Served}
use Rattle.hg_connection.specs.Receiving.{IsPiece, Ran, state_at}
use Rattle.hg_connection.specs.Steps.{IsNext}
use Rattle.hg_connection.specs.Connections.{Exchange, IsExchange, AreExchanges, AreWhole, Connects, EndsBy}
use Rattle.hg_connection.specs.Connections.{IsLastAnswer, IsReported, ServesBundle, bytes_of, reads_of, uses_of}
use Rattle.hg_connection.specs.Connections.{replies_of, gone_of, fault_of}
use Rattle.hg_connection.proofs.Joins.{last_rest, chain_more, whole_more, last_more, bytes_more, reads_more}
use Rattle.hg_connection.proofs.Joins.{uses_more, gone_more, replies_more, rest_waits, gone_whole, none_of}
use Rattle.hg_connection.proofs.Joins.{mul_more, within}

-- all bundles so far were whole, and all their replies went out
pub record Goes {A : Type 0} (limits : Limits) (capacity : ℕ) (first : RepositoryOf A) (input left : Input)
    (out sent : Output) (before now : List (Taken A)) (waiting : List ℕ) (served : Served A)
    (number : ℕ) : Type 0 where
  pub whole : List (Exchange A)
  pub chain : AreExchanges limits capacity first before [] whole now
  pub rest_is : last_rest [] whole ≡ waiting
  pub ends : AreWhole whole
  pub count : number ≡ length whole
  pub counted : served.bundles ≡ number
  pub tells : IsLastAnswer served.last whole
  pub read : Consumes input.left left.left (bytes_of whole ++ waiting)
  pub reads : TellsMore input.reads left.reads (reads_of whole)
  pub uses : TellsMore out.uses sent.uses (uses_of whole)
  pub bytes : length (bytes_of whole) ≤ number * limits.stream
  pub none : number ≡ 0 → waiting ≡ []
  pub went : Appends out.taken sent.taken (replies_of whole)
  pub written : served.written ≡ length (replies_of whole)
  pub short : length (replies_of whole) ≤ number * greatest_reply
  pub sent_all : replies_of whole ≡ gone_of whole
  pub fault : served.fault ≡ None

no_fault : (ending : BundleEnd) (sending : Sending) → fault_of ending sending ≡ None → (ending ≡ Whole)
    × (sending ≡ sent_whole)
no_fault ReadFailed sending e = absurd cc
no_fault (Fault fault) sending e = absurd cc
no_fault InputEnded sending e = absurd cc
no_fault Whole sent_whole e = (refl, refl)
no_fault Whole Broken e = absurd cc
no_fault Whole NoMemory e = absurd cc

-- what went out of one reply more can be added: the replies to so few bundles are short together
pub can_add : {A : Type 0} (limits : Limits) (capacity : ℕ) (first : RepositoryOf A)
    (input mid begun left : Input) (out way sent : Output) (before now history after : List (Taken A))
    (waiting waited waits : List ℕ) (served : Served A) (number : ℕ) (x : Exchange A) (ending : BundleEnd)
    (how : Outcome (Done A) (Refusal A)) (takes : ℕ) (sending : Sending) (written : ℕ)
    → Goes limits capacity first input mid out way before now waiting served number
    → ServesBundle limits capacity first waited waits begun left way sent history x
    → IsReported x ending how takes sending written after → number < 10000
    → served.written + written < 2 ^ 64
can_add limits capacity first input mid begun left out way sent before now history after waiting waited
    waits served number x ending how takes sending written g v t less =
    let so_far = g.written in
    let bound = g.short in
    let most = within number 10000 greatest_reply (omega (arith, less)) in
    let went = t.written_is in
    let reply = v.flows.short in
    let parted = ap (λ (l : List ℕ). length l) v.is.sent.reply_is in
    let both = length-append x.gone v.is.sent.rest in
    omega (arith, so_far, bound, most, went, reply, parted, both)

-- nothing was served yet
pub starts : {A : Type 0} (limits : Limits) (capacity : ℕ) (first : RepositoryOf A) (input : Input)
    (out : Output) (before : List (Taken A)) (waiting : List ℕ) (served : Served A) → waiting ≡ []
    → (served.bundles ≡ 0) × (served.last ≡ None) × (served.written ≡ 0) × (served.fault ≡ None)
    → Goes limits capacity first input input out out before before waiting served 0
starts {A} limits capacity first input out before waiting served none s = record {
  whole = [];
  chain = refl;
  rest_is = sym none;
  ends = tt;
  count = refl;
  counted = s.0;
  tells = subst (λ (o : Option (Answer A)). IsLastAnswer {A = A} {S = Sending} {H = List (Taken A)} o [])
      (sym s.1) refl;
  read = subst (λ (l : List ℕ). Consumes input.left input.left l) (sym none) (Consumes-nil input.left);
  reads = Adds-nil input.reads;
  uses = Adds-nil out.uses;
  bytes = omega arith;
  none = λ _. none;
  went = Appends-nil out.taken;
  written = s.2;
  short = omega arith;
  sent_all = refl;
  fault = s.3;
}

-- the same except the fault
abbrev pub SameBut : {A : Type 0} → Served A → Served A → Option ConnFault → Type 0
SameBut old new fault = (new.bundles ≡ old.bundles) × (new.last ≡ old.last) × (new.written ≡ old.written)
    × (new.fault ≡ fault)

-- the connection ends between two bundles
module _ {A : Type 0} (limits : Limits) (capacity : ℕ) (first : RepositoryOf A) (most : ℕ)
    (input mid left : Input) (out sent : Output) (before now : List (Taken A)) (waiting after : List ℕ)
    (served told : Served A) (number : ℕ)
    (g : Goes limits capacity first input mid out sent before now waiting served number)
    (less : number ≤ most) where
  closes : (now' : List (Taken A)) (dropped : List ℕ) (final : List ReadAnswer) (fault : Option ConnFault)
      → now' ≡ now → Consumes input.left left.left (bytes_of g.whole ++ dropped)
      → TellsMore input.reads left.reads (reads_of g.whole ++ final) → length dropped ≤ 4096
      → SameBut served told fault → EndsBy most g.whole None final dropped left fault
      → Connects limits capacity first most input left out sent before now' told
  closes now' dropped final fault same read reads small is end =
      let e : g.whole ++ [] ≡ g.whole = append-nil g.whole in
      let le = within number most limits.stream less in
      let b = g.bytes in
      let size : length (bytes_of g.whole ++ dropped) ≤ most * limits.stream + 4096 = omega
      (arith, le, b, small, length-append (bytes_of g.whole) dropped) in
      let count' : told.bundles ≡ length g.whole = is.0 ∙ (g.counted ∙ g.count) in
      let few' : length g.whole ≤ most = let c = g.count in omega (arith, c, less) in
      record {
        whole = g.whole;
        last = None;
        chain = subst (λ (y : List (Exchange A) × List (Taken A)).
            AreExchanges limits capacity first before [] y.0 y.1) (λ i. (sym e i, sym same i)) g.chain;
        ends = g.ends;
        joined = record {
          count = count' ∙ ap (λ (l : List (Exchange A)). length l) (sym e);
          few = subst (λ (l : List (Exchange A)). length l ≤ most) (sym e) few';
          tells = subst (λ (y : Option (Answer A) × List (Exchange A)). IsLastAnswer y.0 y.1)
              (λ i. (sym is.1 i, sym e i)) g.tells;
          final = final;
          reads = subst (λ (l : List (Exchange A)). TellsMore input.reads left.reads (reads_of l ++ final))
              (sym e) reads;
          uses = subst (λ (l : List (Exchange A)). TellsMore out.uses sent.uses (uses_of l)) (sym e) g.uses;
          dropped = dropped;
          read = subst (λ (l : List (Exchange A)). Consumes input.left left.left (bytes_of l ++ dropped))
              (sym e) read;
          bound = subst (λ (l : List (Exchange A)). length (bytes_of l
              ++ dropped) ≤ most * limits.stream + 4096) (sym e) size;
          gone = replies_of g.whole;
          gone_is = g.sent_all ∙ ap (λ (l : List (Exchange A)). gone_of l) (sym e);
          kept = [];
          replies = ap (λ (l : List (Exchange A)). replies_of l) e ∙ sym (append-nil (replies_of g.whole));
          went = g.went;
          wrote = is.2 ∙ g.written;
        };
        all = λ _. refl;
        end = subst (λ (f : Option ConnFault). EndsBy most g.whole None final dropped left f) (sym is.3) end;
      }

  -- one read gave no byte
  read_nothing : (answer : ReadAnswer) → waiting ≡ [] → Consumes mid.left left.left []
      → Consumes input.left left.left (bytes_of g.whole ++ [])
  read_nothing answer none nothing =
      subst (λ (l : List ℕ). Consumes input.left left.left l) (append-nil (bytes_of g.whole ++ waiting)
      ∙ ap (λ (l : List ℕ). bytes_of g.whole ++ l) none)
      (Consumes-trans input.left mid.left left.left (bytes_of g.whole ++ waiting) [] g.read nothing)

  -- what comes after a bundle has one before it
  one_before : 1 ≤ number → g.whole ≢ []
  one_before some = λ e. (let z : number ≡ 0 = g.count ∙ ap (λ (l : List (Exchange A)). length l) e in
      absurd (omega (arith, z, some)))

  -- the input ended
  pub at_end : IsNext number waiting after mid left comes_no_more → SameBut served told served.fault
      → Connects limits capacity first most input left out sent before now told
  at_end n is =
      closes now [] (Gave [] ∷ []) None refl (read_nothing (Gave []) n.1 n.2.bytes)
      (Adds-trans input.reads mid.reads left.reads (reads_of g.whole) (Gave [] ∷ []) g.reads n.2.told)
      (omega arith) (is.0, is.1, is.2, is.3 ∙ g.fault) (inr (one_before n.0, refl, refl, n.3))

  -- a read failed between two bundles
  pub at_failure : IsNext number waiting after mid left comes_broken → SameBut served told (Some read_failed)
      → Connects limits capacity first most input left out sent before now told
  at_failure n is = closes now [] (Failed ∷ []) (Some read_failed) refl (read_nothing Failed n.1 n.2.bytes)
      (Adds-trans input.reads mid.reads left.reads (reads_of g.whole) (Failed ∷ []) g.reads n.2.told)
      (omega arith) is (one_before n.0, refl, refl)

  none_waits : IsNext number waiting after mid left Comes → g.whole ≡ [] → after ≡ []
  none_waits n e = let z : number ≡ 0 = g.count ∙ ap (λ (l : List (Exchange A)). length l) e in (n.1 z).0
      ∙ g.none z

  some_before : IsNext number waiting after mid left Comes → IsPiece after → g.whole ≢ []
  some_before n piece = λ e. (let z : length after ≡ 0 = ap (λ (l : List ℕ). length l) (none_waits n e) in
      absurd (omega (arith, z, piece.0)))

  -- a push was not opened
  pub at_opening : (now' : List (Taken A)) (fault : OpenFault) → IsNext number waiting after mid left Comes
      → now' ≡ now → SameBut served told (Some (Open fault))
      → Connects limits capacity first most input left out sent before now' told
  at_opening now' fault n same is = elim n.0 [
    | inl there ↦ closes now' after [] (Some (Open fault)) same
        (subst (λ (y : List ℕ × Input). Consumes input.left y.1.left (bytes_of g.whole ++ y.0))
        (λ i. (sym there.0 i, sym there.1 i)) g.read)
        (subst (λ (i : Input). TellsMore input.reads i.reads (reads_of g.whole ++ [])) (sym there.1)
        (subst (λ (l : List ReadAnswer). TellsMore input.reads mid.reads l)
        (sym (append-nil (reads_of g.whole))) g.reads)) n.3 is (inl refl, none_waits n)
    | inr read ↦ closes now' after (Gave after ∷ []) (Some (Open fault)) same
        (subst (λ (l : List ℕ). Consumes input.left left.left l)
        (append_assoc (bytes_of g.whole) waiting after
        ∙ ap (λ (l : List ℕ). bytes_of g.whole ++ (l ++ after)) read.0)
        (Consumes-trans input.left mid.left left.left (bytes_of g.whole
        ++ waiting) after g.read read.1.bytes))
        (Adds-trans input.reads mid.reads left.reads (reads_of g.whole) (Gave after ∷ []) g.reads read.1.told)
        n.3 is (inr (some_before n read.2, refl), none_waits n)
  ]

  -- so many bundles were served as were asked for
  pub at_most : left ≡ mid → number ≡ most → length waiting ≤ 4096 → SameBut served told served.fault
      → Connects limits capacity first most input left out sent before now told
  at_most still all small is =
      closes now waiting [] None refl
      (subst (λ (i : Input). Consumes input.left i.left (bytes_of g.whole ++ waiting)) (sym still) g.read)
      (subst (λ (i : Input). TellsMore input.reads i.reads (reads_of g.whole ++ [])) (sym still)
      (subst (λ (l : List ReadAnswer). TellsMore input.reads mid.reads l)
      (sym (append-nil (reads_of g.whole))) g.reads)) small (is.0, is.1, is.2, is.3 ∙ g.fault)
      (inl (sym g.count ∙ all, refl))

ends_with : {A : Type 0} (most : ℕ) (whole : List (Exchange A)) (x : Exchange A) (left : Input)
    (fault : Option ConnFault) → fault_of x.ending x.sending ≡ fault → is_some fault ≡ true
    → Ran x.ending left → EndsBy most whole (Some x) [] x.rest left fault
ends_with most whole x left None e some ran = absurd (true≢false (sym some))
ends_with most whole x left (Some fault) e some ran = (refl, refl, e, ran)

-- after a bundle without a fault its end mark was read
pub ended_whole : (ending : BundleEnd) (sending : Sending) (fault : Option ConnFault)
    → fault_of ending sending ≡ fault → is_some fault ≡ false → ending ≡ Whole
ended_whole ending sending fault is none = (no_fault ending sending (is ∙ none_of fault none)).0

-- what is told of a bundle is told of it with other reads as well
pub tells_own : {A : Type 0} (x own : Exchange A) (ending : BundleEnd) (how : Outcome (Done A) (Refusal A))
    (takes : ℕ) (sending : Sending) (written : ℕ) (after : List (Taken A))
    → own ≡ record x { reads = own.reads }
    → IsReported x ending how takes sending written after
    → IsReported own ending how takes sending written after
tells_own {A} x own ending how takes sending written after same t = record {
  ending_is = ap (λ (y : Exchange A). y.ending) same ∙ t.ending_is;
  how_is = ap (λ (y : Exchange A). y.how) same ∙ t.how_is;
  takes_are = ap (λ (y : Exchange A). y.takes) same ∙ t.takes_are;
  sending_is = ap (λ (y : Exchange A). y.sending) same ∙ t.sending_is;
  written_is = t.written_is ∙ ap (λ (y : Exchange A). length y.gone) (sym same);
  after_is = ap (λ (y : Exchange A). y.after) same ∙ t.after_is;
}

module _ {A : Type 0} (limits : Limits) (capacity : ℕ) (first : RepositoryOf A) (input mid left : Input)
    (out way sent : Output) (before now history now' : List (Taken A)) (waiting waits : List ℕ)
    (served told : Served A) (number : ℕ) (answer : Answer A) (ending : BundleEnd) (sending : Sending)
    (written : ℕ)
    (g : Goes limits capacity first input mid out way before now waiting served number) (same : history ≡ now)
    (x : Exchange A)
    (v : ServesBundle limits capacity first waiting waits mid left way sent history x)
    (t : IsReported x ending answer.outcome answer.takes sending written now')
    (s : (told.bundles ≡ number + 1) × (told.last ≡ Some answer) × (told.written ≡ served.written + written)
    × (told.fault ≡ fault_of ending sending)) where
  chained : AreExchanges limits capacity first before [] (g.whole ++ x ∷ []) now'
  chained =
      subst (λ (h : List (Taken A)). AreExchanges limits capacity first before [] (g.whole ++ x ∷ []) h)
      t.after_is
      (chain_more (IsExchange limits capacity first) before [] g.whole now x g.chain
      (subst (λ (y : List (Taken A) × List ℕ). IsExchange limits capacity first y.0 y.1 x)
      (λ i. (same i, sym g.rest_is i)) v.is))

  was_read : Consumes input.left left.left (bytes_of (g.whole ++ x ∷ []) ++ x.rest)
  was_read =
      let b = bytes_of g.whole in
      let spell : (b ++ waiting) ++ v.flows.more ≡ bytes_of (g.whole ++ x ∷ []) ++ x.rest =
      append_assoc b waiting v.flows.more ∙ ap (λ (l : List ℕ). b ++ l) v.flows.spelled
      ∙ sym (append_assoc b x.consumed x.rest)
      ∙ ap (λ (l : List ℕ). l ++ x.rest) (bytes_more g.whole x) in
      subst (λ (l : List ℕ). Consumes input.left left.left l) spell
      (Consumes-trans input.left mid.left left.left (b ++ waiting) v.flows.more g.read v.flows.bytes)

  was_asked : TellsMore input.reads left.reads (reads_of (g.whole ++ x ∷ []))
  was_asked = subst (λ (l : List ReadAnswer). TellsMore input.reads left.reads l) (reads_more g.whole x)
      (Adds-trans input.reads mid.reads left.reads (reads_of g.whole) x.reads g.reads v.flows.told)

  was_used : TellsMore out.uses sent.uses (uses_of (g.whole ++ x ∷ []))
  was_used = subst (λ (l : List WriteAnswer). TellsMore out.uses sent.uses l) (uses_more g.whole x)
      (Adds-trans out.uses way.uses sent.uses (uses_of g.whole) x.uses g.uses v.flows.used)

  few_bytes : length (bytes_of (g.whole ++ x ∷ []) ++ x.rest) ≤ (number + 1) * limits.stream + 4096
  few_bytes =
      let long = ap (λ (l : List ℕ). length l) (sym (bytes_more g.whole x)) in
      let sum = length-append (bytes_of g.whole) x.consumed in
      let sum' = length-append (bytes_of (g.whole ++ x ∷ [])) x.rest in
      let b = g.bytes in
      let c = v.is.received.bound in
      omega (arith, long, sum, sum', b, c, mul_more number limits.stream)

  went_out : Appends out.taken sent.taken (replies_of g.whole ++ x.gone)
  went_out = Appends-trans out.taken way.taken sent.taken (replies_of g.whole) x.gone g.went v.flows.went

  was_written : told.written ≡ length (replies_of g.whole ++ x.gone)
  was_written =
      let w = g.written in
      let a = s.2 in
      let n = t.written_is in
      omega (arith, w, a, n, length-append (replies_of g.whole) x.gone)

  short_on : length (replies_of (g.whole ++ x ∷ [])) ≤ (number + 1) * greatest_reply
  short_on =
      let before = g.short in
      let more = v.flows.short in
      let long = ap (λ (l : List ℕ). length l) (sym (replies_more g.whole x)) in
      omega (arith, before, more, long, length-append (replies_of g.whole) (reply_of x.how))

  counted_one : told.bundles ≡ length (g.whole ++ x ∷ [])
  counted_one = let a = s.0 in let c = g.count in omega (arith, a, c, length-append g.whole (x ∷ []))

  tells_it : IsLastAnswer told.last (g.whole ++ x ∷ [])
  tells_it = subst (λ (o : Option (Answer A)). IsLastAnswer o (g.whole ++ x ∷ [])) (sym s.1)
      (g.whole, x, refl, sym t.how_is, sym t.takes_are)

  its_fault : fault_of x.ending x.sending ≡ told.fault
  its_fault = (λ i. fault_of (t.ending_is i) (t.sending_is i)) ∙ sym s.3

  pub at_fault : (most : ℕ) → number < most → is_some told.fault ≡ true
      → Connects limits capacity first most input left out sent before now' told
  at_fault most less some =
      let up : number + 1 ≤ most = omega (arith, less) in
      let le = within (number + 1) most limits.stream up in
      let b = few_bytes in
      record {
        whole = g.whole;
        last = Some x;
        chain = chained;
        ends = g.ends;
        joined = record {
          count = counted_one;
          few = let c = g.count in omega (arith, c, less, length-append g.whole (x ∷ []));
          tells = tells_it;
          final = [];
          reads = subst (λ (l : List ReadAnswer). TellsMore input.reads left.reads l)
              (sym (append-nil (reads_of (g.whole ++ x ∷ [])))) was_asked;
          uses = was_used;
          dropped = x.rest;
          read = was_read;
          bound = omega (arith, b, le);
          gone = replies_of g.whole ++ x.gone;
          gone_is = ap (λ (l : List ℕ). l ++ x.gone) g.sent_all ∙ gone_more g.whole x;
          kept = v.is.sent.rest;
          replies = sym (replies_more g.whole x)
              ∙ (ap (λ (l : List ℕ). replies_of g.whole ++ l) v.is.sent.reply_is
              ∙ sym (append_assoc (replies_of g.whole) x.gone v.is.sent.rest));
          went = went_out;
          wrote = was_written;
        };
        all = λ none. absurd (true≢false (sym some ∙ ap (λ (o : Option ConnFault). is_some o) none));
        end = ends_with most g.whole x left told.fault its_fault some v.flows.ran;
      }

  pub goes_on : is_some told.fault ≡ false
      → Goes limits capacity first input left out sent before now' waits told (number + 1)
  goes_on none =
      let both = no_fault x.ending x.sending (its_fault ∙ none_of told.fault none) in
      let gone : replies_of g.whole
      ++ x.gone ≡ replies_of (g.whole ++ x ∷ []) = ap (λ (l : List ℕ). replies_of g.whole ++ l)
      (gone_whole x.sending x.gone x.uses (reply_of x.how) both.1 v.is.sent) ∙ replies_more g.whole x in
      let told_ended : StateTells Ended limits x.consumed x.parts = subst
      (λ (e : BundleEnd). StateTells (state_at e) limits x.consumed x.parts) both.0 v.is.received.tells in
      let rest : waits ≡ x.rest = rest_waits x.ending x.rest waits both.0 v.flows.keeps in
      let long = ap (λ (l : List ℕ). length l) (sym (bytes_more g.whole x)) in
      let sum = length-append (bytes_of g.whole) x.consumed in
      let b = g.bytes in
      let c = told_ended.1 in
      record {
        whole = g.whole ++ x ∷ [];
        chain = chained;
        rest_is = last_more [] g.whole x ∙ sym rest;
        ends = whole_more (λ sending. sending ≡ sent_whole) g.whole x g.ends both.0 both.1;
        count = sym s.0 ∙ counted_one;
        counted = s.0;
        tells = tells_it;
        read = subst (λ (l : List ℕ). Consumes input.left left.left (bytes_of (g.whole ++ x ∷ []) ++ l))
            (sym rest) was_read;
        reads = was_asked;
        uses = was_used;
        bytes = omega (arith, long, sum, b, c, mul_more number limits.stream);
        none = λ z. absurd (omega (arith, z));
        went = subst (λ (l : List ℕ). Appends out.taken sent.taken l) gone went_out;
        written = was_written ∙ ap (λ (l : List ℕ). length l) gone;
        short = short_on;
        sent_all = sym gone ∙ (ap (λ (l : List ℕ). l ++ x.gone) g.sent_all ∙ gone_more g.whole x);
        fault = none_of told.fault none;
      }
