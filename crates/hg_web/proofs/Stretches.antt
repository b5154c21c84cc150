-- A stretch of a connection, as it goes on.
use Rattle.std.proofs.Common.{◌≡◌, ◌≢◌, ℕ, ◌+◌, ◌≤◌, Bool, true, false, not}
use Rattle.std.proofs.Common.{List, [], ◌∷◌, ◌++◌, length, Option, None, Some, Result, Err}
use Rattle.std.proofs.Common.{refl, subst, sym, ap, ◌∙◌, arith, append-nil, append_assoc, length-append}
use Rattle.std.specs.Io.KnownBytes.{Appends, Consumes, Keeps}
use Rattle.std.proofs.KnownBytes.{Appends-nil, Consumes-kept, Consumes-nil}
use Rattle.http.specs.declared.request.Request.{Request as Asked}
use Rattle.http1.specs.Message.{ReadsRequests}
use Rattle.http_server.specs.declared.response.Response.{Response}
use Rattle.http_server.specs.declared.state.Config.{Config}
use Rattle.http_server.specs.declared.state.State.{State}
use Rattle.http_server.specs.declared.state.State.TheVariants.{Aborted, Closing, Open, Upgraded}
use Rattle.http_server.specs.Exchange.{Call, Calls, Chain}
use Rattle.http_server.specs.History.{AreAllCalled, History, IsDone, IsQuiet, IsServed, Rests, new_history}
use Rattle.http_server.proofs.KnownLemmas.{Appends-kept, Appends-then, Consumes-then}
use Rattle.http_server.proofs.StreamLemmas.{Chain-append}
use Rattle.hg_http.specs.declared.follow.Follower.{Follower}
use Rattle.hg_http.specs.Following.{AreRequests, FollowsAt, KeepsUp, limits_of}
use Rattle.hg_commit.specs.Clients.{KeptSeen}
use Rattle.hg_commit.specs.Orders.{ReceiptView}
use Rattle.hg_parts.specs.Repository.{Repository}
use Rattle.hg_push.specs.Run.{RepositoryOf}
use Rattle.hg_web.specs.Answering.{Responds, WireView}
use Rattle.hg_web.specs.Serving.{IsAnswered}
use Rattle.hg_web.specs.code.Following.{Brings, EndsStretch, GoesOn, HasSent, IsWithin, Waits, Went}
use Rattle.hg_web.specs.declared.serve.Stretch.{Stretch}

module _ {A S : Type 0} (capacity : ℕ) (first : RepositoryOf A) (kept : Bool → ReceiptView → KeptSeen A → ℕ → Type 0)
    (page metrics : S → Repository A → List ℕ → Type 0)
  where
    abbrev Says : WireView A S → Asked (List ℕ) → Response → WireView A S → Type 0
    Says old request response new = Responds capacity first kept page metrics old request response new

    -- each call counts one more
    counts : (calls : List Call) (old new : WireView A S) → Chain Says old calls new →
        new.answered ≡ old.answered + length calls
    counts [] old new x = ap (λ (w : WireView A S). w.answered) x ∙ omega arith
    counts (c ∷ calls) old new x = omega (arith, counts calls x.0 new x.2, x.1.counts)

    none_called : (calls : List Call) (old new : WireView A S) → Chain Says old calls new →
        new.answered ≡ old.answered → new ≡ old
    none_called [] old new x same = x
    none_called (c ∷ calls) old new x same = absurd (omega (arith, same, counts (c ∷ calls) old new x))

    -- where the count has not changed, nothing was told
    pub was_not_called : (old new : WireView A S) (before after : List Call) → Calls Says old new before after →
        new.answered ≡ old.answered → new ≡ old
    was_not_called old new before after x same = none_called x.0 old new x.2 same

-- bytes in other groups
in_groups : (received given dropped next : List ℕ) → next ≡ received ++ given →
    (received ++ []) ++ (given ++ dropped) ≡ next ++ dropped
in_groups received given dropped next is =
    ap (λ (t : List ℕ). t ++ (given ++ dropped)) (append-nil received) ∙ sym (append_assoc received given dropped)
    ∙ ap (λ (t : List ℕ). t ++ dropped) (sym is)

module _ {V : Type 0} (answers : V → Asked (List ℕ) → Response → V → Type 0) (old : V) where
  -- a stretch that begins
  pub went_none : (input out : Option (List ℕ)) (h : History) → h ≡ new_history →
      Went answers old old input input out out h []
  went_none input out h is = subst (λ k. Went answers old old input input out out k []) (sym is) (record {
    read = Consumes-nil input;
    written = Appends-nil out;
    calls = refl;
  })

  -- what was received is answered
  pub went_on : (now new : V) (input left out sent : Option (List ℕ)) (h next : History) →
      Went answers old now input left out sent h [] → Calls answers now new h.calls next.calls → IsQuiet h next →
      Went answers old new input left out sent next []
  went_on now new input left out sent h next went calls quiet = record {
    read = subst (λ bytes. Consumes input left (bytes ++ [])) (sym quiet.0) went.read;
    written = subst (λ bytes. Appends out sent bytes) (sym quiet.2) went.written;
    calls = subst (λ cs. Chain answers old cs new) (sym calls.1)
        (Chain-append answers h.calls calls.0 old now new went.calls calls.2);
  }

  -- what waits is sent
  pub went_sent : (now : V) (input left out sent wrote : Option (List ℕ)) (h next : History) →
      Went answers old now input left out sent h [] → HasSent h next sent wrote →
      Went answers old now input left out wrote next []
  went_sent now input left out sent wrote h next went has = record {
    read = subst (λ bytes. Consumes input left (bytes ++ [])) (sym has.received) went.read;
    written = subst (λ bytes. Appends out wrote bytes) (sym has.grows)
        (Appends-then out sent wrote h.sent has.more went.written has.written);
    calls = subst (λ cs. Chain answers old cs now) (sym has.calls) went.calls;
  }

  -- more is read
  pub went_read : (now : V) (input left rest out sent : Option (List ℕ)) (h next : History)
      (is_whole is_held : Bool) (from to : Follower) → Went answers old now input left out sent h [] →
      (b : Brings is_whole is_held h next from to left rest) → Went answers old now input rest out sent next b.dropped
  went_read now input left rest out sent h next is_whole is_held from to went b = record {
    read = subst (λ bytes. Consumes input rest bytes)
        (in_groups h.received b.given b.dropped next.received b.has_read.received)
        (Consumes-then input left rest (h.received ++ []) (b.given ++ b.dropped) went.read b.read);
    written = subst (λ bytes. Appends out sent bytes) (sym b.has_read.sent) went.written;
    calls = subst (λ cs. Chain answers old cs now) (sym b.has_read.calls) went.calls;
  }

  -- a writer or a reader keeps what it has
  pub went_kept : (now : V) (input left rest out sent wrote : Option (List ℕ)) (h : History) (dropped : List ℕ) →
      Went answers old now input left out sent h dropped → Keeps left rest → Keeps sent wrote →
      Went answers old now input rest out wrote h dropped
  went_kept now input left rest out sent wrote h dropped went keeps stays = record {
    read = Consumes-kept input left rest (h.received ++ dropped) went.read keeps;
    written = Appends-kept out sent wrote h.sent went.written stays;
    calls = went.calls;
  }

pub not_false : (b : Bool) → not b ≡ false → b ≡ true
not_false true is = refl
not_false false is = cc

pub kept_same : (a : Option (List ℕ)) → Keeps a a
kept_same None = tt
kept_same (Some xs) = refl

-- what is no other state than open
pub is_open : (s : State) → (s ≢ Open → ⊥) → s ≡ Open
is_open Open none = refl
is_open (Closing reason) none = absurd (none (λ e. cc))
is_open Upgraded none = absurd (none (λ e. cc))
is_open Aborted none = absurd (none (λ e. cc))

-- what is not done, and has nothing to send, is open
pub open_still : (h : History) → h.pending ≡ [] → (IsDone h → ⊥) → h.state ≡ Open
open_still h none more = is_open h.state (λ other. more (other, ap length none))

-- a follower within a stream is in it
follows_in : (config : Config) (is_whole : Bool) (stream : List ℕ) (answered : ℕ) (f : Follower) →
    IsWithin config is_whole stream answered f → KeepsUp f → (count : ℕ) × FollowsAt f stream count
follows_in config false stream answered f within up = let at = within up in (at.0, at.1)
follows_in config true stream answered f within up = (within.0, within.2)

-- where a connection that rests is followed, all requests before the one that is followed were answered
ready : (config : Config) (h : History) (f : Follower) (stream : List ℕ) → AreAllCalled config.limits h →
    h.received ≡ stream → limits_of f ≡ config.limits → (KeepsUp f → (count : ℕ) × FollowsAt f stream count) →
    IsWithin config false stream (length h.calls) f
ready config h f stream all is limits follows = λ up.
    let at = follows up in
    let whole = at.1.whole in (
      at.0,
      at.1,
      omega (
        arith,
        whole.2,
        all whole.0 at.1.rest (subst (λ s. ReadsRequests config.limits s whole.0 at.1.rest) (sym is)
            (subst (λ l. ReadsRequests l stream whole.0 at.1.rest) limits whole.1)),
      ),
    )

-- a stretch waits still once it was answered and all was sent
within_later : (config : Config) (is_whole : Bool) (stream : List ℕ) (answered now : ℕ) (f : Follower) →
    answered ≤ now → IsWithin config is_whole stream answered f → IsWithin config is_whole stream now f
within_later config false stream answered now f more within = λ up.
    let at = within up in (at.0, at.1, omega (arith, at.2, more))
within_later config true stream answered now f more within =
    (within.0, within.1, within.2, omega (arith, within.3, more))

pub waits_later : (config : Config) (h next : History) (is_whole : Bool) (f : Follower) →
    Waits config h [] is_whole f → next.received ≡ h.received → length h.calls ≤ length next.calls →
    next.state ≡ Open → next.pending ≡ [] → Waits config next [] is_whole f
waits_later config h next is_whole f waits same more still none = record {
  open_still = still;
  all_sent = none;
  limits = waits.limits;
  within = subst (λ s. IsWithin config is_whole s (length next.calls) f)
      (ap (λ (t : List ℕ). t ++ []) (sym same))
      (within_later config is_whole (h.received ++ []) (length h.calls) (length next.calls) f more waits.within);
}

-- where it goes on within a request, or to its end
goes_within : (config : Config) (is_whole : Bool) (from to : Follower) (stream more : List ℕ) (answered : ℕ) →
    limits_of to ≡ config.limits → IsWithin config false stream answered from → GoesOn is_whole from to more →
    IsWithin config is_whole (stream ++ more) answered to
goes_within config false from to stream more answered limits within goes = λ up.
    let on = goes up in
    let at = within on.0 in
    (at.0, on.1 stream at.0 at.1, at.2)
goes_within config true from to stream more answered limits within goes =
    let at = within goes.0 in
    let on = goes.1 stream at.0 at.1 in (
      at.0 + 1,
      subst (λ l. AreRequests l (stream ++ more) (at.0 + 1)) limits on.0,
      on.1,
      omega (arith, at.2),
    )

-- a stretch waits once more was read
pub waits_read : (config : Config) (h rested next : History) (is_whole now_whole is_held : Bool) (from to : Follower)
    (left rest : Option (List ℕ)) → Waits config h [] is_whole from → Rests config rested →
    rested.state ≡ Open → rested.pending ≡ [] → h.received ≡ rested.received → h.calls ≡ rested.calls →
    (b : Brings now_whole is_held h next from to left rest) → Waits config next b.dropped now_whole to
waits_read config h rested next is_whole now_whole is_held from to left rest waits rests still none same called b =
    let limits = b.limits ∙ waits.limits in
    let stream = h.received ++ [] in
    let all = (rests still (omega (arith, ap length none))).1 in
    let within = subst (λ n. IsWithin config false stream n from) (ap length (sym called))
    (ready config rested from stream all (sym same ∙ sym (append-nil h.received)) waits.limits
    (follows_in config is_whole stream (length h.calls) from waits.within)) in
    record {
      open_still = b.has_read.state ∙ waits.open_still;
      all_sent = b.has_read.pending ∙ waits.all_sent;
      limits = limits;
      within = subst (λ s. IsWithin config now_whole s (length next.calls) to)
          (in_groups h.received b.given b.dropped next.received b.has_read.received)
          (subst (λ n. IsWithin config now_whole (stream ++ (b.given ++ b.dropped)) n to)
          (ap length (sym b.has_read.calls))
          (goes_within config now_whole from to stream (b.given ++ b.dropped) (length h.calls) limits within b.follows));
    }

-- where it rests at the end of a request, all were answered
pub all_answered : (config : Config) (h rested : History) (is_whole : Bool) (f : Follower) → is_whole ≡ true →
    ∥ IsServed config h ∥₁ → Waits config h [] is_whole f → Rests config rested → rested.state ≡ Open →
    rested.pending ≡ [] → h.received ≡ rested.received → h.calls ≡ rested.calls → IsAnswered config h
all_answered config h rested is_whole f whole served waits rests still none same called =
    let there : IsWithin config true (h.received ++ []) (length h.calls) f =
    subst (λ b. IsWithin config b (h.received ++ []) (length h.calls) f) whole waits.within in
    let all = (rests still (omega (arith, ap length none))).1 in
    let few = all there.1.0 [] (subst (λ s. ReadsRequests config.limits s there.1.0 []) (append-nil h.received ∙ same)
    there.1.1) in
    record {
      served = served;
      open_still = waits.open_still;
      all_sent = waits.all_sent;
      requests = there.1.0;
      whole = there.1.1;
      one = omega (arith, few, ap length called);
      none_dropped = λ _. refl;
    }

-- a stretch that begins waits
pub waits_first : (config : Config) (h : History) (f : Follower) → h ≡ new_history → FollowsAt f [] 0 →
    limits_of f ≡ config.limits → Waits config h [] false f
waits_first config h f is at limits = subst (λ k. Waits config k [] false f) (sym is) (record {
  open_still = refl;
  all_sent = refl;
  limits = limits;
  within = λ up. (0, at, omega arith);
})

-- where nothing was dropped
pub waits_all : (config : Config) (h : History) (dropped : List ℕ) (is_whole : Bool) (f : Follower) → dropped ≡ [] →
    Waits config h dropped is_whole f → Waits config h [] is_whole f
waits_all config h dropped is_whole f none waits = subst (λ d. Waits config h d is_whole f) none waits

pub went_all : {V : Type 0} (answers : V → Asked (List ℕ) → Response → V → Type 0) (old now : V)
    (input left out sent : Option (List ℕ)) (h : History) (dropped : List ℕ) → dropped ≡ [] →
    Went answers old now input left out sent h dropped → Went answers old now input left out sent h []
went_all answers old now input left out sent h dropped none went =
    subst (λ d. Went answers old now input left out sent h d) none went

-- where nothing was told
pub went_told : {V : Type 0} (answers : V → Asked (List ℕ) → Response → V → Type 0) (old now new : V)
    (input left out sent : Option (List ℕ)) (h : History) (dropped : List ℕ) → new ≡ now →
    Went answers old now input left out sent h dropped → Went answers old new input left out sent h dropped
went_told answers old now new input left out sent h dropped same went =
    subst (λ w. Went answers old w input left out sent h dropped) (sym same) went

-- a stretch that breaks off
pub ends_err : {V E : Type 0} (config : Config) (answers : V → Asked (List ℕ) → Response → V → Type 0) (old new : V)
    (input left out sent : Option (List ℕ)) (f : Follower) (result : Result Stretch E) (error : E) →
    result ≡ Err error → (h : History) → ∥ IsServed config h ∥₁ → Went answers old new input left out sent h [] →
    EndsStretch config answers old new input left out sent f result
ends_err config answers old new input left out sent f result error is h served went =
    subst (λ r. EndsStretch config answers old new input left out sent f r) (sym is) (h, served, went)

pub calls_grow : (before answered after more : List Call) → answered ≡ before ++ more → after ≡ answered →
    length before ≤ length after
calls_grow before answered after more is same = omega (arith, ap length is, ap length same, length-append before more)

-- how a stretch ended, where its result and its settings are known by other names
pub ended_as : {V E : Type 0} (config known : Config) (answers : V → Asked (List ℕ) → Response → V → Type 0)
    (old new : V) (input left out sent : Option (List ℕ)) (f : Follower) (result told : Result Stretch E) →
    config ≡ known → result ≡ told → EndsStretch config answers old new input left out sent f result →
    EndsStretch known answers old new input left out sent f told
ended_as config known answers old new input left out sent f result told same is x =
    subst (λ k. EndsStretch k answers old new input left out sent f told) same
    (subst (λ r. EndsStretch config answers old new input left out sent f r) is x)
