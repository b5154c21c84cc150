-- A connection, once it is served.
use Rattle.std.proofs.Common.{◌≡◌, ◌≢◌, ℕ, ◌<◌, ◌⊎◌, inl, inr, Bool}
use Rattle.std.proofs.Common.{true, false, List, [], ◌∷◌, ◌++◌, length, Option}
use Rattle.std.proofs.Common.{refl, subst, sym, ap, ◌∙◌, arith, IsTrue, append-nil, append_assoc}
use Rattle.std.specs.List.{AllByRecursion, flat_map}
use Rattle.std.specs.Prelude.{Result, Ok, Err}
use Rattle.std.proofs.lemmas.Grind.{flat_map-append}
use Rattle.std.proofs.KnownBytes.{Appends-nil, Consumes-nil}
use Rattle.std.specs.Io.KnownBytes.{Appends, Consumes}
use mathlib.Core.List.{IsPrefix}
use Rattle.http.specs.declared.request.Request.{Request as Asked}
use Rattle.http1.specs.Message.{ReadsRequests}
use Rattle.http_server.specs.declared.response.Response.{Response}
use Rattle.http_server.specs.declared.state.Config.{Config}
use Rattle.http_server.specs.Exchange.{Chain}
use Rattle.http_server.specs.History.{History, IsServed, new_history}
use Rattle.http_server.proofs.KnownLemmas.{Appends-then, Consumes-then}
use Rattle.http_server.proofs.StreamLemmas.{Chain-append}
use Rattle.hg_web.specs.Serving.{calls_of, Converses, EndsConnection, EndsPlainly, IsAnswered, IsNoRoomAnswer, IsPast, IsRefused}
use Rattle.hg_web.specs.Serving.{lost_text, no_room_text, Past, read_of, sent_of}
use Rattle.hg_http.specs.declared.follow.Follower.{Follower}
use Rattle.hg_http.specs.Following.{limits_of}
use Rattle.hg_web.specs.code.Following.{Passes, Waits, Went}
use Rattle.hg_web.specs.declared.serve.ConnectionEnd.{ConnectionEnd}
use Rattle.hg_web.specs.declared.serve.ConnectionEnd.TheVariants.{NotStored}

-- what holds of each holds with one more
each_more : {X : Type 0} (P : X → Type 0) (xs : List X) (x : X) → AllByRecursion P xs → P x →
    AllByRecursion P (xs ++ x ∷ [])
each_more P [] x all last = (last, tt)
each_more P (y ∷ xs) x all last = (all.0, each_more P xs x all.1 last)

one_more : {X Y : Type 0} (f : X → List Y) (xs : List X) (x : X) → flat_map f (xs ++ x ∷ []) ≡ flat_map f xs ++ f x
one_more f xs x = flat_map-append f xs (x ∷ []) ∙ ap (λ l. flat_map f xs ++ l) (append-nil (f x))

-- a connection that has done nothing is served
pub new_served : (config : Config) → IsServed config new_history
new_served config = record {
  answered = [];
  text = [];
  rest = [];
  serves = (refl, refl);
  interim = [];
  is_interim = inl refl;
  stands = (refl, refl);
}

-- the stretches of a connection up to a place between two of them
pub record SoFar {V : Type 0} (config : Config) (answers : V → Asked (List ℕ) → Response → V → Type 0) (old now : V)
    (input left out sent : Option (List ℕ)) : Type 0 where
  pub past : List Past
  pub each : AllByRecursion (IsPast config) past
  pub calls : Chain answers old (flat_map calls_of past) now
  pub read : Consumes input left (flat_map read_of past)
  pub written : Appends out sent (flat_map sent_of past)

module _ {V : Type 0} (config : Config) (answers : V → Asked (List ℕ) → Response → V → Type 0) where
  pub begins : (old : V) (input out : Option (List ℕ)) → SoFar config answers old old input input out out
  begins old input out = record {
    past = [];
    each = tt;
    calls = refl;
    read = Consumes-nil input;
    written = Appends-nil out;
  }

  -- all that was read and written, with what came behind a stretch
  read_all : (old new : V) (input left rest out sent : Option (List ℕ)) (h : History) (dropped more : List ℕ) →
      Went answers old new input left out sent h dropped → Consumes left rest more →
      Consumes input rest (h.received ++ (dropped ++ more))
  read_all old new input left rest out sent h dropped more went passed =
      subst (λ bytes. Consumes input rest bytes) (append_assoc h.received dropped more)
      (Consumes-then input left rest (h.received ++ dropped) more went.read passed)

  pub one_refused : (old now new : V) (input left middle rest out sent between wrote : Option (List ℕ))
      (h : History) (dropped more : List ℕ) → SoFar config answers old now input left out sent →
      IsRefused config h (dropped ++ more) →
      Went answers now new left middle sent between h dropped → Consumes middle rest more →
      Appends between wrote (no_room_text false) → SoFar config answers old new input rest out wrote
  one_refused old now new input left middle rest out sent between wrote h dropped more x is went passed answer =
      let last : Past = record { history = h; dropped = dropped ++ more; has_refused = true } in
      record {
        past = x.past ++ last ∷ [];
        each = each_more (IsPast config) x.past last x.each is;
        calls = subst (λ cs. Chain answers old cs new) (sym (one_more calls_of x.past last))
            (Chain-append answers (flat_map calls_of x.past) h.calls old now new x.calls went.calls);
        read = subst (λ bytes. Consumes input rest bytes) (sym (one_more read_of x.past last))
            (Consumes-then input left rest (flat_map read_of x.past) (read_of last) x.read
            (read_all now new left middle rest sent between h dropped more went passed));
        written = subst (λ bytes. Appends out wrote bytes) (sym (one_more sent_of x.past last))
            (Appends-then out sent wrote (flat_map sent_of x.past) (sent_of last) x.written
            (Appends-then sent between wrote h.sent (no_room_text false) went.written answer));
      }

  -- a stretch of which each request was answered
  pub one_answered : (old now new : V) (input left rest out sent wrote : Option (List ℕ)) (h : History) →
      SoFar config answers old now input left out sent → IsAnswered config h →
      Went answers now new left rest sent wrote h [] → SoFar config answers old new input rest out wrote
  one_answered old now new input left rest out sent wrote h x is went =
      let last : Past = record { history = h; dropped = []; has_refused = false } in
      record {
        past = x.past ++ last ∷ [];
        each = each_more (IsPast config) x.past last x.each is;
        calls = subst (λ cs. Chain answers old cs new) (sym (one_more calls_of x.past last))
            (Chain-append answers (flat_map calls_of x.past) h.calls old now new x.calls went.calls);
        read = subst (λ bytes. Consumes input rest bytes) (sym (one_more read_of x.past last))
            (Consumes-then input left rest (flat_map read_of x.past) (read_of last) x.read went.read);
        written = subst (λ bytes. Appends out wrote bytes) (sym (one_more sent_of x.past last))
            (Appends-then out sent wrote (flat_map sent_of x.past) (sent_of last) x.written
            (subst (λ bytes. Appends sent wrote bytes) (sym (append-nil h.sent)) went.written));
      }

  pub ends_with : (breaks : Type 0) (old now new : V)
      (input left middle rest out sent between wrote : Option (List ℕ)) (h : History) (dropped more answer : List ℕ) →
      SoFar config answers old now input left out sent → ∥ IsServed config h ∥₁ →
      Went answers now new left middle sent between h dropped → Consumes middle rest more →
      Appends between wrote answer → EndsConnection breaks config h (dropped ++ more) answer →
      Converses breaks config answers old new input rest out wrote
  ends_with breaks old now new input left middle rest out sent between wrote h dropped more answer x served went
      passed last ends =
      record {
        past = x.past;
        each = x.each;
        history = h;
        served = served;
        calls = Chain-append answers (flat_map calls_of x.past) h.calls old now new x.calls went.calls;
        passed = dropped ++ more;
        answer = answer;
        ends = ends;
        read = Consumes-then input left rest (flat_map read_of x.past) (h.received ++ (dropped ++ more)) x.read
            (read_all now new left middle rest sent between h dropped more went passed);
        written = Appends-then out sent wrote (flat_map sent_of x.past) (h.sent ++ answer) x.written
            (Appends-then sent between wrote h.sent answer went.written last);
      }

  -- where no request of the last stretch was refused
  pub ends_plainly : (breaks : Type 0) (old now new : V) (input left rest out sent wrote : Option (List ℕ))
      (h : History) → SoFar config answers old now input left out sent → ∥ IsServed config h ∥₁ →
      Went answers now new left rest sent wrote h [] → EndsPlainly breaks h →
      Converses breaks config answers old new input rest out wrote
  ends_plainly breaks old now new input left rest out sent wrote h x served went ends =
      ends_with breaks old now new input left rest rest out sent wrote wrote h [] [] [] x served went
      (Consumes-nil rest) (Appends-nil wrote) (inl (refl, refl, ends))

-- the request that a stretch came to, and the rest of it
pub is_refused : (config : Config) (h : History) (dropped more : List ℕ) (is_whole : Bool) (f : Follower) →
    ∥ IsServed config h ∥₁ → Waits config h dropped is_whole f → Passes is_whole f more →
    IsRefused config h (dropped ++ more)
is_refused config h dropped more true f served waits none =
    let at = waits.within in
    let all : h.received ++ dropped ≡ h.received ++ (dropped ++ more) =
    ap (λ (t : List ℕ). h.received ++ t) (sym (ap (λ (t : List ℕ). dropped ++ t) none ∙ append-nil dropped)) in
    record {
      served = served;
      open_still = waits.open_still;
      all_sent = waits.all_sent;
      requests = at.1.0;
      whole = subst (λ s. ReadsRequests config.limits s at.1.0 []) all at.1.1;
      one = omega (arith, at.1.2, at.3);
      none_dropped = λ (wrong : true ≡ false). absurd (let e : true ≡ false = wrong in cc);
    }
is_refused config h dropped more false f served waits passes =
    let at = waits.within passes.0 in
    let whole = passes.1 (h.received ++ dropped) at.0 at.1 in
    record {
      served = served;
      open_still = waits.open_still;
      all_sent = waits.all_sent;
      requests = whole.0;
      whole = subst (λ l. ReadsRequests l (h.received ++ (dropped ++ more)) whole.0 []) waits.limits
          (subst (λ s. ReadsRequests (limits_of f) s whole.0 []) (append_assoc h.received dropped more) whole.1);
      one = omega (arith, whole.2, at.2);
      none_dropped = λ (wrong : true ≡ false). absurd (let e : true ≡ false = wrong in cc);
    }

-- how a refused request ends a connection
pub ends_refused : (breaks : Type 0) (config : Config) (h : History) (dropped more : List ℕ) (is_whole : Bool)
    (f : Follower) (answer : List ℕ) → breaks → ∥ IsServed config h ∥₁ → Waits config h dropped is_whole f →
    IsPrefix answer lost_text ⊎ (Passes is_whole f more × ((is_last : Bool) × IsPrefix answer (no_room_text is_last))) →
    EndsConnection breaks config h (dropped ++ more) answer
ends_refused breaks config h dropped more is_whole f answer broke served waits (inl lost) =
    inr (inl (broke, waits.open_still, waits.all_sent, lost))
ends_refused breaks config h dropped more is_whole f answer broke served waits (inr front) =
    inr (inr (is_refused config h dropped more is_whole f served waits front.0, inr (broke, front.1)))

pub ends_last : (breaks : Type 0) (config : Config) (h : History) (dropped more : List ℕ) (is_whole : Bool)
    (f : Follower) (answer : List ℕ) → ∥ IsServed config h ∥₁ → Waits config h dropped is_whole f →
    Passes is_whole f more → answer ≡ no_room_text true → EndsConnection breaks config h (dropped ++ more) answer
ends_last breaks config h dropped more is_whole f answer served waits passes is =
    inr (inr (is_refused config h dropped more is_whole f served waits passes, inl is))

-- a failure is no success
pub is_broken : {T E : Type 0} (result : Result T E) (error : E) (value : T) → result ≡ Err error → result ≢ Ok value
is_broken result error value is = λ done. let clash = sym is ∙ done in cc

-- another word for a connection that breaks off
answer_as : (A B : Type 0) (answer : List ℕ) → (A → B) → IsNoRoomAnswer A answer → IsNoRoomAnswer B answer
answer_as A B answer f (inl is) = inl is
answer_as A B answer f (inr front) = inr (f front.0, front.1)

plainly_as : (A B : Type 0) (h : History) → (A → B) → EndsPlainly A h → EndsPlainly B h
plainly_as A B h f (inl broke) = inl (f broke)
plainly_as A B h f (inr lost) = inr lost

ends_as : (A B : Type 0) (config : Config) (h : History) (passed answer : List ℕ) → (A → B) →
    EndsConnection A config h passed answer → EndsConnection B config h passed answer
ends_as A B config h passed answer f (inl none) = inl (none.0, none.1, plainly_as A B h f none.2)
ends_as A B config h passed answer f (inr (inl broke)) = inr (inl (f broke.0, broke.1, broke.2, broke.3))
ends_as A B config h passed answer f (inr (inr refused)) = inr (inr (refused.0, answer_as A B answer f refused.1))

pub converses_as : {V : Type 0} (A B : Type 0) (config : Config)
    (answers : V → Asked (List ℕ) → Response → V → Type 0) (old new : V) (input left out sent : Option (List ℕ)) →
    (A → B) → Converses A config answers old new input left out sent →
    Converses B config answers old new input left out sent
converses_as A B config answers old new input left out sent f x = record {
  past = x.past;
  each = x.each;
  history = x.history;
  served = x.served;
  calls = x.calls;
  passed = x.passed;
  answer = x.answer;
  ends = ends_as A B config x.history x.passed x.answer f x.ends;
  read = x.read;
  written = x.written;
}

-- and another word for what it began with
pub converses_from : {V : Type 0} (breaks : Type 0) (config : Config)
    (answers : V → Asked (List ℕ) → Response → V → Type 0) (old old₂ new : V) (input left out sent : Option (List ℕ)) →
    old ≡ old₂ → Converses breaks config answers old new input left out sent →
    Converses breaks config answers old₂ new input left out sent
converses_from breaks config answers old old₂ new input left out sent is x =
    subst (λ from. Converses breaks config answers from new input left out sent) is x

-- what is told where the store did not fail
pub not_failed : (failed : Bool) (end : ConnectionEnd) → (failed ≡ true → end ≡ NotStored) →
    end ≢ NotStored → failed ≡ false
not_failed true end says other = absurd (other (says refl))
not_failed false end says other = refl

-- what waits to be sent where nothing wants to be written
pub nothing_waits : (wants : Bool) (pending : List ℕ) → (0 < length pending → IsTrue wants) → wants ≡ false →
    pending ≡ []
nothing_waits wants [] forth is = refl
nothing_waits wants (byte ∷ bytes) forth is = let wanted = forth (omega arith) in cc
