-- How a stretch of a connection goes on, and how a follower reads along with it.
use Rattle.std.specs.Prelude.{◌≡◌, ◌≢◌, ℕ, ◌+◌, ◌≤◌, Bool, true, false, List, [], ◌++◌, length, Option, Result, Ok, Err}
use Rattle.std.specs.Io.KnownBytes.{Appends, Consumes}
use Rattle.http.specs.declared.request.Request.{Request as Asked}
use Rattle.http_server.specs.declared.response.Response.{Response}
use Rattle.http_server.specs.declared.state.Config.{Config}
use Rattle.http_server.specs.declared.state.State.TheVariants.{Aborted, Open}
use Rattle.http_server.specs.Exchange.{Chain}
use Rattle.http_server.specs.History.{History, IsDone, IsServed}
use Rattle.hg_http.specs.declared.follow.Follower.{Follower}
use Rattle.hg_http.specs.Following.{AreRequests, FollowsAt, KeepsUp, limits_of}
use Rattle.hg_web.specs.declared.serve.Stretch.{Stretch}
use Rattle.hg_web.specs.declared.serve.Stretch.TheVariants.{Answered, Done, Refused}
use Rattle.hg_web.specs.Serving.{IsAnswered}

-- these bytes were read, and nothing was sent or called
pub record HasRead (old new : History) (more : List ℕ) : Type 0 where
  pub received : new.received ≡ old.received ++ more
  pub sent : new.sent ≡ old.sent
  pub calls : new.calls ≡ old.calls
  pub state : new.state ≡ old.state
  pub pending : new.pending ≡ old.pending

-- some of what waited was written, and nothing was read or called
pub record HasSent (old new : History) (out sent : Option (List ℕ)) : Type 0 where
  pub more : List ℕ
  pub written : Appends out sent more
  pub grows : new.sent ≡ old.sent ++ more
  pub received : new.received ≡ old.received
  pub calls : new.calls ≡ old.calls
  pub state : new.state ≡ old.state

-- a follower goes on in a request by these bytes, or up to its end
abbrev pub GoesOn : Bool → Follower → Follower → List ℕ → Type 0
GoesOn false old new more = KeepsUp new → KeepsUp old
    × ((stream : List ℕ) (count : ℕ) → FollowsAt old stream count → FollowsAt new (stream ++ more) count)
GoesOn true old new more = KeepsUp old
    × ((stream : List ℕ) (count : ℕ) → FollowsAt old stream count →
    AreRequests (limits_of new) (stream ++ more) (count + 1) × FollowsAt new (stream ++ more) (count + 1))

-- What a read brought: bytes that were given on, and others that there was no memory for. A follower has read all
-- of them.
pub record Brings (is_whole is_held : Bool) (old new : History) (from to : Follower)
    (input left : Option (List ℕ)) : Type 0 where
  pub given : List ℕ
  pub dropped : List ℕ
  pub read : Consumes input left (given ++ dropped)
  pub has_read : HasRead old new given
  pub all : is_held ≡ true → dropped ≡ []
  pub limits : limits_of to ≡ limits_of from
  pub follows : GoesOn is_whole from to (given ++ dropped)

-- how far a follower is in a stream of which so many requests were answered: within the next one, or at its end
abbrev pub IsWithin : Config → Bool → List ℕ → ℕ → Follower → Type 0
IsWithin config false stream answered f =
    KeepsUp f → (count : ℕ) × FollowsAt f stream count × (count ≤ answered)
IsWithin config true stream answered f =
    (count : ℕ) × AreRequests config.limits stream count × FollowsAt f stream count × (count ≤ answered + 1)

-- A stretch that waits: all answers were sent. Bytes that were read and not given on are dropped. All requests before
-- the one that is read were answered.
pub record Waits (config : Config) (h : History) (dropped : List ℕ) (is_whole : Bool) (f : Follower) : Type 0 where
  pub open_still : h.state ≡ Open
  pub all_sent : h.pending ≡ []
  pub limits : limits_of f ≡ config.limits
  pub within : IsWithin config is_whole (h.received ++ dropped) (length h.calls) f

-- what was read, written and called is what a stretch has, and bytes that were dropped
pub record Went {V : Type 0} (answers : V → Asked (List ℕ) → Response → V → Type 0) (old new : V)
    (input left out sent : Option (List ℕ)) (h : History) (dropped : List ℕ) : Type 0 where
  pub read : Consumes input left (h.received ++ dropped)
  pub written : Appends out sent h.sent
  pub calls : Chain answers old h.calls new

-- How a stretch ends: it is done, or all was answered, or it waits at a request that found no room, or it broke off.
abbrev pub EndsStretch : {V E : Type 0} → Config → (V → Asked (List ℕ) → Response → V → Type 0) → V → V →
    Option (List ℕ) → Option (List ℕ) → Option (List ℕ) → Option (List ℕ) → Follower → Result Stretch E → Type 0
EndsStretch config answers old new input left out sent f (Ok Done) =
    (h : History) × ∥ IsServed config h ∥₁ × Went answers old new input left out sent h []
    × (h.state ≢ Aborted) × IsDone h
EndsStretch config answers old new input left out sent f (Ok Answered) =
    (h : History) × ∥ IsServed config h ∥₁ × Went answers old new input left out sent h [] × IsAnswered config h
EndsStretch config answers old new input left out sent f (Ok (Refused is_whole)) =
    (h : History) × ∥ IsServed config h ∥₁
    × ((dropped : List ℕ) × Went answers old new input left out sent h dropped × Waits config h dropped is_whole f)
EndsStretch config answers old new input left out sent f (Err error) =
    (h : History) × ∥ IsServed config h ∥₁ × Went answers old new input left out sent h []

-- these bytes are the rest of the request that is followed
abbrev pub Passes : Bool → Follower → List ℕ → Type 0
Passes true f dropped = dropped ≡ []
Passes false f dropped = KeepsUp f
    × ((stream : List ℕ) (count : ℕ) → FollowsAt f stream count →
    AreRequests (limits_of f) (stream ++ dropped) (count + 1))
