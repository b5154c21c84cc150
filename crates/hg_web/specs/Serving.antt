-- A connection over HTTP: all of it.
use Rattle.std.specs.Prelude.{ℕ, ◌≡◌, ◌≢◌, ◌+◌, ◌≤◌, ◌⊎◌, ⊤, Bool, true, false, List, [], ◌∷◌, ◌++◌, length, Option, codes}
use Rattle.std.specs.List.{AllByRecursion, flat_map}
use Rattle.std.specs.Io.KnownBytes.{Appends, Consumes}
use mathlib.Core.List.{IsPrefix}
use Rattle.http.specs.declared.request.Request.{Request as Asked}
use Rattle.http1.specs.Message.{Request, ReadsRequests}
use Rattle.http_server.specs.declared.response.Response.{Response}
use Rattle.http_server.specs.declared.state.Config.{Config}
use Rattle.http_server.specs.declared.state.State.TheVariants.{Aborted, Open}
use Rattle.http_server.specs.Exchange.{Call, Chain}
use Rattle.http_server.specs.History.{History, IsDone, IsServed}
use Rattle.hg_parts.specs.Repository.{Repository}
use Rattle.hg_parts.specs.declared.item.CutReason.TheVariants.{ReadFailed}
use Rattle.hg_push.specs.declared.outcome.Outcome.TheVariants.{Aborted as IsAborted}
use Rattle.hg_push.specs.declared.outcome.Reason.TheVariants.{Cut, NoMemory}
use Rattle.hg_push.specs.Reply.{reply_of}
use Rattle.hg_push.specs.Run.{RepositoryOf}
use Rattle.hg_commit.specs.Clients.{IsLater, KeptSeen}
use Rattle.hg_commit.specs.Orders.{ReceiptView}
use Rattle.hg_http.specs.Policies.{Asked as AskedPolicy}
use Rattle.hg_web.specs.declared.serve.ConnectionEnd.{ConnectionEnd}
use Rattle.hg_web.specs.declared.serve.ConnectionEnd.TheVariants.{Done, NotStored}
use Rattle.hg_web.specs.declared.terms.WebTerms.{WebTerms}
use Rattle.hg_web.specs.Answering.{Responds, WireView}

abbrev pub line : List ℕ → List ℕ
line text = text ++ 13 ∷ 10 ∷ []

-- the field of the last answer
abbrev pub closing : Bool → List ℕ
closing true = line (codes "connection: close")
closing false = []

-- The answer to a request that found no room: the reply to a push that is aborted for lack of memory. It may be the
-- last one of the connection.
abbrev pub no_room_text : Bool → List ℕ
no_room_text is_last = line (codes "HTTP/1.1 200 OK") ++ line (codes "content-type: application/mercurial-0.1")
    ++ closing is_last ++ line (codes "content-length: 60") ++ line [] ++ reply_of {A = ⊤} (IsAborted NoMemory)

-- The answer to a request whose body did not come whole: the reply to a push whose bytes could not be read. It is the
-- last one of the connection.
abbrev pub lost_text : List ℕ
lost_text = line (codes "HTTP/1.1 200 OK") ++ line (codes "content-type: application/mercurial-0.1")
    ++ closing true ++ line (codes "content-length: 62") ++ line [] ++ reply_of {A = ⊤} (IsAborted (Cut ReadFailed))

-- A stretch of a connection that is over: requests that were answered, and maybe one that found no room. It has the
-- bytes of that request that were read and dropped.
pub record Past : Type 0 where
  pub history : History
  pub dropped : List ℕ
  pub has_refused : Bool

abbrev pub read_of : Past → List ℕ
read_of r = r.history.received ++ r.dropped

abbrev pub calls_of : Past → List Call
calls_of r = r.history.calls

-- the answer that says that a request found no room, if one did
abbrev pub refusal_if : Bool → List ℕ
refusal_if true = no_room_text false
refusal_if false = []

-- what was sent for it: the answers, and the one that says that a request found no room
abbrev pub sent_of : Past → List ℕ
sent_of r = r.history.sent ++ refusal_if r.has_refused

-- how many requests were not answered by a call
abbrev pub refused_if : Bool → ℕ
refused_if true = 1
refused_if false = 0

-- The requests of a stretch were served as HTTP has it, and what was sent answers those before the refused one, if there
-- is one. All bytes of the stretch are whole requests of HTTP's grammar: those that were answered, and the refused one,
-- which no call was made for. Nothing is dropped of another.
pub record IsPast (config : Config) (r : Past) : Type 0 where
  pub served : ∥ IsServed config r.history ∥₁
  pub open_still : r.history.state ≡ Open
  pub all_sent : r.history.pending ≡ []
  pub requests : List Request
  pub whole : ReadsRequests config.limits (read_of r) requests []
  pub one : length requests ≤ length (calls_of r) + refused_if r.has_refused
  pub none_dropped : r.has_refused ≡ false → r.dropped ≡ []

-- a stretch whose last request found no room
abbrev pub IsRefused : Config → History → List ℕ → Type 0
IsRefused config history dropped =
    IsPast config (record { history = history; dropped = dropped; has_refused = true })

-- a stretch of which each request was answered
abbrev pub IsAnswered : Config → History → Type 0
IsAnswered config history = IsPast config (record { history = history; dropped = []; has_refused = false })

-- what was sent to the last request, where that was refused: all of the answer, or a front of it where the
-- connection broke off
abbrev pub IsNoRoomAnswer : Type 0 → List ℕ → Type 0
IsNoRoomAnswer breaks answer = (answer ≡ no_room_text true)
    ⊎ (breaks × ((is_last : Bool) × IsPrefix answer (no_room_text is_last)))

-- a stretch without a refused request: memory was never refused for its answers, and HTTP has nothing more to do, by
-- the library's own word for it; or the connection broke off
abbrev pub EndsPlainly : Type 0 → History → Type 0
EndsPlainly breaks history = breaks ⊎ ((history.state ≢ Aborted) × IsDone history)

-- How a connection ends, with the bytes that were dropped and those that were sent after the last stretch. There
-- are none; or the connection broke off within a request, to which a front of the answer that says so was sent, or
-- nothing; or a request found no room, and was refused.
abbrev pub EndsConnection : Type 0 → Config → History → List ℕ → List ℕ → Type 0
EndsConnection breaks config history passed answer =
    ((passed ≡ []) × (answer ≡ []) × EndsPlainly breaks history)
    ⊎ (breaks × (history.state ≡ Open) × (history.pending ≡ []) × IsPrefix answer lost_text)
    ⊎ (IsRefused config history passed × IsNoRoomAnswer breaks answer)

-- A connection: stretches that are over, and a last one. What was read are the bytes of these,
-- in order, and what was written is what was sent in them, in order, and each call goes on from the one before.
pub record Converses {V : Type 0} (breaks : Type 0) (config : Config)
    (answers : V → Asked (List ℕ) → Response → V → Type 0) (old new : V)
    (input left out sent : Option (List ℕ)) : Type 0 where
  pub past : List Past
  pub each : AllByRecursion (IsPast config) past
  pub history : History
  pub served : ∥ IsServed config history ∥₁
  pub calls : Chain answers old (flat_map calls_of past ++ history.calls) new
  pub passed : List ℕ
  pub answer : List ℕ
  pub ends : EndsConnection breaks config history passed answer
  pub read : Consumes input left (flat_map read_of past ++ (history.received ++ passed))
  pub written : Appends out sent (flat_map sent_of past ++ (history.sent ++ answer))

-- What was received begins with requests of HTTP's grammar, and what was sent, or waits, is in order the
-- responses to them: each reports the answer to its request, and each goes on from what the client had seen
-- before it. Where a body finds no room, or memory is refused before a request is answered, the rest of that request
-- is read and dropped, the answer says so, and the connection goes on. A body that ends before its length is no
-- request: the answer says that the connection was lost. Where it is done, HTTP has nothing more to do: all was sent,
-- and it is no more open; and memory was refused for no answer that was made. All bytes that were read are those that
-- were received or dropped, and all that were written those that were sent. The client has seen what the last answer
-- spoke of; it may have seen more only where the connection ended since the store failed. Each push that ran was let
-- through by the policy, which was asked about it and nothing else.
pub record ServesHttp {A S : Type 0} (capacity : ℕ) (first : RepositoryOf A)
    (kept : Bool → ReceiptView → KeptSeen A → ℕ → Type 0) (page metrics : S → Repository A → List ℕ → Type 0)
    (terms : WebTerms S) (beats : Bool) (asked said : AskedPolicy A) (before : KeptSeen A)
    (input left out sent : Option (List ℕ)) (end : ConnectionEnd) (after : KeptSeen A) : Type 0 where
  pub config : Config
  pub room : config.max_body_len ≡ first.settings.limits.stream
  -- what a head may have
  pub heads : config.limits.max_head_len ≡ 16384
  pub last : WireView A S
  pub converses : Converses (end ≢ Done) config
      (λ old r response new. Responds capacity first kept page metrics old r response new)
      (record { seen = before; asked = asked; terms = terms; beats = beats; answered = 0 }) last input left out sent
  pub seen : IsLater last.seen after
  pub all : end ≢ NotStored → after ≡ last.seen
  pub said_is : end ≢ NotStored → said ≡ last.asked
