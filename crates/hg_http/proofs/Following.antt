-- What has been read of the requests of a connection.
use Rattle.std.proofs.Common.{◌≡◌, ◌≢◌, ℕ, ◌+◌, zero, suc, Bool, List, [], ◌∷◌, ◌++◌, ◌-◌, length, take, drop}
use Rattle.std.proofs.Common.{refl, sym, ap, subst, ◌∙◌, arith, append_assoc, append-nil, length-append, length-drop, take_all}
use Rattle.std.proofs.lemmas.List.{length-map}
use Rattle.httparse.specs.declared.spans.HeaderSpan.{HeaderSpan}
use Rattle.httparse.specs.declared.spans.RequestSpans.{RequestSpans}
use Rattle.http1.specs.declared.conn.Event.{Event}
use Rattle.http1.specs.declared.conn.Event.TheVariants.{NeedMore, Head, Informational, Data, End, Paused, Upgraded, Closed}
use Rattle.http1.specs.declared.conn.Limits.{Limits}
use Rattle.http1.specs.declared.conn.Progress.{Progress}
use Rattle.http1.specs.declared.conn.Reading.{Reading}
use Rattle.http1.specs.declared.conn.Reading.TheVariants as Reads
use Rattle.http1.specs.declared.conn.Writing.{Writing}
use Rattle.http1.specs.declared.conn.Writing.TheVariants as Writes
use Rattle.http1.specs.declared.server.Server.{Server}
use Rattle.http1.specs.Conn.{is_read, ReadsPiece}
use Rattle.http1.specs.Message.{Request, ReadsRequests}
use Rattle.http1.specs.Server.{new_server, cycle_at, ReadsAt, ReadsHead, ServerReads}
use Rattle.http1.specs.ServerTrace.{Seen, no_body, observe, request_view, IsBetween, Trace, reads, stops}
use Rattle.http1.proofs.ServerTraceLemmas.{trace_reads_requests}
use Rattle.http_server.proofs.StreamLemmas.{ReadsRequestMessage-append}
use Rattle.hg_http.specs.Following.{AreRequests, BeginsWith, begun, Goes}
use Rattle.http1.specs.declared.decode.Decoder.{Decoder}
use Rattle.std.specs.Prelude.{not, ◌&&◌, ◌==◌}

-- requests, and then others
pub requests_then : (limits : Limits) (ms ns : List Request) (stream middle rest : List ℕ) →
    ReadsRequests limits stream ms middle → ReadsRequests limits middle ns rest →
    ReadsRequests limits stream (ms ++ ns) rest
requests_then limits [] ns stream middle rest x y = subst (λ s. ReadsRequests limits s ns rest) (sym x) y
requests_then limits (m ∷ ms) ns stream middle rest x y =
    (x.0, x.1, requests_then limits ms ns x.0 middle rest x.2 y)

-- requests, before more that came
pub requests_before : (limits : Limits) (ms : List Request) (stream rest more : List ℕ) →
    ReadsRequests limits stream ms rest → ReadsRequests limits (stream ++ more) ms (rest ++ more)
requests_before limits [] stream rest more x = ap (λ (s : List ℕ). s ++ more) x
requests_before limits (m ∷ ms) stream rest more x =
    (x.0 ++ more, ReadsRequestMessage-append x.1 more, requests_before limits ms x.0 rest more x.2)

-- where a trace stops
abbrev nothing : Seen
nothing = record { body = no_body; requests = [] }

-- a stream that a trace reads to its end
pub begins_with : (limits : Limits) (stream : List ℕ) (later : Seen) (rest : List ℕ) →
    Trace (new_server limits) stream later rest → BeginsWith limits stream (length later.requests) rest
begins_with limits stream later rest trace =
    let all = trace_reads_requests limits stream later rest trace in
    (all.0, all.1, sym (length-map all.0 request_view) ∙ ap length all.2)

module _ (limits : Limits) where
  -- at the beginning
  pub follows_none : Goes limits (new_server limits) [] [] 0
  follows_none = record {
    same_limits = refl;
    silent = refl;
    leads = λ more later rest trace.
        subst (λ n. BeginsWith limits more n rest) (omega arith) (begins_with limits more later rest trace);
    rest = [];
    whole = ([], refl, refl);
  }

  -- more bytes came, and are held
  pub follows_more : (server : Server) (held stream : List ℕ) (count : ℕ) (more : List ℕ) →
      Goes limits server held stream count → Goes limits server (held ++ more) (stream ++ more) count
  follows_more server held stream count more x = record {
    same_limits = x.same_limits;
    silent = x.silent;
    leads = λ bytes later rest trace.
        subst (λ s. BeginsWith limits s (count + begun server.reading + length later.requests) rest)
        (sym (append_assoc stream more bytes))
        (x.leads (more ++ bytes) later rest
        (subst (λ s. Trace server s later rest) (append_assoc held more bytes) trace));
    rest = x.rest ++ more;
    whole = (x.whole.0, requests_before limits x.whole.0 stream x.rest more x.whole.1, x.whole.2);
  }

  -- the request has ended: it is one of those that are whole
  pub ended_whole : (server : Server) (held stream : List ℕ) (count : ℕ) → server.reading ≡ Reads.Done →
      Goes limits server held stream count → (more : List ℕ) →
      BeginsWith limits (stream ++ more) (count + 1) (held ++ more)
  ended_whole server held stream count is x more =
      let all = x.leads more nothing (held ++ more)
      (stops server (held ++ more) (subst IsBetween (sym is) tt)) in
      (all.0, all.1, all.2 ∙ ap (λ r. count + begun r + 0) is ∙ omega arith)

  -- and the next one begins, where nothing is held
  pub follows_next : (stream : List ℕ) (count : ℕ) → AreRequests limits stream count →
      Goes limits (new_server limits) [] stream count
  follows_next stream count x = record {
    same_limits = refl;
    silent = refl;
    leads = λ more later rest trace.
        let next = begins_with limits more later rest trace in (
          x.0 ++ next.0,
          requests_then limits x.0 next.0 (stream ++ more) more rest
              (requests_before limits x.0 stream [] more x.1) next.1,
          length-append x.0 next.0 ∙ omega (arith, x.2, next.2),
        );
    rest = [];
    whole = x;
  }

-- what one event counts for
counts_head : (e : Event RequestSpans) (old new : Server) (input : List ℕ) (spans : List HeaderSpan) (len : ℕ)
    (later : Seen) → old.reading ≡ Reads.Head → ReadsHead old input spans new len e →
    (length (observe input spans e later).requests ≡ begun new.reading + length later.requests)
    × (new.writing ≡ old.writing) × (new.limits ≡ old.limits)
counts_head NeedMore old new input spans len later is x =
    let none : begun new.reading ≡ 0 = ap (λ (s : Server). begun s.reading) x.1 ∙ ap begun is in (
      omega (arith, none),
      ap (λ (s : Server). s.writing) x.1,
      ap (λ (s : Server). s.limits) x.1,
    )
counts_head (Head r) old new input spans len later is x =
    let one : begun new.reading ≡ 1 = ap (λ (s : Server). begun s.reading) x.next in (
      omega (arith, one),
      ap (λ (s : Server). s.writing) x.next,
      ap (λ (s : Server). s.limits) x.next,
    )
counts_head (Informational r) old new input spans len later is x = absurd x
counts_head (Data s) old new input spans len later is x = absurd x
counts_head (End n) old new input spans len later is x = absurd x
counts_head Paused old new input spans len later is x = absurd x
counts_head Upgraded old new input spans len later is x = absurd x
counts_head Closed old new input spans len later is x = absurd x

counts_body : (e : Event RequestSpans) (d : Decoder) (input : List ℕ) (spans : List HeaderSpan) (next : Reading)
    (len : ℕ) (later : Seen) → ReadsPiece d input spans next len e →
    (length (observe input spans e later).requests ≡ length later.requests) × (begun next ≡ 1)
counts_body NeedMore d input spans next len later x = (refl, ap begun x.1)
counts_body (Head r) d input spans next len later x = absurd x
counts_body (Informational r) d input spans next len later x = absurd x
counts_body (Data s) d input spans next len later x = (refl, ap begun x.1)
counts_body (End n) d input spans next len later x = (refl, ap begun x.0)
counts_body Paused d input spans next len later x = absurd x
counts_body Upgraded d input spans next len later x = absurd x
counts_body Closed d input spans next len later x = absurd x

-- while nothing was written, a piece leaves the server as it says
piece_leaves : (w : Writing) (s : Server) → s.writing ≡ w → w ≡ Writes.Head → cycle_at w s ≡ s
piece_leaves Writes.Head s is head = refl
piece_leaves (Writes.Body e) s is head = cc
piece_leaves Writes.Done s is head = cc
piece_leaves Writes.Upgraded s is head = cc
piece_leaves Writes.Closed s is head = cc

abbrev waiting : Server → List ℕ → Reading → Bool
waiting s input next = s.request.expects_continue && ((length input == 0) && not (is_read next))

-- the server after a piece, before it would begin anew
abbrev moved_on : Server → List ℕ → Reading → Server
moved_on s input next = record s { reading = next; request = record (s.request) { expects_continue = waiting s input next } }

counts : (r : Reading) (old new : Server) (input : List ℕ) (spans : List HeaderSpan) (read : Progress RequestSpans)
    (later : Seen) → old.reading ≡ r → old.writing ≡ Writes.Head → ReadsAt r old input spans new read →
    read.event ≢ Paused → read.event ≢ Upgraded → read.event ≢ Closed →
    (length (observe input spans read.event later).requests + begun r ≡ begun new.reading + length later.requests)
    × (new.writing ≡ old.writing) × (new.limits ≡ old.limits)
counts Reads.Head old new input spans read later is silent x p u c =
    let all = counts_head read.event old new input spans read.consumed later is x in (omega (arith, all.0), all.1, all.2)
counts (Reads.Body d) old new input spans read later is silent x p u c =
    let all = counts_body read.event d input spans x.0 read.consumed later x.1 in
    let new_is : new ≡ moved_on old input x.0 = x.2 ∙ piece_leaves old.writing (moved_on old input x.0) refl silent in (
      omega (arith, all.0, all.1, ap (λ (s : Server). begun s.reading) new_is),
      ap (λ (s : Server). s.writing) new_is,
      ap (λ (s : Server). s.limits) new_is,
    )
counts Reads.Done old new input spans read later is silent x p u c = absurd (p (ap (λ (q : Progress RequestSpans). q.event) x.0))
counts Reads.Upgraded old new input spans read later is silent x p u c = absurd (u (ap (λ (q : Progress RequestSpans). q.event) x.0))
counts Reads.Closed old new input spans read later is silent x p u c = absurd (c (ap (λ (q : Progress RequestSpans). q.event) x.0))
counts (Reads.Failed e) old new input spans read later is silent x p u c = absurd x

-- after a read that found a part of a request
pub follows_read : (limits : Limits) (old new : Server) (held : List ℕ) (spans : List HeaderSpan)
    (read : Progress RequestSpans) (stream : List ℕ) (count : ℕ) → ServerReads old held spans new read →
    read.event ≢ Paused → read.event ≢ Upgraded → read.event ≢ Closed →
    Goes limits old held stream count → Goes limits new (drop read.consumed held) stream count
follows_read limits old new held spans read stream count x p u c was =
    let each : (later : Seen) →
    (length (observe held spans read.event later).requests + begun old.reading ≡ begun new.reading + length later.requests)
    × (new.writing ≡ old.writing) × (new.limits ≡ old.limits) =
    λ later. counts old.reading old new held spans read later refl was.silent x p u c in
    record {
      same_limits = (each nothing).2 ∙ was.same_limits;
      silent = (each nothing).1 ∙ was.silent;
      leads = λ more later rest trace.
          let seen = observe held spans read.event later in
          let from = was.leads more seen rest (reads old new held more spans read later rest x trace) in
          (from.0, from.1, from.2 ∙ omega (arith, (each later).0));
      rest = was.rest;
      whole = was.whole;
    }

-- after the end of a request
ends_body : (e : Event RequestSpans) (n : ℕ) (d : Decoder) (input : List ℕ) (spans : List HeaderSpan) (next : Reading)
    (len : ℕ) → e ≡ End n → ReadsPiece d input spans next len e → next ≡ Reads.Done
ends_body e n d input spans next len is x = (subst (λ k. ReadsPiece d input spans next len k) is x).0

ends_at : (r : Reading) (old new : Server) (input : List ℕ) (spans : List HeaderSpan) (read : Progress RequestSpans)
    (n : ℕ) → old.writing ≡ Writes.Head → read.event ≡ End n → ReadsAt r old input spans new read →
    new.reading ≡ Reads.Done
ends_at Reads.Head old new input spans read n silent is x =
    absurd (subst (λ e. ReadsHead old input spans new read.consumed e) is x)
ends_at (Reads.Body d) old new input spans read n silent is x =
    ap (λ (s : Server). s.reading) (x.2 ∙ piece_leaves old.writing (moved_on old input x.0) refl silent)
    ∙ ends_body read.event n d input spans x.0 read.consumed is x.1
ends_at Reads.Done old new input spans read n silent is x = let e = sym is ∙ ap (λ (q : Progress RequestSpans). q.event) x.0 in cc
ends_at Reads.Upgraded old new input spans read n silent is x = let e = sym is ∙ ap (λ (q : Progress RequestSpans). q.event) x.0 in cc
ends_at Reads.Closed old new input spans read n silent is x = let e = sym is ∙ ap (λ (q : Progress RequestSpans). q.event) x.0 in cc
ends_at (Reads.Failed e) old new input spans read n silent is x = absurd x

pub follows_end : (limits : Limits) (old new : Server) (held : List ℕ) (spans : List HeaderSpan)
    (read : Progress RequestSpans) (n : ℕ) (stream : List ℕ) (count : ℕ) → ServerReads old held spans new read →
    read.event ≡ End n → Goes limits old held stream count → new.reading ≡ Reads.Done
follows_end limits old new held spans read n stream count x is was =
    ends_at old.reading old new held spans read n was.silent is x

-- the same, where the parts are others' names
pub follows_same : (limits limits₂ : Limits) (server server₂ : Server) (held held₂ stream : List ℕ) (count : ℕ) →
    limits₂ ≡ limits → server₂ ≡ server → held₂ ≡ held → Goes limits server held stream count →
    Goes limits₂ server₂ held₂ stream count
follows_same limits limits₂ server server₂ held held₂ stream count l s h x =
    subst (λ k. Goes k server₂ held₂ stream count) (sym l)
    (subst (λ k. Goes limits k held₂ stream count) (sym s)
    (subst (λ k. Goes limits server k stream count) (sym h) x))

-- what is left, by how long it is
dropped : (gone count : ℕ) (bytes : List ℕ) → length (drop gone bytes) + count ≡ length bytes →
    drop gone bytes ≡ drop count bytes
dropped zero count bytes long =
    let none : zero ≡ count = omega (arith, long, length-drop zero bytes) in ap (λ (n : ℕ). drop n bytes) none
dropped (suc gone) zero [] long = refl
dropped (suc gone) (suc count) [] long = refl
dropped (suc gone) zero (byte ∷ bytes) long = absurd (omega (arith, long, length-drop gone bytes))
dropped (suc gone) (suc count) (byte ∷ bytes) long = dropped gone count bytes (omega (arith, long))

-- what is left of what was held and of what came, where it is no longer than what came
pub left_behind : (held bytes left : List ℕ) (gone count : ℕ) → left ≡ drop gone (held ++ bytes) →
    length left + count ≡ length bytes → left ≡ drop count bytes
left_behind [] bytes left gone count is long =
    is ∙ dropped gone count bytes (ap (λ (l : List ℕ). length l + count) (sym is) ∙ long)
left_behind (byte ∷ held) bytes left zero count is long =
    absurd (omega (arith, ap length is, long, length-append held bytes))
left_behind (byte ∷ held) bytes left (suc gone) count is long = left_behind held bytes left gone count is long

-- a request that has ended, with what is left
pub ended_at : (limits limits₂ : Limits) (server : Server) (held stream left : List ℕ) (count : ℕ) →
    limits ≡ limits₂ → held ≡ left → server.reading ≡ Reads.Done → Goes limits server held stream count →
    BeginsWith limits₂ stream (count + 1) left
ended_at limits limits₂ server held stream left count same is ended x =
    let all = ended_whole limits server held stream count ended x [] in
    let here : BeginsWith limits stream (count + 1) held = (
      all.0,
      subst (λ s. ReadsRequests limits s all.0 held) (append-nil stream)
          (subst (λ h. ReadsRequests limits (stream ++ []) all.0 h) (append-nil held) all.1),
      all.2,
    ) in
    subst (λ l. BeginsWith l stream (count + 1) left) same (subst (λ h. BeginsWith limits stream (count + 1) h) is here)

-- all that is behind a place
pub rest_of : (bytes : List ℕ) (n : ℕ) → take (length bytes - n) (drop n bytes) ≡ drop n bytes
rest_of bytes n = take_all (length bytes - n) (drop n bytes) (omega (arith, length-drop n bytes))

-- nothing, and then what is behind a place
pub held_rest : (held left bytes : List ℕ) (n : ℕ) → held ≡ [] →
    left ≡ held ++ take (length bytes - n) (drop n bytes) → left ≡ drop n bytes
held_rest held left bytes n none is =
    is ∙ ap (λ (l : List ℕ). l ++ take (length bytes - n) (drop n bytes)) none ∙ rest_of bytes n
