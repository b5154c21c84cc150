-- Requests without what follows them.
use Rattle.std.proofs.Common.{◌≡◌, ◌≢◌, ℕ, List, [], ◌∷◌, ◌++◌, take, drop}
use Rattle.std.proofs.Common.{refl, sym, ap, subst, ◌∙◌, append-nil, append_assoc, take-append-drop}
use Rattle.std.proofs.lemmas.List.{append_cancel_right}
use Rattle.httparse.specs.Grammar.{print_request, print_section}
use Rattle.http1.specs.declared.conn.Limits.{Limits}
use Rattle.http1.specs.declared.framing.Framing.{Framing}
use Rattle.http1.specs.declared.framing.Framing.TheVariants.{NoBody, Length, Chunked, UntilClose}
use Rattle.http1.specs.Body.{Body, ReadsBody}
use Rattle.http1.specs.ChunkedBody.{print_chunks}
use Rattle.http1.specs.Message.{Request, ReadsRequestMessage, ReadsRequests}
use Rattle.http_server.proofs.StreamLemmas.{ReadsRequestMessage-append, has_an_end}
use Rattle.hg_http.specs.Following.{AreRequests, BeginsWith}

body_alone : (limits : Limits) (framing : Framing) (stream : List ℕ) (body : Body) (rest : List ℕ) →
    framing ≢ UntilClose → ReadsBody limits framing stream body rest →
    (text : List ℕ) × (stream ≡ text ++ rest) × ReadsBody limits framing text body []
body_alone limits NoBody stream body rest ends x = (body.bytes, x.1, (x.0, sym (append-nil body.bytes), x.2))
body_alone limits (Length len) stream body rest ends x = (body.bytes, x.1, (x.0, sym (append-nil body.bytes), x.2))
body_alone limits Chunked stream body rest ends x =
    let chunks = print_chunks x.chunks in
    let section = print_section body.trailers x.trailers.last in (
      chunks ++ section,
      x.reads.1 ∙ ap (λ (t : List ℕ). chunks ++ t) x.trailers.reads.1 ∙ sym (append_assoc chunks section rest),
      record {
        chunks = x.chunks;
        after = section;
        reads = (x.reads.0, refl);
        decoded = x.decoded;
        trailers = record {
          last = x.trailers.last;
          reads = (x.trailers.reads.0, sym (append-nil section));
          strict = x.trailers.strict;
          within_limit = x.trailers.within_limit;
        };
      },
    )
body_alone limits UntilClose stream body rest ends x = absurd (ends refl)

request_alone : (limits : Limits) (stream : List ℕ) (m : Request) (rest : List ℕ) →
    ReadsRequestMessage limits stream m rest →
    (text : List ℕ) × (stream ≡ text ++ rest) × ReadsRequestMessage limits text m []
request_alone limits stream m rest x =
    let head = print_request m.head in
    let body = body_alone limits x.framing x.after_head m.body rest (has_an_end x.head) x.body in (
      head ++ body.0,
      x.head.reads.1 ∙ ap (λ (t : List ℕ). head ++ t) body.1 ∙ sym (append_assoc head body.0 rest),
      record {
        framing = x.framing;
        after_head = body.0;
        head = record {
          reads = (x.head.reads.0, refl);
          strict = x.head.strict;
          host = x.head.host;
          framed = x.head.framed;
        };
        body = body.2;
      },
    )

requests_alone : (limits : Limits) (ms : List Request) (stream rest : List ℕ) → ReadsRequests limits stream ms rest →
    (text : List ℕ) × (stream ≡ text ++ rest) × ReadsRequests limits text ms []
requests_alone limits [] stream rest x = ([], x, refl)
requests_alone limits (m ∷ ms) stream rest x =
    let first = request_alone limits stream m x.0 x.1 in
    let more = requests_alone limits ms x.0 rest x.2 in (
      first.0 ++ more.0,
      first.1 ∙ ap (λ (t : List ℕ). first.0 ++ t) more.1 ∙ sym (append_assoc first.0 more.0 rest),
      (more.0, ReadsRequestMessage-append first.2 more.0, more.2),
    )

-- requests in a stream that goes on, up to where they end
pub requests_up_to : (limits : Limits) (stream bytes : List ℕ) (count n : ℕ) →
    BeginsWith limits (stream ++ bytes) count (drop n bytes) → AreRequests limits (stream ++ take n bytes) count
requests_up_to limits stream bytes count n x =
    let alone = requests_alone limits x.0 (stream ++ bytes) (drop n bytes) x.1 in
    let same : stream ++ take n bytes ≡ alone.0 =
    append_cancel_right (stream ++ take n bytes) alone.0 (drop n bytes)
    (append_assoc stream (take n bytes) (drop n bytes)
    ∙ ap (λ (t : List ℕ). stream ++ t) (take-append-drop n bytes) ∙ alone.1) in
    (x.0, subst (λ s. ReadsRequests limits s x.0 []) (sym same) alone.2, x.2)
