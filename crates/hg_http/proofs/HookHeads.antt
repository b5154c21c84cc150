-- The head of an answer, and how far it was read.
use Rattle.std.proofs.Common.{◌≡◌, ℕ, Bool, true, false, List, [], ◌∷◌, ◌++◌, Option, Some, None, length, take, drop}
use Rattle.std.proofs.Common.{refl, sym, ap, subst, ◌∙◌, append_assoc, append-nil}
use Rattle.std.proofs.lemmas.List.{take-append-drop}
use Rattle.std.proofs.KnownBytes.{Consumes-nil}
use Rattle.std.specs.Io.KnownBytes.{Appends, Consumes}
use Rattle.httparse.specs.declared.spans.HeaderSpan.{HeaderSpan}
use Rattle.httparse.specs.declared.spans.ResponseSpans.{ResponseSpans}
use Rattle.httparse.specs.Grammar.{print_response}
use Rattle.http1.specs.declared.client.Client.{Client}
use Rattle.http1.specs.declared.conn.Event.{Event}
use Rattle.http1.specs.declared.conn.Event.TheVariants.{NeedMore, Head, Informational, Data, End, Paused, Upgraded, Closed}
use Rattle.http1.specs.declared.conn.Progress.{Progress}
use Rattle.http1.specs.declared.conn.Reading.{Reading}
use Rattle.http1.specs.declared.conn.Reading.TheVariants as Reads
use Rattle.http1.specs.declared.decode.Decoder.{Decoder}
use Rattle.http1.specs.Client.{ClientReads, ReadsAt, ReadsFirst, ReadsHead}
use Rattle.http1.specs.Conn.{awaits_head, ReadsPiece}
use Rattle.hg_http.specs.declared.hook.answer.AnswerReader.{AnswerReader}
use Rattle.hg_http.specs.Exchanges.{HoldsHead, HoldsStatus, Receives, Sends}
use Rattle.hg_http.specs.code.HookAnswers.{GoesOn, IsAt, IsReading, ReadsOnce, status_after}

-- a head behind other bytes, and before others
pub holds_behind : (gone bytes : List ℕ) (status : ℕ) → HoldsHead bytes status → HoldsHead (gone ++ bytes) status
holds_behind gone bytes status x = record {
  before = gone ++ x.before;
  head = x.head;
  after = x.after;
  is_head = x.is_head;
  bytes_are = ap (λ (t : List ℕ). gone ++ t) x.bytes_are
      ∙ sym (append_assoc gone x.before (print_response x.head ++ x.after));
  status_is = x.status_is;
}

pub holds_before : (bytes more : List ℕ) (status : ℕ) → HoldsHead bytes status → HoldsHead (bytes ++ more) status
holds_before bytes more status x = record {
  before = x.before;
  head = x.head;
  after = x.after ++ more;
  is_head = x.is_head;
  bytes_are = ap (λ (t : List ℕ). t ++ more) x.bytes_are
      ∙ append_assoc x.before (print_response x.head ++ x.after) more
      ∙ ap (λ (t : List ℕ). x.before ++ t) (append_assoc (print_response x.head) x.after more);
  status_is = x.status_is;
}

pub status_before : (bytes more : List ℕ) (status : Option ℕ) → HoldsStatus bytes status →
    HoldsStatus (bytes ++ more) status
status_before bytes more None x = tt
status_before bytes more (Some status) x = holds_before bytes more status x

-- the head that a read found
head_at : (old new : Client) (input : List ℕ) (spans : List HeaderSpan) (len : ℕ) (e : Event ResponseSpans)
    (r : ResponseSpans) → ReadsHead old input spans new len e → e ≡ Head r → HoldsHead input r.code
head_at old new input spans len e r x is =
    let taken = (subst (λ k. ReadsHead old input spans new len k) is x).1 in
    record {
      before = [];
      head = taken.head;
      after = drop len input;
      is_head = taken.accepts.reads.0;
      bytes_are = taken.accepts.reads.1;
      status_is = taken.covered.code;
    }

first_at : (silent : Bool) (old new : Client) (input : List ℕ) (spans : List HeaderSpan) (read : Progress ResponseSpans)
    (r : ResponseSpans) → ReadsFirst silent old input spans new read → read.event ≡ Head r → HoldsHead input r.code
first_at true old new input spans read r x is =
    let clash = sym is ∙ ap (λ (q : Progress ResponseSpans). q.event) x.1 in cc
first_at false old new input spans read r x is = head_at old new input spans read.consumed read.event r x is

body_at : (d : Decoder) (input : List ℕ) (spans : List HeaderSpan) (next : Reading) (len : ℕ) (e : Event ResponseSpans)
    (r : ResponseSpans) → ReadsPiece d input spans next len e → e ≡ Head r → ⊥
body_at d input spans next len e r x is = subst (λ k. ReadsPiece d input spans next len k) is x

found_at : (reading : Reading) (old new : Client) (input : List ℕ) (spans : List HeaderSpan)
    (read : Progress ResponseSpans) (r : ResponseSpans) → ReadsAt reading old input spans new read →
    read.event ≡ Head r → HoldsHead input r.code
found_at Reads.Head old new input spans read r x is =
    first_at (awaits_head old.writing) old new input spans read r x is
found_at (Reads.Body d) old new input spans read r x is =
    absurd (body_at d input spans x.0 read.consumed read.event r x.1 is)
found_at Reads.Done old new input spans read r x is =
    let clash = sym is ∙ ap (λ (q : Progress ResponseSpans). q.event) x.0 in cc
found_at Reads.Upgraded old new input spans read r x is =
    let clash = sym is ∙ ap (λ (q : Progress ResponseSpans). q.event) x.0 in cc
found_at Reads.Closed old new input spans read r x is =
    let clash = sym is ∙ ap (λ (q : Progress ResponseSpans). q.event) x.0 in cc
found_at (Reads.Failed e) old new input spans read r x is = absurd x

pub head_found : (old new : Client) (input : List ℕ) (spans : List HeaderSpan) (read : Progress ResponseSpans)
    (r : ResponseSpans) → ClientReads old input spans new read → read.event ≡ Head r → HoldsHead input r.code
head_found old new input spans read r x is = found_at old.reading old new input spans read r x is

-- so many of the bytes that were held are read
read_away : (old new : AnswerReader) (count : ℕ) (stream : List ℕ) → new.held.items ≡ drop count old.held.items →
    (at : IsAt old stream) → stream ++ [] ≡ (at.read ++ take count old.held.items) ++ new.held.items
read_away old new count stream held at =
    append-nil stream ∙ at.stream_is
    ∙ ap (λ (t : List ℕ). at.read ++ t) (sym (take-append-drop count old.held.items))
    ∙ sym (append_assoc at.read (take count old.held.items) (drop count old.held.items))
    ∙ ap (λ (t : List ℕ). (at.read ++ take count old.held.items) ++ t) (sym held)

reads_none : (old new : AnswerReader) (count : ℕ) → new.held.items ≡ drop count old.held.items →
    new.status ≡ old.status → GoesOn old new []
reads_none old new count held same = record {
  goes = λ stream at. record {
    read = at.read ++ take count old.held.items;
    stream_is = read_away old new count stream held at;
    found = subst (λ s. HoldsStatus (stream ++ []) s) (sym same) (status_before stream [] old.status at.found);
  };
}

-- the same, where the head of a response was among them
reads_head : (old new : AnswerReader) (count status : ℕ) → new.held.items ≡ drop count old.held.items →
    new.status ≡ Some status → HoldsHead old.held.items status → GoesOn old new []
reads_head old new count status held is head = record {
  goes = λ stream at. record {
    read = at.read ++ take count old.held.items;
    stream_is = read_away old new count stream held at;
    found = subst (λ s. HoldsStatus (stream ++ []) s) (sym is)
        (holds_before stream [] status (subst (λ t. HoldsHead t status) (sym at.stream_is)
        (holds_behind at.read old.held.items status head)));
  };
}

-- what an event tells
reads_at : (e : Event ResponseSpans) (old new : AnswerReader) (client : Client) (spans : List HeaderSpan)
    (read : Progress ResponseSpans) → ClientReads old.client old.held.items spans client read → read.event ≡ e →
    new.held.items ≡ drop read.consumed old.held.items → new.status ≡ status_after e old.status → GoesOn old new []
reads_at NeedMore old new client spans read x is held status = reads_none old new read.consumed held status
reads_at (Head r) old new client spans read x is held status =
    reads_head old new read.consumed r.code held status (head_found old.client client old.held.items spans read r x is)
reads_at (Informational r) old new client spans read x is held status = reads_none old new read.consumed held status
reads_at (Data s) old new client spans read x is held status = reads_none old new read.consumed held status
reads_at (End count) old new client spans read x is held status = reads_none old new read.consumed held status
reads_at Paused old new client spans read x is held status = reads_none old new read.consumed held status
reads_at Upgraded old new client spans read x is held status = reads_none old new read.consumed held status
reads_at Closed old new client spans read x is held status = reads_none old new read.consumed held status

pub reads_event : (old new : AnswerReader) (client : Client) (spans : List HeaderSpan) (read : Progress ResponseSpans) →
    ClientReads old.client old.held.items spans client read → new.held.items ≡ drop read.consumed old.held.items →
    new.status ≡ status_after read.event old.status → GoesOn old new []
reads_event old new client spans read x held status = reads_at read.event old new client spans read x refl held status

-- more bytes came, and are held
pub holds_more : (old new : AnswerReader) (more : List ℕ) → new.held.items ≡ old.held.items ++ more →
    new.status ≡ old.status → GoesOn old new more
holds_more old new more held same = record {
  goes = λ stream at. record {
    read = at.read;
    stream_is = ap (λ (t : List ℕ). t ++ more) at.stream_is ∙ append_assoc at.read old.held.items more
        ∙ ap (λ (t : List ℕ). at.read ++ t) (sym held);
    found = subst (λ s. HoldsStatus (stream ++ more) s) (sym same) (status_before stream more old.status at.found);
  };
}

-- nothing was read
pub stays_so : (old new : AnswerReader) → new.held.items ≡ old.held.items → new.status ≡ old.status → GoesOn old new []
stays_so old new held same = holds_more old new [] (held ∙ sym (append-nil old.held.items)) same

pub stays : (reader : AnswerReader) → GoesOn reader reader []
stays reader = stays_so reader reader refl refl

-- one after the other
pub goes_on : (old middle new : AnswerReader) (more : List ℕ) → GoesOn old middle more → GoesOn middle new [] →
    GoesOn old new more
goes_on old middle new more first then = record {
  goes = λ stream at. subst (λ s. IsAt new s) (append-nil (stream ++ more))
      (then.goes (stream ++ more) (first.goes stream at));
}

-- the status that is given was found
found_in : (stream : List ℕ) (found : Option ℕ) (status : ℕ) → found ≡ Some status → HoldsStatus stream found →
    HoldsHead stream status
found_in stream found status is holds = subst (λ s. HoldsStatus stream s) is holds

pub found_status : (reader : AnswerReader) (status : ℕ) → reader.status ≡ Some status → (stream : List ℕ) →
    IsAt reader stream → HoldsHead stream status
found_status reader status is stream at = found_in stream reader.status status is at.found

-- what two reads gave
consumes_then : (a b c : Option (List ℕ)) (xs ys : List ℕ) → Consumes a b xs → Consumes b c ys → Consumes a c (xs ++ ys)
consumes_then None b c xs ys p q = tt
consumes_then (Some x) None c xs ys p q = absurd p
consumes_then (Some x) (Some y) None xs ys p q = absurd q
consumes_then (Some x) (Some y) (Some z) xs ys p q =
    p ∙ ap (λ (t : List ℕ). xs ++ t) q ∙ sym (append_assoc xs ys z)

pub begins : (input : Option (List ℕ)) (reader : AnswerReader) → IsAt reader [] → IsReading input input reader
begins input reader at = record { text = []; given = Consumes-nil input; at = at }

pub reads_more : (input middle left : Option (List ℕ)) (old new : AnswerReader) → IsReading input middle old →
    ReadsOnce middle left old new → IsReading input left new
reads_more input middle left old new x y = record {
  text = x.text ++ y.more;
  given = consumes_then input middle left x.text y.more x.given y.given;
  at = y.goes.goes x.text x.at;
}

pub receives : (input left : Option (List ℕ)) (reader : AnswerReader) (status : ℕ) → IsReading input left reader →
    ((stream : List ℕ) → IsAt reader stream → HoldsHead stream status) → Receives input left status
receives input left reader status x found = record { text = x.text; given = x.given; holds = found x.text x.at }

-- a head was written, and then a bundle
pub sends : (before after : Option (List ℕ)) (head bundle : List ℕ) → Appends before after (head ++ bundle) →
    Sends before after bundle
sends before after head bundle written = record { head = head; written = written }
