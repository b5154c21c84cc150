-- How far an answer was read.
use Rattle.std.specs.Prelude.{ℕ, ◌≡◌, List, ◌++◌, Option, Some}
use Rattle.std.specs.Io.KnownBytes.{Consumes}
use Rattle.httparse.specs.declared.spans.ResponseSpans.{ResponseSpans}
use Rattle.http1.specs.declared.conn.Event.{Event}
use Rattle.http1.specs.declared.conn.Event.TheVariants.{NeedMore, Head, Informational, Data, End, Paused, Upgraded, Closed}
use Rattle.hg_http.specs.declared.hook.answer.AnswerReader.{AnswerReader}
use Rattle.hg_http.specs.Exchanges.{HoldsStatus}

-- Of a stream that came all but what is held was read, and the status that was found stands in it.
pub record IsAt (reader : AnswerReader) (stream : List ℕ) : Type 0 where
  pub read : List ℕ
  pub stream_is : stream ≡ read ++ reader.held.items
  pub found : HoldsStatus stream reader.status

-- wherever one was in a stream, the other is in it and these bytes
pub record GoesOn (old new : AnswerReader) (more : List ℕ) : Type 0 where
  pub goes : (stream : List ℕ) → IsAt old stream → IsAt new (stream ++ more)

-- the status that is known behind an event
abbrev pub status_after : Event ResponseSpans → Option ℕ → Option ℕ
status_after NeedMore status = status
status_after (Head r) status = Some r.code
status_after (Informational r) status = status
status_after (Data s) status = status
status_after (End count) status = status
status_after Paused status = status
status_after Upgraded status = status
status_after Closed status = status

-- what a reader gave, and where in it one is
pub record IsReading (input left : Option (List ℕ)) (reader : AnswerReader) : Type 0 where
  pub text : List ℕ
  pub given : Consumes input left text
  pub at : IsAt reader text

-- what a reader gave once, and how far one is then
pub record ReadsOnce (input left : Option (List ℕ)) (old new : AnswerReader) : Type 0 where
  pub more : List ℕ
  pub given : Consumes input left more
  pub goes : GoesOn old new more
