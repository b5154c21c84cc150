-- What a reader and a writer report of how they were used.
use Rattle.std.specs.Prelude.{ℕ, ◌≡◌, ⊤, List, [], ◌∷◌, ◌++◌, take, Option, None, Some, Result, Ok, Err}
use Rattle.std.specs.Io.KnownBytes.{Appends, Consumes}

-- How a read went: it gave these bytes, none of them at the end of the input, or it failed.
pub data ReadAnswer : Type 0 where
  Gave : List ℕ → ReadAnswer
  Failed : ReadAnswer

-- How a use of a writer went: a write took these bytes, or failed; a flush was done, or failed.
pub data WriteAnswer : Type 0 where
  Took : List ℕ → WriteAnswer
  Refused : WriteAnswer
  Flushed : WriteAnswer
  NotFlushed : WriteAnswer

-- What a reader reports: the bytes that it has still to give, and how its reads went, in order. It may report
-- neither.
pub record Input : Type 0 where
  pub left : Option (List ℕ)
  pub reads : Option (List ReadAnswer)

-- What a writer reports: the bytes that it took, and how its uses went, in order. It may report neither.
pub record Output : Type 0 where
  pub taken : Option (List ℕ)
  pub uses : Option (List WriteAnswer)

-- what a read reports by its result and the bytes in its buffer
abbrev pub read_answer : {E : Type 0} → Result ℕ E → List ℕ → ReadAnswer
read_answer (Ok count) buffer = Gave (take count buffer)
read_answer (Err error) buffer = Failed

-- what a write reports by its result and the bytes that it was given
abbrev pub write_answer : {E : Type 0} → Result ℕ E → List ℕ → WriteAnswer
write_answer (Ok count) bytes = Took (take count bytes)
write_answer (Err error) bytes = Refused

-- what a flush reports by its result
abbrev pub flush_answer : {T E : Type 0} → Result T E → WriteAnswer
flush_answer (Ok done) = Flushed
flush_answer (Err error) = NotFlushed

-- the bytes that a read gave
abbrev pub given_by : ReadAnswer → List ℕ
given_by (Gave bytes) = bytes
given_by Failed = []

-- the bytes that a write took
abbrev pub taken_by : WriteAnswer → List ℕ
taken_by (Took bytes) = bytes
taken_by Refused = []
taken_by Flushed = []
taken_by NotFlushed = []

-- what is reported grows by these
abbrev pub TellsMore : {X : Type 0} → Option (List X) → Option (List X) → List X → Type 0
TellsMore None new more = ⊤
TellsMore (Some told) None more = ⊥
TellsMore (Some told) (Some new) more = new ≡ told ++ more

-- one read
pub record ReadsOnce (before after : Input) (answer : ReadAnswer) : Type 0 where
  pub bytes : Consumes before.left after.left (given_by answer)
  pub told : TellsMore before.reads after.reads (answer ∷ [])

-- one use of a writer
pub record Uses (before after : Output) (answer : WriteAnswer) : Type 0 where
  pub bytes : Appends before.taken after.taken (taken_by answer)
  pub told : TellsMore before.uses after.uses (answer ∷ [])
