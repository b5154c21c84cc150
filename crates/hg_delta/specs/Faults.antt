-- What is wrong with a delta: the first thing that is wrong with its first hunk that is none.
use Rattle.std.specs.Prelude.{◌≡◌, ◌⊎◌, ℕ, ◌≤◌, ◌<◌, ◌^◌, List, ◌++◌, length, Result, Ok, Err}
use Rattle.hg_delta.specs.declared.fault.DeltaFault.{DeltaFault}
use Rattle.hg_delta.specs.declared.fault.DeltaFault.TheVariants.{Short, Backwards, PastEnd, TooLong, NoMemory}
use Rattle.hg_delta.specs.Delta.{Hunk, header, end_of, Begins, Applies}

-- the bytes begin with a header, its numbers of 32 bits
pub record HasHeader (rest : List ℕ) (start end size : ℕ) (more : List ℕ) : Type 0 where
  pub start_fits : start < 2 ^ 32
  pub end_fits : end < 2 ^ 32
  pub size_fits : size < 2 ^ 32
  pub spelled : rest ≡ header start end size ++ more

-- The bytes `rest` stand where a hunk is wanted, in a base of that size, after a hunk that ends at `before`.
-- There are some, and fewer than a header has.
abbrev pub LacksHeader : List ℕ → Type 0
LacksHeader rest = (0 < length rest) × (length rest < 12)

-- The start is below the end of the hunk before, or the end below the start.
pub record GoesBack (size before : ℕ) (rest : List ℕ) : Type 0 where
  pub start : ℕ
  pub end : ℕ
  pub wanted : ℕ
  pub more : List ℕ
  pub reads : HasHeader rest start end wanted more
  pub back : (start < before) ⊎ (end < start)

-- Neither is so, and the end is past the base.
pub record GoesPast (size before : ℕ) (rest : List ℕ) : Type 0 where
  pub start : ℕ
  pub end : ℕ
  pub wanted : ℕ
  pub more : List ℕ
  pub reads : HasHeader rest start end wanted more
  pub ascends : before ≤ start
  pub forward : start ≤ end
  pub past : size < end

-- Nor is that so, and the content ends early.
pub record LacksContent (size before : ℕ) (rest : List ℕ) : Type 0 where
  pub start : ℕ
  pub end : ℕ
  pub wanted : ℕ
  pub more : List ℕ
  pub reads : HasHeader rest start end wanted more
  pub ascends : before ≤ start
  pub forward : start ≤ end
  pub within : end ≤ size
  pub less : length more < wanted

-- what is left is no whole header, or has less than its content
abbrev pub EndsEarly : ℕ → ℕ → List ℕ → Type 0
EndsEarly size before rest = LacksHeader rest ⊎ LacksContent size before rest

-- the fault of a hunk
abbrev pub IsHunkFault : DeltaFault → ℕ → ℕ → List ℕ → Type 0
IsHunkFault Short size before rest = EndsEarly size before rest
IsHunkFault Backwards size before rest = GoesBack size before rest
IsHunkFault PastEnd size before rest = GoesPast size before rest
IsHunkFault TooLong size before rest = ⊥
IsHunkFault NoMemory size before rest = ⊥

-- after whole hunks stands one with that fault
pub record BreaksAt (fault : DeltaFault) (base delta : List ℕ) : Type 0 where
  pub hunks : List Hunk
  pub rest : List ℕ
  pub front : Begins (length base) delta hunks rest
  pub broken : IsHunkFault fault (length base) (end_of hunks) rest

-- nothing is wrong with the hunks, and the text is longer than allowed
pub record GivesTooMuch (base delta : List ℕ) (most : ℕ) : Type 0 where
  pub text : List ℕ
  pub applies : Applies base delta text
  pub long : most < length text

-- What a delta gives, memory apart: a text that is not too long, or the one fault.
pub data IsOutcome (base delta : List ℕ) (most : ℕ) : Result (List ℕ) DeltaFault → Type 0 where
  gives : (text : List ℕ) → Applies base delta text → length text ≤ most → IsOutcome base delta most (Ok text)
  breaks : (fault : DeltaFault) → BreaksAt fault base delta → IsOutcome base delta most (Err fault)
  exceeds : GivesTooMuch base delta most → IsOutcome base delta most (Err TooLong)
