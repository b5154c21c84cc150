-- What a file gives, or that it failed.
use Rattle.std.specs.Prelude.{ℕ, List, [], ◌∷◌, ◌++◌}
use Rattle.hg_connection.specs.Devices.{Failed, Input, ReadAnswer, TellsMore}
use Rattle.hg_store.specs.Pieces.{ReadsUpTo}

-- a file gave so many bytes; or fewer, and is at its end
abbrev pub GivesUpTo : ℕ → List ℕ → Input → Input → Type 0
GivesUpTo most bytes file left = ReadsUpTo most bytes file.left left.left

-- the last read of a file failed
abbrev pub FailsToGive : Input → Input → Type 0
FailsToGive file left = (reads : List ReadAnswer) × TellsMore file.reads left.reads (reads ++ Failed ∷ [])
