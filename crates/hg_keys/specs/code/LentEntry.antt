-- An entry whose name is still in the payload, and the bytes after it.
use Rattle.std.specs.Prelude.{◌≡◌, ℕ, List, Option, Some, None}
use Rattle.hg_keys.specs.declared.payload.Lent.{Lent}
use Rattle.hg_keys.specs.Payload.{Entry}

-- what a function found is what reading gives
abbrev pub Finds : Option Lent → Option (Entry × List ℕ) → Type 0
Finds None read = read ≡ None
Finds (Some lent) read = read ≡ Some ((lent.node, lent.name.now), lent.rest.now)
