-- The commands of a client, by their names.
use Rattle.std.specs.Prelude.{ℕ, List, Option, Some, None, codes, bytes_eq, if◌then◌else◌}
use Rattle.hg_http.specs.declared.command.Read.{Read}
use Rattle.hg_http.specs.declared.command.Read.TheVariants.{Heads, Known, ListKeys, Lookup, BranchMap}
use Rattle.hg_http.specs.declared.command.Command.{Command}
use Rattle.hg_http.specs.declared.command.Command.TheVariants.{ReadOnly, Capabilities, Batch, Unbundle}
use Rattle.hg_http.specs.declared.command.Command.TheVariants.{GetBundle, PushKey}

-- the commands that only read
unfoldable pub read_of : List ℕ → Option Read
read_of name =
    if bytes_eq name (codes "heads") then Some Heads
    else if bytes_eq name (codes "known") then Some Known
    else if bytes_eq name (codes "listkeys") then Some ListKeys
    else if bytes_eq name (codes "lookup") then Some Lookup
    else if bytes_eq name (codes "branchmap") then Some BranchMap
    else None

-- the name of what such a command asks about; `heads` and `branchmap` ask about
-- nothing
abbrev pub subject_of : Read → List ℕ
subject_of Heads = codes ""
subject_of BranchMap = codes ""
subject_of Known = codes "nodes"
subject_of ListKeys = codes "namespace"
subject_of Lookup = codes "key"

-- the other ones
unfoldable pub other_of : List ℕ → Option Command
other_of name =
    if bytes_eq name (codes "capabilities") then Some Capabilities
    else if bytes_eq name (codes "batch") then Some Batch
    else if bytes_eq name (codes "unbundle") then Some Unbundle
    else if bytes_eq name (codes "pushkey") then Some PushKey
    else if bytes_eq name (codes "getbundle") then Some GetBundle
    else None

-- a command that reads, or else that other one
abbrev pub read_or : Option Read → Option Command → Option Command
read_or None other = other
read_or (Some read) other = Some (ReadOnly read)

-- the command of that name, if it is one
unfoldable pub command_of : List ℕ → Option Command
command_of name = read_or (read_of name) (other_of name)
