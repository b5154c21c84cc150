-- The kinds of reasons for which pushes are aborted.
use Rattle.std.specs.Prelude.{ℕ, List, codes}
use Rattle.hg_status.specs.declared.push.AbortReason.{AbortReason}
use Rattle.hg_status.specs.declared.push.AbortReason.TheVariants.{HeadsChanged, PhasesChanged, BookmarksChanged}
use Rattle.hg_status.specs.declared.push.AbortReason.TheVariants.{Unsupported, KeyFailed, BadPart, BadChangeset}
use Rattle.hg_status.specs.declared.push.AbortReason.TheVariants.{UnknownNode, ClientAborted, BadEnd, StreamFault}
use Rattle.hg_status.specs.declared.push.AbortReason.TheVariants.{ConnectionLost, Dropped, NoMemory, NotLet, NoHook}

-- the place of a reason's kind among the counters
abbrev pub place_of : AbortReason → ℕ
place_of HeadsChanged = 0
place_of PhasesChanged = 1
place_of BookmarksChanged = 2
place_of Unsupported = 3
place_of KeyFailed = 4
place_of BadPart = 5
place_of BadChangeset = 6
place_of UnknownNode = 7
place_of ClientAborted = 8
place_of BadEnd = 9
place_of (StreamFault fault) = 10
place_of ConnectionLost = 11
place_of Dropped = 12
place_of NoMemory = 13
place_of NotLet = 14
place_of NoHook = 15

-- what a reason's kind is called
abbrev pub name_of_reason : AbortReason → List ℕ
name_of_reason HeadsChanged = codes "heads changed"
name_of_reason PhasesChanged = codes "phases changed"
name_of_reason BookmarksChanged = codes "bookmarks changed"
name_of_reason Unsupported = codes "unsupported content"
name_of_reason KeyFailed = codes "key not set"
name_of_reason BadPart = codes "malformed part"
name_of_reason BadChangeset = codes "bad changeset"
name_of_reason UnknownNode = codes "unknown node"
name_of_reason ClientAborted = codes "client aborted"
name_of_reason BadEnd = codes "bad end mark"
name_of_reason (StreamFault fault) = codes "stream fault"
name_of_reason ConnectionLost = codes "connection lost"
name_of_reason Dropped = codes "push dropped"
name_of_reason NoMemory = codes "out of memory"
name_of_reason NotLet = codes "refused by the hook"
name_of_reason NoHook = codes "no answer of the hook"
