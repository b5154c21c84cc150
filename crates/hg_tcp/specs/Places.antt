-- The places for connections, and why serving is over.
use Rattle.std.specs.Prelude.{◌+◌, ◌-◌, ◌^◌, min, Option, Some, None}
use Rattle.hg_tcp.specs.declared.places.Over.{Over}
use Rattle.hg_tcp.specs.declared.places.Over.TheVariants.{NoMemory, StoreFailed, NumbersEnd}
use Rattle.hg_tcp.specs.declared.places.Count.{Count}

-- One place more is free.
abbrev pub freed : Count → Count
freed count = record count { free = min (count.free + 1) (2 ^ 32 - 1) }

-- Why serving is over, where it may have been over before: the first reason stays, except before a store that failed.
abbrev pub reason_after : Option Over → Over → Over
reason_after None over = over
reason_after (Some before) StoreFailed = StoreFailed
reason_after (Some before) NoMemory = before
reason_after (Some before) NumbersEnd = before
