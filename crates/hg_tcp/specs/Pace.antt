-- When the time begins again for which a connection may be silent.
use Rattle.std.specs.Prelude.{ℕ, ◌+◌, Bool, true, false, Option, Some, None, if◌then◌else◌, nat_lt}
use Rattle.hg_tcp.specs.declared.pace.Pace.{Pace}

-- what moved in this time, where it is fewer than 1,024 bytes
abbrev pub moved_below_least : ℕ → Option ℕ
moved_below_least moved = if nat_lt moved 1024 then Some moved else None

-- Bytes of the other direction begin the time again, and so do 1,024 of the same. Else they are added.
abbrev pub moved_after : Pace → ℕ → Bool → Option ℕ
moved_after before bytes true = if before.reads then moved_below_least (before.moved + bytes) else None
moved_after before bytes false = if before.reads then None else moved_below_least (before.moved + bytes)
