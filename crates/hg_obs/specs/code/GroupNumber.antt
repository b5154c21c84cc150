-- The number of a group of digits, as code makes it: a fault where four bytes do not hold it.
use Rattle.std.specs.Prelude.{◌^◌, ℕ, Result, Ok, Err, nat_lt, if◌then◌else◌}
use Rattle.hg_obs.specs.declared.fault.Base85Fault.{Base85Fault}
use Rattle.hg_obs.specs.declared.fault.Base85Fault.TheVariants.{Overflow}

-- the number, if four bytes hold it
abbrev pub fitting : ℕ → Result ℕ Base85Fault
fitting n = if nat_lt n (2 ^ 32) then Ok n else Err Overflow
