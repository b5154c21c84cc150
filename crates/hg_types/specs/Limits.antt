-- The standard limits, and which limits are allowed.
use Rattle.std.specs.Prelude.{ℕ, ◌≤◌}
use Rattle.hg_types.specs.declared.limits.Limits.{Limits}

-- the limits of a server that sets none of its own
abbrev pub standard_limits : Limits
standard_limits = record {
  params = 65536;
  payload = 67108864;
  stream = 268435456;
  parts = 10000;
  text = 16777216;
  rows = 1024;
  revisions = 2147483647;
}

-- at least 1, and at most that much
abbrev pub IsWithin : ℕ → ℕ → Type 0
IsWithin value most = (1 ≤ value) × (value ≤ most)

-- each limit is at least 1 and at most the standard one
pub record IsAllowed (limits : Limits) : Type 0 where
  pub params : IsWithin limits.params standard_limits.params
  pub payload : IsWithin limits.payload standard_limits.payload
  pub stream : IsWithin limits.stream standard_limits.stream
  pub parts : IsWithin limits.parts standard_limits.parts
  pub text : IsWithin limits.text standard_limits.text
  pub rows : IsWithin limits.rows standard_limits.rows
  pub revisions : IsWithin limits.revisions standard_limits.revisions
