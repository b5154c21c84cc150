-- The limits of a head that was read.
use Rattle.std.specs.Prelude.{◌<◌, ◌^◌}
use Rattle.hg_types.specs.declared.limits.Limits.{Limits}

-- each limit has four bytes
pub record LimitsFit (limits : Limits) : Type 0 where
  pub params : limits.params < 2 ^ 32
  pub payload : limits.payload < 2 ^ 32
  pub stream : limits.stream < 2 ^ 32
  pub parts : limits.parts < 2 ^ 32
  pub text : limits.text < 2 ^ 32
  pub rows : limits.rows < 2 ^ 32
  pub revisions : limits.revisions < 2 ^ 32
