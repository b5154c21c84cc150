-- How the servers of the tests are set up.
use Rattle.std.specs.Prelude.{false}
use Rattle.hg_types.specs.Limits.{standard_limits}
use Rattle.hg_store.specs.declared.head.Setup.{Setup}

-- one that does not publish
abbrev pub standard_setup : Setup
standard_setup = record { publishing = false; limits = standard_limits }
