-- How the store begins over which tests serve.
use Rattle.std.specs.Prelude.{false, Some, codes}
use Rattle.hg_types.specs.Limits.{standard_limits}
use Rattle.hg_store.specs.declared.head.Head.{Head}

-- its head: the server does not publish, and has the standard limits; and the store has a name
abbrev pub first_head : Head
first_head = record {
  publishing = false;
  limits = standard_limits;
  identity = Some (codes "a store of tests");
}
