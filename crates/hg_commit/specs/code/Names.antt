-- The names that a `Brand` has: the head of no store, and no tally's. A call that picks its own never sees them.
use Rattle.std.specs.Prelude.{false, [], None}
use Rattle.atomic_table.specs.Seated.{TableId}
use Rattle.hg_types.specs.Limits.{standard_limits}
use Rattle.hg_store.specs.declared.head.Head.{Head}

abbrev pub no_head : Head
no_head = record { publishing = false; limits = standard_limits; identity = None }

abbrev pub no_tally : TableId
no_tally = record { words = 0; slots = 0; views_name = 0; atom = 0; block = 0; offset = 0; slot_names = [] }
