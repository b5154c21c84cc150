-- The names that a `Brand` has: no queue's, and no repository's. A call that picks its own never sees them.
use Rattle.std.specs.Prelude.{false, []}
use Rattle.atomic_table.specs.Seated.{TableId}
use Rattle.hg_types.specs.Limits.{standard_limits}
use Rattle.hg_parts.specs.Repository.{Repository, empty_with}

abbrev pub no_table : TableId
no_table = record { words = 0; slots = 0; views_name = 0; atom = 0; block = 0; offset = 0; slot_names = [] }

abbrev pub no_repository : {A : Type 0} → Repository A
no_repository = empty_with (record { publishing = false; limits = standard_limits; first_push = 0 })
