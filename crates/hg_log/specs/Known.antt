-- Which ids are known, as a test. The null id is known everywhere.
use Rattle.std.specs.Prelude.{Bool, ◌||◌, List, is_some, bytes_eq}
use Rattle.hg_types.specs.NullId.{null_id}
use Rattle.hg_types.specs.declared.node.Node.{Node}
use Rattle.hg_log.specs.Changeset.{Changeset}
use Rattle.hg_log.specs.Parents.{rev_of}

-- the null id
abbrev pub is_null : Node → Bool
is_null node = bytes_eq node.0 null_id

-- a changeset of the log, or the null id
abbrev pub is_known : List Changeset → Node → Bool
is_known rows node = is_null node || is_some (rev_of rows node.0)
