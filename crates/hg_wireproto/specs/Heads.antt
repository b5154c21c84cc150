-- What is reported of heads, and of ids that a client asks for.
use Rattle.std.specs.Prelude.{◌≡◌, ℕ, ◌==◌, Bool, false, List, [], ◌∷◌, ◌++◌, map, Option, Some, None}
use Rattle.std.specs.Prelude.{if◌then◌else◌}
use Rattle.std.specs.List.{slice_split, join_with_byte}
use Rattle.hex.specs.Hex.{encode_lower}
use Rattle.hg_types.specs.declared.node.Node.{Node}
use Rattle.hg_log.specs.Changeset.{Changeset}
use Rattle.hg_log.specs.Heads.{AreHeads}
use Rattle.hg_keys.specs.Known.{is_known}
use Rattle.hg_keys.specs.PushKey.{node_in_hex}

-- the heads in ascending order, each as 40 lower-case digits, one space between, and a line feed; of no
-- changesets the null id
pub record IsHeadsText (rows : List Changeset) (text : List ℕ) : Type 0 where
  pub heads : List (List ℕ)
  pub are_heads : AreHeads rows heads
  pub says : text ≡ join_with_byte 32 (map encode_lower heads) ++ 10 ∷ []

-- the byte between ids
abbrev pub is_space : ℕ → Bool
is_space b = b == 32

-- what is asked is an id, in 40 digits of either case, and the id is null or that of a changeset
abbrev pub is_known_id : List Changeset → Option Node → Bool
is_known_id rows None = false
is_known_id rows (Some node) = is_known rows node

-- the digit 1 where it is, else the digit 0
abbrev pub known_digit : List Changeset → List ℕ → ℕ
known_digit rows piece = if is_known_id rows (node_in_hex piece) then 49 else 48

-- for each id that is asked, with one space between, its digit; the empty text asks for none
unfoldable pub known_text : List Changeset → List ℕ → List ℕ
known_text rows [] = []
known_text rows (byte ∷ bytes) = map (known_digit rows) (slice_split is_space (byte ∷ bytes))
