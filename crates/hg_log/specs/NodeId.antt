-- The id of a changeset: SHA-1 of the lesser parent id, the greater parent id, and the text
-- (`internals.revlogs`, "Hash Computation").
use Rattle.std.specs.Prelude.{ℕ, List, ◌++◌, if◌then◌else◌, Bool}
use Rattle.std.specs.Ordering.{nat_cmp, is_le}
use Rattle.std.specs.Cmp.Lexicographic.{slice_cmp}
use Rattle.sha1.specs.Sha1.{sha1}

-- the bytes of a are not above those of b, in the order of a dictionary
abbrev pub is_lesser : List ℕ → List ℕ → Bool
is_lesser a b = is_le (slice_cmp nat_cmp a b)

-- SHA-1 of the lesser of the two parents, the greater, and the text
abbrev pub node_id_of : List ℕ → List ℕ → List ℕ → List ℕ
node_id_of p q text = if is_lesser p q then sha1 (p ++ q ++ text) else sha1 (q ++ p ++ text)
