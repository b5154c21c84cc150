-- The beginning of a name.
use Rattle.std.specs.Prelude.{ℕ, List, length, min, take, nat_lt}
use Rattle.hg_status.specs.declared.name.Name.{Name}

-- its first bytes, at most 64, and whether it has more
abbrev pub name_of : {A : Type 0} → List ℕ → Name A
name_of name = record { bytes = take (min (length name) 64) name; is_cut = nat_lt 64 (length name) }
