-- The children of a row, from the last one back.
use Rattle.std.specs.Prelude.{ℕ, zero, suc, ◌||◌, if◌then◌else◌, Option, None, Some}
use Rattle.hg_log.specs.HeadCount.{is_number}

-- the last of the first n rows that have p as a parent
unfoldable pub child_before : (ℕ → Option ℕ × Option ℕ) → ℕ → ℕ → Option ℕ
child_before parents p zero = None
child_before parents p (suc n) =
    if is_number (parents n).0 p || is_number (parents n).1 p then Some n else child_before parents p n
