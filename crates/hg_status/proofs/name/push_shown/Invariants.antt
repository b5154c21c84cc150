use Rattle.std.proofs.Common.{◌≡◌, ◌++◌, IsUtf8, string_bytes}
use Rattle.std.specs.Str.Iter.{chars_rest}
use Rattle.hg_status.specs.Shown.{html_escaped, shown}
use Rattle.hg_status.proofs.name.push_shown.Given as goal

-- what is written so far and the characters that are left, escaped, are all
abbrev pub invariant-loop-c : goal.invariant-loop-c
invariant-loop-c g l = IsUtf8 (chars_rest l.c-iterator)
    × (string_bytes l.text ++ html_escaped (chars_rest l.c-iterator) ≡ string_bytes l.fn.text ++ shown l.fn.name)
