use Rattle.std.proofs.Common.{◌≡◌, ◌↔◌, ◌<◌, ◌≤◌, ℕ, get_or, length, true, false}
use Rattle.hg_wireproto.specs.Hidden.{IsHidden}
use Rattle.hg_wireproto.proofs.hidden.hidden_with.Given as goal

-- those so far
abbrev pub invariant-loop-rev : goal.invariant-loop-rev
invariant-loop-rev g l = (length l.hidden.items ≡ l.rev) × (l.rev ≤ length l.copied.rows)
    × ((r : ℕ) → r < l.rev → (get_or l.hidden.items r false ≡ true)
    ↔ IsHidden l.copied.rows l.copied.markers l.copied.phases r)
