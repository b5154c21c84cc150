use Rattle.std.proofs.Common.{◌≡◌, ℕ, ◌≤◌, List, length, drop}
use Rattle.hg_http.specs.Following.{IsAt}
use Rattle.hg_http.proofs.follow.Reader.read_on.Given as goal

abbrev pub invariant-events : goal.invariant-events
invariant-events l =
    (l.self.limits ≡ l.fn.self.limits) × (l.read ≤ length l.bytes)
    × ((stream : List ℕ) (count : ℕ) → IsAt l.fn.self l.bytes stream count →
    IsAt l.self (drop l.read l.bytes) stream count)
