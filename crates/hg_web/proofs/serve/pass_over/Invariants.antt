use Rattle.std.proofs.Common.{◌≡◌, ℕ, List, ◌++◌}
use Rattle.std.specs.Io.KnownBytes.{Consumes}
use Rattle.hg_http.specs.Following.{FollowsAt, KeepsUp, limits_of}
use Rattle.hg_web.proofs.serve.pass_over.Given as goal

abbrev pub invariant-pieces : goal.invariant-pieces
invariant-pieces g l =
    (gone : List ℕ) × Consumes (g.I.Read.remaining l.fn.reader) (g.I.Read.remaining l.reader) gone
    × (limits_of l.follower ≡ limits_of l.fn.follower)
    × (KeepsUp l.follower → KeepsUp l.fn.follower)
    × ((stream : List ℕ) (count : ℕ) → FollowsAt l.fn.follower stream count →
    FollowsAt l.follower (stream ++ gone) count)
