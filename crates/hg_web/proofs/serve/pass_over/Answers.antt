use Rattle.std.proofs.Common.{◌+◌, [], ◌++◌, refl, sym, subst, append-nil, append_assoc, ◌∙◌, take}
use Rattle.std.specs.Io.BufRead.{FillKeeps}
use Rattle.std.proofs.BufReadLemmas.{Consumes_shown}
use Rattle.std.proofs.KnownBytes.{Consumes-nil}
use Rattle.http_server.proofs.KnownLemmas.{Consumes-then}
use Rattle.hg_http.specs.Following.{AreRequests, FollowsAt, limits_of}
use Rattle.hg_web.specs.code.Following.{Passes}
use Rattle.hg_web.proofs.Pieces.{found_end, found_more, found_within}
use Rattle.hg_web.proofs.serve.pass_over.Goals as goal

pub pieces-init : goal.pieces-init
pieces-init g c = (
  [],
  Consumes-nil _,
  refl,
  λ lost. lost,
  λ stream count x. subst (λ s. FollowsAt c.args.follower.now s count) (sym (append-nil stream)) x,
)

pub returns-in-End : goal.returns-in-End
returns-in-End g c =
    let inv = c.pieces.invariant in
    let shown = c.in_ok-bytes.bytes.now in
    let count = c.follow-found.result.1 in
    let rested = c.fill_buf.follows.lender-at-none in
    let filled = subst (FillKeeps _ (g.I.Read.remaining rested) (g.I.BufRead.consumable_len rested))
    c.in_ok-bytes.was c.fill_buf.follows.holds-at-none in
    let found = found_end _ _ _ _ _ c.in-End.is c.follow-found.ensures.1 in
    let moved = Consumes_shown _ _ _ _ shown count found.1
    c.in_ok-bytes.ensures.front c.in_ok-bytes.ensures.end filled.0 filled.1 c.consume.ensures.bytes in (
      inv.0 ++ take count shown,
      Consumes-then _ _ _ inv.0 (take count shown) inv.1 moved.0,
      subst (λ w. Passes w c.args.follower.now (inv.0 ++ take count shown)) (sym c.if-is_whole.false) (
        inv.3 found.0,
        λ stream n x.
            subst (λ l. AreRequests l (stream ++ (inv.0 ++ take count shown)) (n + 1))
            (c.follow-found.ensures.0 ∙ inv.2)
            (subst (λ s. AreRequests (limits_of c.follow-found.new.self) s (n + 1))
            (append_assoc stream inv.0 (take count shown)) (found.2 (stream ++ inv.0) n (inv.4 stream n x)).0),
      ),
    )

pub returns-in-Nothing : goal.returns-in-Nothing
returns-in-Nothing g c =
    let inv = c.pieces.invariant in
    let shown = c.in_ok-bytes.bytes.now in
    let count = c.follow-found.result.1 in
    let rested = c.fill_buf.follows.lender-at-none in
    let filled = subst (FillKeeps _ (g.I.Read.remaining rested) (g.I.BufRead.consumable_len rested))
    c.in_ok-bytes.was c.fill_buf.follows.holds-at-none in
    let moved = Consumes_shown _ _ _ _ shown count (found_within _ _ _ _ _ c.follow-found.ensures.1)
    c.in_ok-bytes.ensures.front c.in_ok-bytes.ensures.end filled.0 filled.1 c.consume.ensures.bytes in
    (inv.0 ++ take count shown, Consumes-then _ _ _ inv.0 (take count shown) inv.1 moved.0, tt)

pub pieces-preserved : goal.pieces-preserved
pieces-preserved g c =
    let inv = c.pieces.invariant in
    let shown = c.in_ok-bytes.bytes.now in
    let count = c.follow-found.result.1 in
    let rested = c.fill_buf.follows.lender-at-none in
    let filled = subst (FillKeeps _ (g.I.Read.remaining rested) (g.I.BufRead.consumable_len rested))
    c.in_ok-bytes.was c.fill_buf.follows.holds-at-none in
    let moved = Consumes_shown _ _ _ _ shown count (found_within _ _ _ _ _ c.follow-found.ensures.1)
    c.in_ok-bytes.ensures.front c.in_ok-bytes.ensures.end filled.0 filled.1 c.consume.ensures.bytes in
    let more = found_more _ _ _ _ _ c.in-More.is c.follow-found.ensures.1 in (
      inv.0 ++ take count shown,
      Consumes-then _ _ _ inv.0 (take count shown) inv.1 moved.0,
      c.follow-found.ensures.0 ∙ inv.2,
      λ lost. inv.3 more.0,
      λ stream n x.
          subst (λ s. FollowsAt c.follow-found.new.self s n) (append_assoc stream inv.0 (take count shown))
          (more.1 (stream ++ inv.0) n (inv.4 stream n x)),
    )
