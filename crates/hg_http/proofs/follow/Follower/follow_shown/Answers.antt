use Rattle.std.proofs.Common.{◌+◌, ◌++◌, [], take, drop, refl, rules, sym, subst, ◌∙◌}
use Rattle.hg_http.specs.Following.{AreRequests}
use Rattle.hg_http.proofs.Alone.{requests_up_to}
use Rattle.hg_http.proofs.Following.{ended_at, follows_more, follows_same, held_rest}
use Rattle.hg_http.proofs.follow.Follower.follow_shown.Goals as goal

pub returns-in-Ok : goal.returns-in-Ok
returns-in-Ok c =
    let f = c.args.self.now in
    let r = f.reader in
    let bytes = c.args.bytes.now in
    let new = c.read_on-found.new.self in
    let n = c.read_on-found.result.1 in (
      c.read_on-found.ensures.limits,
      (
        c.requires.0,
        refl,
        λ stream count x.
            follows_same new.limits new.limits new.server new.server (drop n bytes) c.extend_from_slice.new.self.items
            (stream ++ bytes) count refl refl (held_rest f.held.items _ bytes n c.requires.1 (search rules))
            (c.read_on-found.ensures.at (λ e. let clash = sym c.in-More.is ∙ e in cc) (stream ++ bytes) count
            (follows_more r.limits r.server [] stream count bytes
            (follows_same r.limits r.limits r.server r.server f.held.items [] stream count refl refl (sym c.requires.1) x))),
      ),
    )

pub returns-in-End : goal.returns-in-End
returns-in-End c =
    let f = c.args.self.now in
    let r = f.reader in
    let bytes = c.args.bytes.now in
    let new = c.read_on-found.new.self in
    let n = c.read_on-found.result.1 in
    let limits = c.begin.ensures.limits in (
      limits ∙ c.read_on-found.ensures.limits,
      (
        c.requires.0,
        c.read_on-found.ensures.within,
        λ stream count x.
            let before = follows_more r.limits r.server [] stream count bytes
            (follows_same r.limits r.limits r.server r.server f.held.items [] stream count refl refl (sym c.requires.1) x) in
            let ended = ended_at new.limits new.limits new.server (drop n bytes) (stream ++ bytes) (drop n bytes) count
            refl refl (c.read_on-found.ensures.end c.in-End.is (stream ++ bytes) count before)
            (c.read_on-found.ensures.at (λ e. let clash = sym c.in-End.is ∙ e in cc) (stream ++ bytes) count before) in
            let whole = requests_up_to new.limits stream bytes (count + 1) n ended in (
              subst (λ l. AreRequests l (stream ++ take n bytes) (count + 1)) (sym limits) whole,
              follows_same _ _ _ _ [] f.held.items (stream ++ take n bytes) (count + 1) refl refl c.requires.1
                  (c.begin.ensures.follows (stream ++ take n bytes) (count + 1) whole),
            ),
      ),
    )
