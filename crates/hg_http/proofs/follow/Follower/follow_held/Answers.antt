use Rattle.std.proofs.Common.{◌≡◌, ◌≤◌, ◌+◌, ◌++◌, length, take, drop, refl, rules, sym, ap, subst, ◌∙◌}
use Rattle.hg_http.specs.Following.{AreRequests, Goes}
use Rattle.hg_http.proofs.Alone.{requests_up_to}
use Rattle.hg_http.proofs.Following.{ended_at, follows_more, follows_same, left_behind}
use Rattle.hg_http.proofs.follow.Follower.follow_held.Goals as goal

pub returns-in-More : goal.returns-in-More
returns-in-More c =
    let f = c.args.self.now in
    let r = f.reader in
    let bytes = c.args.bytes.now in
    let new = c.read_on-found.new.self in
    let held : c.extend_from_slice.new.self.items ≡ f.held.items ++ bytes = search rules in (
      c.read_on-found.ensures.limits,
      (
        c.requires,
        refl,
        λ stream count x.
            follows_same new.limits new.limits new.server new.server _ c.advance.new.self.items (stream ++ bytes) count
            refl refl c.advance.ensures.items
            (subst (λ l. Goes new.limits new.server (drop c.read_on-found.result.1 l) (stream ++ bytes) count)
            c.as_slice.ensures
            (c.read_on-found.ensures.at (λ e. let clash = sym c.in-More.is ∙ e in cc) (stream ++ bytes) count
            (follows_same r.limits r.limits r.server r.server (f.held.items ++ bytes) c.as_slice.result.now
            (stream ++ bytes) count refl refl (c.as_slice.ensures ∙ held)
            (follows_more r.limits r.server f.held.items stream count bytes x)))),
      ),
    )

pub returns-in-Some : goal.returns-in-Some
returns-in-Some c =
    let f = c.args.self.now in
    let r = f.reader in
    let bytes = c.args.bytes.now in
    let new = c.read_on-found.new.self in
    let n = c.in-Some.count in
    let gone = c.read_on-found.result.1 in
    let held : c.extend_from_slice.new.self.items ≡ f.held.items ++ bytes = search rules in
    let left = c.advance.new.self.items in
    let long : length left + n ≡ length bytes = search rules in
    let within : n ≤ length bytes = search rules in
    let limits = c.begin.ensures.limits in (
      limits ∙ c.read_on-found.ensures.limits,
      (
        c.requires,
        within,
        λ stream count x.
            let before = follows_same r.limits r.limits r.server r.server (f.held.items ++ bytes) c.as_slice.result.now
            (stream ++ bytes) count refl refl (c.as_slice.ensures ∙ held)
            (follows_more r.limits r.server f.held.items stream count bytes x) in
            let ended = ended_at new.limits new.limits new.server (drop gone c.as_slice.result.now) (stream ++ bytes)
            (drop n bytes) count refl
            (ap (drop gone) c.as_slice.ensures ∙ sym c.advance.ensures.items
            ∙ left_behind f.held.items bytes left gone n (c.advance.ensures.items ∙ ap (drop gone) held) long)
            (c.read_on-found.ensures.end c.in-End.is (stream ++ bytes) count before)
            (c.read_on-found.ensures.at (λ e. let clash = sym c.in-End.is ∙ e in cc) (stream ++ bytes) count before) in
            let whole = requests_up_to new.limits stream bytes (count + 1) n ended in (
              subst (λ l. AreRequests l (stream ++ take n bytes) (count + 1)) (sym limits) whole,
              follows_same _ _ _ _ _ c.clear.new.self.items (stream ++ take n bytes) (count + 1) refl refl
                  c.clear.ensures.items (c.begin.ensures.follows (stream ++ take n bytes) (count + 1) whole),
            ),
      ),
    )
