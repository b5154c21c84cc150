use Rattle.std.proofs.Common.{rules, ap, ◌∙◌}
use Rattle.hg_commit.specs.declared.known.Known.{Known}
use Rattle.hg_commit.proofs.Counting.{sees}
use Rattle.hg_commit.proofs.Seats.{saw_among, saw_numbered, saw_spent}
use Rattle.hg_commit.proofs.promises.OpenTally.begin.Goals as goal

pub load-requires : goal.load-requires
load-requires g c = (search rules, search rules, sees _ _ _ c.grant.invariant.2.3)

pub invariant_of-result : goal.invariant_of-result
invariant_of-result g c =
    let was = c.grant.inside.seat.me.0 in
    let now = c.load.new.seat.me.0 in
    let i = c.grant.invariant.2 in
    let s = c.load.ensures.2.0 in (
      saw_among was now s,
      (
        c.load.ensures.0 ∙ i.0,
        i.1,
        c.load.ensures.2.1 ∙ i.2,
        saw_spent was now s ∙ i.3,
      ),
    )

pub returns-clause-all : goal.returns-clause-all
returns-clause-all g c = ap (λ (u : Known). u.promises) c.load.ensures.2.0.is ∙ c.grant.view_is

pub returns-clause-none : goal.returns-clause-none
returns-clause-none g c = (
  ap (λ (v : Known). v.came) c.load.ensures.2.0.is ∙ c.grant.invariant.0,
  ap (λ (v : Known). v.asked) c.load.ensures.2.0.is ∙ c.grant.invariant.1,
)

pub returns-clause-seen : goal.returns-clause-seen
returns-clause-seen g c = saw_among c.grant.inside.seat.me.0 c.load.new.seat.me.0 c.load.ensures.2.0

pub returns-clause-numbered : goal.returns-clause-numbered
returns-clause-numbered g c = saw_numbered c.grant.inside.seat.me.0 c.load.new.seat.me.0 c.load.ensures.2.0
