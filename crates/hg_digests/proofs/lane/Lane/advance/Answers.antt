use Rattle.std.proofs.Common.{◌+◌, ◌-◌, refl, arith}
use Rattle.hg_digests.proofs.HashingLemmas.{advances-last, advances-more}
use Rattle.hg_digests.proofs.lane.Lane.advance.Goals as goal

pub overflow_add-next : goal.overflow_add-next
overflow_add-next c = omega (arith, c.requires.short)

pub returns-then-left-gt1-clause-advances : goal.returns-then-left-gt1-clause-advances
returns-then-left-gt1-clause-advances c = λ messages sound is_next.
    advances-more messages c.args.digests.now c.args.self _ c.args.hash (omega arith) sound is_next refl

pub returns-clause-advances : goal.returns-clause-advances
returns-clause-advances c = λ messages sound is_next.
    advances-last messages c.args.digests.now c.args.self
    (record { number = c.args.self.number; hash = c.args.hash; taken = c.args.self.taken + 1; left = c.args.self.left - 1 })
    c.args.hash c.digest_of.result (omega arith) sound is_next (c.requires.there (omega arith)) c.digest_of.ensures (omega arith)
