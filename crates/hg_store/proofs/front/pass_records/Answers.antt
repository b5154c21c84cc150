use Rattle.std.specs.Prelude.{⊤}
use Rattle.hg_store.proofs.Streamed.{none_read}
use Rattle.hg_store.proofs.front.pass_records.Goals as goal

pub returns-then-not-branch-clause-read : goal.returns-then-not-branch-clause-read
returns-then-not-branch-clause-read g c = λ setup has.
    (none_read g.C.Calls.drawn (λ _ _ _. ⊤) c.loop.passing c.read_next.new.taker setup _ c.loop.opening
    c.read_next.new.self c.if-not-branch.true
    (c.in_ok-read_next.ensures.read setup (c.loop.invariant.read setup has))).0
