use Rattle.std.proofs.Common.{◌≡◌, []}
use Rattle.hg_store.specs.Openings.{HasRead}
use Rattle.hg_store.specs.declared.head.Setup.{Setup}
use Rattle.hg_store.proofs.front.pass_records.Given as goal

-- what was read of a store so far are records of it, and the calls are as before
abbrev pub invariant-loop : goal.invariant-loop
invariant-loop g l = record {
  read : (setup : Setup) → HasRead g.C.Calls.drawn setup [] l.fn.opening → HasRead g.C.Calls.drawn setup [] l.opening;
  same : g.C.Calls.history l.opening.calls ≡ g.C.Calls.history l.fn.opening.calls;
}
