use Rattle.std.proofs.Common.{◌≡◌, ◌+◌, ◌-◌, ◌<◌, ℕ, arith, length}
use Rattle.hg_store.proofs.Again.{one_more, place_of, stopped, synced_all, synced_still}
use Rattle.hg_store.proofs.gates.open_again.Goals as goal

pub returns-in-Err-clause-still : goal.returns-in-Err-clause-still
returns-in-Err-clause-still g c = λ head records end digest settled has.
    let k : ℕ = c.gates.left - 1 in
    let less : k < length c.args.gates.now = omega (arith, c.gates.invariant.within, c.gates-test.true) in
    stopped head records has.skipped (g.C.Calls.history c.args.device.now.calls)
    (g.C.Calls.history c.gates.device.calls) c.gates.left
    (c.gates.invariant.so_far head records end digest settled has) settled.version settled.file k
    (omega (arith, c.gates-test.true)) (omega (arith, has.all, less)) _
    (place_of head records c.args.gates.now has k less) (g.C.Calls.history c.write_again.new.self.calls)
    c.in-Err.ensures

pub gates-preserved : goal.gates-preserved
gates-preserved g c = record {
  within = omega (arith, c.gates.invariant.within);
  so_far = λ head records end digest settled has.
      let k : ℕ = c.gates.left - 1 in
      let less : k < length c.args.gates.now = omega (arith, c.gates.invariant.within, c.gates-test.true) in
      one_more head records has.skipped (g.C.Calls.history c.args.device.now.calls)
      (g.C.Calls.history c.gates.device.calls) c.gates.left
      (c.gates.invariant.so_far head records end digest settled has) settled.version settled.file k
      (omega (arith, c.gates-test.true)) (omega (arith, has.all, less)) _
      (place_of head records c.args.gates.now has k less) (g.C.Calls.history c.write_again.new.self.calls)
      c.in_default.ensures;
}

pub returns-clause-still : goal.returns-clause-still
returns-clause-still g c = λ head records end digest settled has.
    synced_still c.sync_again.result (g.C.Calls.history c.args.device.now.calls)
    (g.C.Calls.history c.gates.device.calls) (g.C.Calls.history c.sync_again.new.self.calls)
    (c.gates.invariant.so_far head records end digest settled has).still c.sync_again.ensures

pub returns-clause-written : goal.returns-clause-written
returns-clause-written g c = λ head records end digest settled has.
    synced_all c.sync_again.result head records c.args.gates.now has (g.C.Calls.history c.args.device.now.calls)
    (g.C.Calls.history c.gates.device.calls) (g.C.Calls.history c.sync_again.new.self.calls) c.gates.left
    (c.gates.invariant.so_far head records end digest settled has) (omega (arith, c.gates-test.false))
    c.sync_again.ensures
