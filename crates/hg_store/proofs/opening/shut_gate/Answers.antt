use Rattle.std.proofs.Common.{◌≡◌, ◌∙◌, ◌∷◌, [], ◌+◌, take, arith}
use Rattle.hg_store.specs.Device.{Overwrites}
use Rattle.hg_store.specs.Log.{at_rest}
use Rattle.hg_store.proofs.Moments.{weakly}
use Rattle.hg_store.proofs.Repair.{on_ok, cut_done, cut_crash, gate_done, gate_left}
use Rattle.hg_store.proofs.opening.shut_gate.Goals as goal

pub returns-then-end-len-clause-at_rest : goal.returns-then-end-len-clause-at_rest
returns-then-end-len-clause-at_rest g c = λ head records ends.
    on_ok c.cut_synced.result
    (g.D.Device.seen c.cut_synced.new.device ≡ take (c.args.end + 1) (g.D.Device.seen c.args.device.now))
    (g.D.Device.seen c.cut_synced.new.device ≡ at_rest head records)
    (λ is. is ∙ cut_done head records c.args.end (g.D.Device.seen c.args.device.now) ends
    (omega (arith, c.if-end-len.true, c.requires.len))) c.cut_synced.ensures.cut

pub returns-then-end-len-clause-any_moment : goal.returns-then-end-len-clause-any_moment
returns-then-end-len-clause-any_moment g c = λ head records ends only.
    weakly g.D.Device.moment g.D.Device.left_since c.args.device.now c.cut_synced.new.device _ _
    c.cut_synced.ensures.any_moment
    (cut_crash head records c.args.end (g.D.Device.seen c.args.device.now) ends
    (omega (arith, c.if-end-len.true, c.requires.len)) (g.D.Device.may_leave c.args.device.now) only)

pub returns-clause-at_rest : goal.returns-clause-at_rest
returns-clause-at_rest g c = λ head records ends.
    on_ok c.put_synced.result
    (Overwrites (g.D.Device.seen c.args.device.now) c.args.end (0 ∷ []) (g.D.Device.seen c.put_synced.new.device))
    (g.D.Device.seen c.put_synced.new.device ≡ at_rest head records)
    (gate_done head records c.args.end (g.D.Device.seen c.args.device.now) ends
    (omega (arith, c.if-end-len.false, c.requires.len)) (g.D.Device.seen c.put_synced.new.device))
    c.put_synced.ensures.written

pub returns-clause-any_moment : goal.returns-clause-any_moment
returns-clause-any_moment g c = λ head records ends only.
    weakly g.D.Device.moment g.D.Device.left_since c.args.device.now c.put_synced.new.device _ _
    c.put_synced.ensures.any_moment
    (gate_left head records c.args.end (g.D.Device.seen c.args.device.now) ends
    (omega (arith, c.if-end-len.false, c.requires.len)) (g.D.Device.may_leave c.args.device.now) only)
