use Rattle.std.proofs.Common.{◌≡◌, ◌-◌}
use Rattle.hg_digests.specs.code.Hashing.{IsHashing, messages_at}
use Rattle.hg_digests.proofs.lanes.Lanes.run.Given as goal

abbrev pub invariant-steps : goal.invariant-steps
invariant-steps l = record {
  hashing : IsHashing (messages_at l.bytes l.places) l.lanes l.digests;
  first : l.lanes.a.left ≡ l.fn.self.a.left - l._step;
  others : (l.fn.self.b.left ≡ 0 → l.lanes.b.left ≡ 0) × (l.fn.self.c.left ≡ 0 → l.lanes.c.left ≡ 0)
      × (l.fn.self.d.left ≡ 0 → l.lanes.d.left ≡ 0);
  begun : l.lanes.begun ≡ l.fn.self.begun;
}
