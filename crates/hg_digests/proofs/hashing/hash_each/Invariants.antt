use Rattle.std.proofs.Common.{◌≡◌}
use Rattle.hg_digests.specs.code.Hashing.{IsHashing, messages_at}
use Rattle.hg_digests.proofs.hashing.hash_each.Given as goal

abbrev pub invariant-places : goal.invariant-places
invariant-places l = record {
  hashing : IsHashing (messages_at l.bytes l.places) l.lanes l.digests;
  begun : l.lanes.begun ≡ l._number;
}
