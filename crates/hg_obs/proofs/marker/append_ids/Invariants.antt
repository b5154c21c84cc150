use Rattle.std.proofs.Common.{◌≡◌, ◌++◌, take}
use Rattle.hg_obs.specs.Marker.{ids_bytes}
use Rattle.hg_obs.proofs.marker.append_ids.Given as goal

abbrev pub invariant-loop-id : goal.invariant-loop-id
invariant-loop-id g l = l.out.items ≡ l.fn.out.items ++ ids_bytes (take l.id-index l.ids)
