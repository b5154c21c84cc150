use Rattle.std.proofs.Common.{◌≡◌, ◌++◌}
use Rattle.hg_obs.specs.Markers.{merged}
use Rattle.hg_obs.proofs.markers.Markers.merge.Given as goal

-- so far the list is a merge of what came, and after that comes what is left
abbrev pub invariant-loop-marker : goal.invariant-loop-marker
invariant-loop-marker g l =
    record {
      markers : l.self ≡ merged l.fn.self l.yielded;
      comes : l.fn.added ≡ l.yielded
          ++ l.marker-iterator.rest.items;
    }
