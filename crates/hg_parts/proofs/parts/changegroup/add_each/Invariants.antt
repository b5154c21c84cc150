use Rattle.std.proofs.Common.{◌≡◌, drop}
use Rattle.hg_parts.specs.Store.{IsSound, IsGrown}
use Rattle.hg_parts.specs.parts.Changegroup.{add_each}
use Rattle.hg_parts.specs.code.Changegroup.{grown_of, AreOfSameIds, AreOthersSame}
use Rattle.hg_parts.proofs.parts.changegroup.add_each.Given as goal

-- the entries so far are added, and those behind them are as they were
abbrev pub invariant-entries : goal.invariant-entries
invariant-entries g l = record {
  sound : IsSound l.settings l.store;
  grown : IsGrown l.initial.store l.store;
  others : AreOthersSame l.initial.store l.store;
  ids : AreOfSameIds l.initial.entries l.entries;
  behind : drop l.number l.entries ≡ drop l.number l.initial.entries;
  reached : add_each l.settings.limits l.t l.initial.entries (grown_of l.initial.store) ≡ add_each
      l.settings.limits l.t (drop l.number l.initial.entries) (grown_of l.store);
}
