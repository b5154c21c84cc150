use Rattle.std.proofs.Common.{◌≡◌, ◌+◌, ◌≤◌, true, take, length, vec_len, vec_capacity}
use Rattle.std.specs.List.{filter_map, list_all}
use Rattle.hg_phases.specs.Entries.{entry_in, is_entry}
use Rattle.hg_phases.proofs.entries.read_each.Given as goal

abbrev pub invariant-loop-piece : goal.invariant-loop-piece
invariant-loop-piece g l = record {
  each : list_all is_entry (take l.piece-index l.pieces) ≡ true;
  made : l.entries.items ≡ filter_map entry_in (take l.piece-index l.pieces);
  room : vec_len l.entries + length l.pieces ≤ vec_capacity l.entries + l.piece-index;
}
