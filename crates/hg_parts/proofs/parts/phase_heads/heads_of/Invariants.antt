use Rattle.std.proofs.Common.{◌≡◌, ◌<◌, take, length, All}
use Rattle.hg_parts.specs.code.PhaseHeads.{heads_of}
use Rattle.hg_parts.proofs.parts.phase_heads.heads_of.Given as goal

-- the heads of the entries so far
abbrev pub invariant-loop-entry : goal.invariant-loop-entry
invariant-loop-entry g l = record {
  made : l.heads.items ≡ heads_of l.log.rows l.target (take l.entry-index l.entries);
  within : All (λ head. head < length l.log.rows) l.heads.items;
}
