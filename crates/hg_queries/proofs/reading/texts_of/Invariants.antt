use Rattle.std.proofs.Common.{take}
use Rattle.std.specs.List.{AllZip}
use Rattle.hg_queries.specs.Texts.{IsCommandText}
use Rattle.hg_queries.proofs.reading.texts_of.Given as goal

-- the texts so far
abbrev pub invariant-loop-command : goal.invariant-loop-command
invariant-loop-command g l = AllZip (IsCommandText l.repo) (take l.command-index l.commands) l.texts
