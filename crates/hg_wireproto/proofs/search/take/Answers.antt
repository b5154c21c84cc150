use Rattle.std.proofs.Common.{refl}
use Rattle.hg_wireproto.proofs.NumberSets.{set_taken}
use Rattle.hg_wireproto.proofs.search.take.Goals as goal

pub returns-clause-each : goal.returns-clause-each
returns-clause-each g c = set_taken c.args.behind.now.items _ c.args.place c.new.result c.requires refl c.new.ensures
