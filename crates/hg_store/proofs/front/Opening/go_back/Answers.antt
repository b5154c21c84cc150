use Rattle.std.proofs.Common.{◌∙◌}
use Rattle.hg_store.specs.Files.{stored}
use Rattle.hg_store.specs.Head.{head_for}
use Rattle.hg_store.proofs.Followed.{back_at}
use Rattle.hg_store.proofs.front.Opening.go_back.Goals as goal

pub returns-clause-read : goal.returns-clause-read
returns-clause-read g c = λ setup has. record {
  allowed = has.all.allowed;
  each = has.all.each;
  read = c.in_ok-go_back.ensures.drawn
      ∙ back_at (stored (head_for setup c.args.self.now.identity) c.args.self.now.records.entries)
      c.args.self.now.frame.items (g.C.Calls.drawn c.args.self.now.calls) c.args.self.now.end has.all.read has.all.place;
  place = has.all.place;
  chained = has.all.chained;
  count = has.all.count;
  kept = has.all.kept;
}
