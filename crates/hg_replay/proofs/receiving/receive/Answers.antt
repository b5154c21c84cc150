use Rattle.std.proofs.Common.{List, ℕ, [], ◌++◌, sym, subst, arith}
use Rattle.std.proofs.lemmas.List.{length-append}
use Rattle.hg_types.specs.Limits.{standard_limits}
use Rattle.hg_connection.specs.Turns.{IsReceiving}
use Rattle.hg_connection.proofs.ReceivingLemmas.{begins, within_limit}
use Rattle.hg_replay.proofs.receiving.receive.Goals as goal

pub loop-turn-init : goal.loop-turn-init
loop-turn-init g c = record {
  fed = [];
  reads = subst (λ (l : List ℕ). IsReceiving standard_limits [] (g.R.Reader.told c.args.reader.now) [] l
      (g.R.Reader.told c.args.reader.now) c.args.bundle.now []) (sym c.new-inbox.ensures)
      (begins standard_limits [] _ c.args.bundle.now c.requires.empty c.requires.reading c.requires.limits);
  turns = omega arith;
  within = omega arith;
}

pub loop-turn-preserved : goal.loop-turn-preserved
loop-turn-preserved g c =
    let i = c.loop-turn.invariant in
    let t = c.in-None.ensures.turns standard_limits [] _ i.fed [] i.reads in
    record {
      fed = i.fed ++ t.0;
      reads = t.3;
      turns = omega (arith, i.turns, t.1, length-append i.fed t.0);
      within = within_limit standard_limits [] _ (i.fed ++ t.0) _ _ c.read_on.new.bundle [] t.3;
    }

pub returns-in-Some : goal.returns-in-Some
returns-in-Some g c =
    let i = c.loop-turn.invariant in
    (c.read_on.new.inbox, c.in-Some.ensures.turns standard_limits [] _ i.fed [] i.reads)
