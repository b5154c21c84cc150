use Rattle.hg_connection.specs.Steps.{IsFresh}
use Rattle.hg_connection.proofs.Chains.{Goes}
use Rattle.hg_connection.proofs.connection.serve_connection.Given as goal

abbrev pub invariant-bundles : goal.invariant-bundles
invariant-bundles g l = record {
  goes : Goes l.server g.J.Naming.capacity g.J.Naming.first (g.I.Reader.told l.fn.reader)
      (g.I.Reader.told l.reader) (g.W.Writer.told l.fn.writer) (g.W.Writer.told l.writer) l.fn.client l.client
      l.inbox l.served l.number;
  bundle : IsFresh l.server l.bundle;
}
