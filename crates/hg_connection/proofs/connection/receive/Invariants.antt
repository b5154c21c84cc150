use Rattle.std.proofs.Common.{◌≡◌, ◌≤◌, ℕ, List, length}
use Rattle.hg_types.specs.declared.part.Part.{Part}
use Rattle.hg_stream.specs.Unbundler.{limits_of}
use Rattle.hg_serve.specs.Clients.{GoesOn}
use Rattle.hg_connection.specs.Receiving.{part_items}
use Rattle.hg_connection.specs.Turns.{IsReceiving}
use Rattle.hg_connection.proofs.connection.receive.Given as goal

abbrev pub invariant-turns : goal.invariant-turns
invariant-turns g l = record {
  fed : List ℕ;
  given : List (Part g.row.A.Denot);
  reads : IsReceiving l.server l.fn.inbox (g.I.Reader.told l.fn.reader) fed l.inbox
      (g.I.Reader.told l.reader) l.bundle given;
  turns : l._turn ≤ length fed;
  within : length fed ≤ l.server.stream;
  put : GoesOn l.fn.sender l.sender (part_items l.fn.sender.putter.push 0 given);
  limits : limits_of l.bundle ≡ limits_of l.fn.bundle;
}
