use Rattle.hg_queue.specs.Words.{id_of, capacity_of}
use Rattle.hg_recovery.specs.Opening.{head_of}
use Rattle.hg_host.proofs.hosting.serve_store.Given as goal

abbrev pub ghosts-host_named-J-Naming : goal.ghosts-host_named-J-Naming
ghosts-host_named-J-Naming g a =
    record { table = id_of a.queue; capacity = capacity_of a.queue; first = a.recovered.repo }

abbrev pub ghosts-host_named-J-Storing : goal.ghosts-host_named-J-Storing
ghosts-host_named-J-Storing g a =
    record {
      head = head_of a.recovered.publishing a.recovered.identity;
      stored = a.recovered.records.entries;
      opened = g.D.Device.moment a.recovered.log.device;
      tally = a.tally.id;
      beats = a.terms.shared;
    }

abbrev pub ghosts-host_named-J-Ledger : goal.ghosts-host_named-J-Ledger
ghosts-host_named-J-Ledger g a = record { name = a.tally.name; parts = a.tally.parts }
