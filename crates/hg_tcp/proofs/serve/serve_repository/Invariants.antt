use Rattle.hg_queue.specs.Words.{id_of, capacity_of}
use Rattle.hg_tcp.proofs.serve.serve_repository.Given as goal

abbrev pub ghosts-serve_named-J-Naming : goal.ghosts-serve_named-J-Naming
ghosts-serve_named-J-Naming g a = record { table = id_of a.queue; capacity = capacity_of a.queue; first = a.repo }

abbrev pub ghosts-serve_named-J-ServiceNaming : goal.ghosts-serve_named-J-ServiceNaming
ghosts-serve_named-J-ServiceNaming g a = record { bundles = a.terms.bundles }
