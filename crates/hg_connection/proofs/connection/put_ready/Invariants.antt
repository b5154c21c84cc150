use Rattle.std.proofs.Common.{◌≡◌, ◌++◌, ℕ, List, length}
use Rattle.hg_types.specs.declared.part.Part.{Part}
use Rattle.hg_stream.specs.Unbundler.{HoldsBundle, limits_of, ready_of, state_of}
use Rattle.hg_connection.specs.Steps.{PutsParts}
use Rattle.hg_connection.proofs.connection.put_ready.Given as goal

abbrev pub invariant-parts : goal.invariant-parts
invariant-parts g l = record {
  taken : List (Part g.row.A.Denot);
  spelled : ready_of l.fn.bundle ≡ taken ++ ready_of l.bundle;
  put : PutsParts l.fn.sender l.sender taken;
  holds : (given : List (Part g.row.A.Denot)) (bytes : List ℕ) → HoldsBundle l.fn.bundle given bytes
      → HoldsBundle l.bundle (given ++ taken) bytes;
  state : state_of l.bundle ≡ state_of l.fn.bundle;
  limits : limits_of l.bundle ≡ limits_of l.fn.bundle;
}

abbrev pub decreases-parts : goal.decreases-parts
decreases-parts g l = length (ready_of l.bundle)
