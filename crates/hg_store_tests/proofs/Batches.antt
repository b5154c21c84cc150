-- Batches grow by a record.
use Rattle.std.proofs.Common.{List, [], ◌∷◌, ◌++◌}
use Rattle.std.specs.List.{AllByRecursion}
use Rattle.hg_store.specs.Entries.{Entry}
use Rattle.hg_store.specs.Records.{IsSized}

pub each_more : (batch : List Entry) (last : Entry) → AllByRecursion IsSized batch → IsSized last →
    AllByRecursion IsSized (batch ++ last ∷ [])
each_more [] last each is = (is, tt)
each_more (first ∷ batch) last each is = (each.0, each_more batch last each.1 is)
