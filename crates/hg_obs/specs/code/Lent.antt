-- A marker whose successors and metadata are still in the data, by its fields.
use Rattle.std.specs.Prelude.{map}
use Rattle.hg_obs.specs.declared.read.Lent.{Lent}
use Rattle.hg_obs.specs.Reading.{Fields, node_of}

abbrev pub fields_of_lent : Lent → Fields
fields_of_lent lent = record {
  successors = map node_of lent.successors.now;
  flags = lent.flags;
  predecessor = lent.predecessor;
  meta = lent.meta.now;
}
