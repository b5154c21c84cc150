-- The fields that a reader borrows, without where they lie in memory.
use Rattle.hg_params.specs.declared.fields.Block.{Block as BorrowedBlock}
use Rattle.hg_params.specs.declared.fields.Front.{Front as BorrowedFront}
use Rattle.hg_params.specs.code.Reading.{Block, Front}

abbrev pub view_block : BorrowedBlock → Block
view_block b = record { sizes = b.sizes.now; texts = b.texts.now }

abbrev pub view_front : BorrowedFront → Front
view_front f = record {
  kind = f.kind.now;
  id = f.id;
  mandatory = view_block f.mandatory;
  advisory = view_block f.advisory;
}
