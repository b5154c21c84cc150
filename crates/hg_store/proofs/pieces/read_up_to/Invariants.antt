use Rattle.hg_store.proofs.ByPiece.{HasCome}
use Rattle.hg_store.proofs.pieces.read_up_to.Given as goal

-- the bytes so far were read, and so many are left to read
abbrev pub invariant-reads : goal.invariant-reads
invariant-reads g l =
    HasCome l.fn.bytes.items l.bytes.items (g.R.Read.remaining l.fn.reader) (g.R.Read.remaining l.reader) l.left l.count
