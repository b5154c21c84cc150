use Rattle.hg_store_tools.proofs.Walks.{has_head_of}
use Rattle.hg_store_tools.proofs.marks.first_start.Goals as goal

pub returns-clause-file : goal.returns-clause-file
returns-clause-file g c file is =
    has_head_of file (g.S.StoreBytes.bytes c.args.store.now) (g.R.Read.remaining c.in-Ok.reader)
    (g.R.Read.remaining c.begin.new.reader) c.in-Ok-begin.begun.head c.in-Ok-begin.begun.digest is c.in-Ok.ensures
    c.in-Ok-begin.ensures.ok
