use Rattle.std.proofs.Common.{◌≡◌, ◌+◌, ◌-◌, List, sym, ap, subst}
use Rattle.std.proofs.Common.{arith, length}
use Rattle.hg_commit.specs.Handing.{batch_bytes}
use Rattle.hg_commit.specs.Locks.{DiskView}
use Rattle.hg_commit.specs.Records.{AreRecordsFrom, IsRecordOf}
use Rattle.hg_commit.specs.declared.disk.TheConstants.{BATCH_BYTES}
use Rattle.hg_commit.proofs.Batches.{left_on}
use Rattle.hg_commit.proofs.Lists.{one_more}
use Rattle.hg_commit.proofs.disk.Disk.take_in.Goals as goal
use Rattle.hg_store.specs.Entries.{Entry}

pub invariant_of-self : goal.invariant_of-self
invariant_of-self g c =
    let d = c.self.inside in
    let i = c.self.invariant in
    let first = g.J.Naming.first in
    let here = subst (λ (v : DiskView g.row.A.Denot g.row.D.Denot). IsRecordOf first v.history (v.count + length v.batch)
    c.args.entry) (sym c.self.view_is) c.requires.next in (
      i.0,
      i.1,
      subst (λ (l : List Entry). AreRecordsFrom first d.witness d.count l) (sym c.push_reserved.ensures.items)
          (one_more first d.witness d.count d.batch.items c.args.entry i.2 here),
      i.3,
      i.4,
      i.5,
      subst (λ (l : List Entry). c.unwrap_or-self-inside.result ≡ BATCH_BYTES - batch_bytes l) (sym c.push_reserved.ensures.items)
          (left_on BATCH_BYTES d.left c.unwrap_or-self-inside.result d.batch.items c.args.entry c.left_beside.result i.6
          c.left_beside.ensures c.unwrap_or-self-inside.ensures),
      i.7,
      i.8,
      i.9,
    )

pub push_reserved-requires : goal.push_reserved-requires
push_reserved-requires g c = omega (arith, c.requires.room, ap (λ v. v.room) c.self.view_is)
