use Rattle.std.proofs.Common.{◌-◌, vec_len, ap, sym, ◌∙◌}
use Rattle.hg_commit.specs.Handing.{batch_bytes}
use Rattle.hg_commit.specs.Locks.{DiskView}
use Rattle.hg_commit.specs.declared.disk.TheConstants.{BATCH_BYTES}
use Rattle.hg_commit.proofs.Batches.{empty_fits, has_some, is_enough}
use Rattle.hg_commit.proofs.disk.Disk.fits.Goals as goal

pub returns-then-is_empty : goal.returns-then-is_empty
returns-then-is_empty g c =
    let d = c.self.inside in
    empty_fits BATCH_BYTES c.args.self.now.batch d.batch.items c.args.entry.now (vec_len d.batch)
    (ap (λ (v : DiskView g.row.A.Denot g.row.D.Denot). v.batch) (sym c.self.view_is)) d.batch.ok.0 (sym c.is_empty.ensures ∙ c.if-is_empty.true)

pub returns : goal.returns
returns g c =
    let d = c.self.inside in
    is_enough BATCH_BYTES d.left c.args.self.now.batch c.args.entry.now c.left_beside.result c.is_some.result
    (c.self.invariant.6 ∙ ap (λ (v : DiskView g.row.A.Denot g.row.D.Denot). BATCH_BYTES - batch_bytes v.batch) c.self.view_is) c.left_beside.ensures
    (has_some c.args.self.now.batch d.batch.items (vec_len d.batch) (ap (λ (v : DiskView g.row.A.Denot g.row.D.Denot). v.batch) (sym c.self.view_is))
    d.batch.ok.0 (sym c.is_empty.ensures ∙ c.if-is_empty.false)) c.is_some.ensures
