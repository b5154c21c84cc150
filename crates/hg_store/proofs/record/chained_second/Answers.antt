use Rattle.std.proofs.Common.{◌∙◌, ap, []}
use Rattle.sha1.specs.Sha1.{sha1}
use Rattle.hg_store.specs.Records.{numbers_bytes}
use Rattle.hg_store.specs.declared.head.Version.TheVariants.{Second}
use Rattle.hg_store.proofs.Stepping.{hashed_is}
use Rattle.hg_store.proofs.record.chained_second.Goals as goal

pub returns : goal.returns
returns c =
    c.finalize.ensures _ (c.update-4.ensures _ (c.update-3.ensures _ (c.update-2.ensures _ (c.update.ensures []
    c.new-hasher.ensures))))
    ∙ ap sha1 (hashed_is c.args.before.now (numbers_bytes Second c.args.numbers) c.args.name.now c.args.inner.now
    c.to_bytes.result c.to_bytes.ensures)
