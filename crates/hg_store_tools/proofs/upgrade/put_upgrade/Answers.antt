use Rattle.hg_store.specs.Head.{head_for, setup_of}
use Rattle.hg_store.specs.Log.{at_rest}
use Rattle.hg_store_tools.specs.Upgrading.{placed}
use Rattle.hg_store_tools.proofs.Upgrades.{upgraded}
use Rattle.hg_store_tools.proofs.upgrade.put_upgrade.Goals as goal

pub returns-in-Ok-place-clause-upgraded : goal.returns-in-Ok-place-clause-upgraded
returns-in-Ok-place-clause-upgraded g c =
    let read = c.in-Ok.ensures.ok in
    let new = head_for (setup_of read.2) c.args.identity in (
      read.0,
      read.1,
      placed (at_rest new read.3)
          (upgraded read.2 read.3 read.0 c.args.identity read.4 read.5 c.records_are_read_back.ensures)
          (c.in-Ok-place.ensures.whole new read.3 read.6),
    )

pub returns-in-Err-place-clause-upgraded : goal.returns-in-Err-place-clause-upgraded
returns-in-Err-place-clause-upgraded g c =
    let read = c.in-Ok.ensures.ok in
    let new = head_for (setup_of read.2) c.args.identity in (
      read.0,
      read.1,
      placed (at_rest new read.3)
          (upgraded read.2 read.3 read.0 c.args.identity read.4 read.5 c.records_are_read_back.ensures)
          (c.in-Err-place.ensures.whole new read.3 read.6),
    )
