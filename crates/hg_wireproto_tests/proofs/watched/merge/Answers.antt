use Rattle.hg_wireproto_tests.proofs.Watching.{merged_on, unchanged}
use Rattle.hg_wireproto_tests.proofs.watched.merge.Goals as goal

pub returns : goal.returns
returns g c = merged_on c.args.markers.now _ c.args.added c.in_ok-merge.ensures.ok

pub returns-in_err-merge : goal.returns-in_err-merge
returns-in_err-merge g c = unchanged c.args.markers.now _ c.in_err-merge.ensures.err
