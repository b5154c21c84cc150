use Rattle.hg_wireproto.proofs.Quoting.{quoted_more, quoted_none}
use Rattle.hg_wireproto.proofs.branchmap.push_quoted.Goals as goal

pub loop-byte-init : goal.loop-byte-init
loop-byte-init g c = quoted_none c.args.text.now.items

pub loop-byte-preserved : goal.loop-byte-preserved
loop-byte-preserved g c =
    quoted_more c.args.text.now.items c.loop-byte.text.items _ c.args.name.now c.loop-byte.byte-index
    c.loop-byte-test.true c.loop-byte.invariant c.in_ok-push_quoted_byte.ensures
