use Rattle.hg_cgroup.proofs.Entries.{took_more, took_none}
use Rattle.hg_cgroup.proofs.changeset.read_changesets.Goals as goal

pub loop-entries-init : goal.loop-entries-init
loop-entries-init g c =
    rw c.in_ok-entries.ensures.items (rw c.as_slice-rest.ensures (took_none c.args.version c.args.payload.now))

pub loop-entries-preserved : goal.loop-entries-preserved
loop-entries-preserved g c =
    let read = rw c.in-Content-default.is-0 at c.in_ok-after.ensures.chunk in
    let entry = c.in_ok-entry-in-Content-default.entry in
    let after = c.in_ok-after.field-0.1.now in
    let more = took_more c.args.version c.args.payload.now c.loop-entries.rest.now after
    c.in-Content-default.content.now c.loop-entries.entries.items c.loop-entries.before entry
    c.loop-entries.invariant read.0 read.1 c.in_ok-entry-in-Content-default.ensures.ok in
    rw c.in_ok-push-in-Content-default.ensures.items more
