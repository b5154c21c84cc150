use Rattle.std.proofs.Common.{arith}
use Rattle.hg_store_tools.proofs.Walks.{lead_of, lead_then, walking_more, walking_none}
use Rattle.hg_store_tools.proofs.marks.marks_from.Goals as goal

pub walking-init : goal.walking-init
walking-init g c =
    walking_none c.version-version.result c.args.start.now.mark c.args.until (g.R.Read.remaining c.args.reader.now)
    c.new-marks.result.items c.requires c.new-marks.ensures.items

pub returns-then-mark-until-clause-lead : goal.returns-then-mark-until-clause-lead
returns-then-mark-until-clause-lead g c =
    lead_of c.version-version.result c.args.start.now.head (g.R.Read.remaining c.args.reader.now)
    c.args.start.now.mark c.note.new.marks.items c.version-version.ensures
    (lead_then c.version-version.result c.args.start.now.mark c.args.until (g.R.Read.remaining c.args.reader.now)
    (g.R.Read.remaining c.walking.reader) (g.R.Read.remaining c.read_record.new.reader) c.walking.mark
    c.walking.marks.items c.note.new.marks.items c.in-Ok.entry c.read_record.new.digest c.walking.invariant
    c.in-Ok.ensures.record c.in-Ok-note.ensures)

pub returns-in-None-clause-lead : goal.returns-in-None-clause-lead
returns-in-None-clause-lead g c =
    lead_of c.version-version.result c.args.start.now.head (g.R.Read.remaining c.args.reader.now)
    c.args.start.now.mark c.note.new.marks.items c.version-version.ensures
    (lead_then c.version-version.result c.args.start.now.mark c.args.until (g.R.Read.remaining c.args.reader.now)
    (g.R.Read.remaining c.walking.reader) (g.R.Read.remaining c.read_record.new.reader) c.walking.mark
    c.walking.marks.items c.note.new.marks.items c.in-Ok.entry c.read_record.new.digest c.walking.invariant
    c.in-Ok.ensures.record c.in-Ok-note.ensures)

pub walking-preserved : goal.walking-preserved
walking-preserved g c =
    walking_more c.version-version.result c.args.start.now.mark c.args.until (g.R.Read.remaining c.args.reader.now)
    (g.R.Read.remaining c.walking.reader) (g.R.Read.remaining c.read_record.new.reader) c.walking.mark
    c.walking.marks.items c.note.new.marks.items c.in-Ok.entry c.read_record.new.digest c.walking.invariant
    c.in-Ok.ensures.record c.in-Ok-note.ensures c.in-Some.next (omega (arith, c.if-mark-until.false)) c.in-Some.ensures
