use Rattle.hg_commit.proofs.Staying.{later, earlier}
use Rattle.hg_commit.proofs.laws.records_stay.Goals as goal

pub returns-clause-later : goal.returns-clause-later
returns-clause-later g c first =
    let j = c.journals_grow.ensures in
    later j.journal j.parts j.places c.done_pushes_have_a_place.ensures.no_other
    c.closed_pushes_have_ended.ensures first

pub returns-clause-earlier : goal.returns-clause-earlier
returns-clause-earlier g c first =
    let j = c.journals_grow.ensures in
    earlier j.journal j.parts j.places c.done_pushes_have_a_place.ensures.no_other
    c.closed_pushes_have_ended.ensures first
