use Rattle.hg_theorems.proofs.Had.{at_the_end, was_there}
use Rattle.hg_theorems.proofs.Seen.{closed}
use Rattle.hg_theorems.proofs.recovery.what_is_recovered_was_there.Goals as goal

pub returns-clause-before : goal.returns-clause-before
returns-clause-before g c first =
    let j = c.journals_grow.ensures in
    was_there j.journal j.parts
    (closed j.journal j.parts j.places c.done_pushes_have_a_place.ensures.no_other c.closed_pushes_have_ended.ensures)
    c.one_by_one.ensures.alone first

pub returns-clause-whole : goal.returns-clause-whole
returns-clause-whole g c first =
    let j = c.journals_grow.ensures in
    at_the_end j.journal j.parts
    (closed j.journal j.parts j.places c.done_pushes_have_a_place.ensures.no_other c.closed_pushes_have_ended.ensures)
    c.one_by_one.ensures.alone first
