use Rattle.hg_keys.proofs.StayingLemmas.{keys_stay}
use Rattle.hg_keys.proofs.laws.keys_stay_lawful.Goals as goal

pub returns : goal.returns
returns g c = λ rows keys call lawful_rows lawful.
    let phases = c.phases_stay_lawful.ensures in
    keys_stay phases.advanced phases.counts rows lawful_rows
    c.reading_is_the_grammar.ensures.markers c.markers_stay_lawful.ensures.merge keys lawful call
