use Rattle.hg_theorems.proofs.recovery.what_an_end_leaves_is_recovered.Goals as goal

pub returns-clause-always : goal.returns-clause-always
returns-clause-always g c = λ publishing head stored first opened h count device begun lives file left.
    c.fronts_are_recovered.ensures publishing head stored first h 0 file begun (lives.always file left)

pub returns-clause-now : goal.returns-clause-now
returns-clause-now g c = λ publishing head stored first opened h count device begun lives file left.
    c.fronts_are_recovered.ensures publishing head stored first h count file begun (lives.now file left)

pub returns-clause-promised : goal.returns-clause-promised
returns-clause-promised g c = λ publishing head stored first h count device promise begun kept file left.
    c.fronts_are_recovered.ensures publishing head stored first h promise.count file begun (kept.left file left)
