use Rattle.hg_store_tests.proofs.folder_tests.fill.Goals as goal

pub append-requires-clause-settled : goal.append-requires-clause-settled
append-requires-clause-settled c = (_, _, c.in_ok-opened.ensures.settled)

pub append-requires-2-clause-settled : goal.append-requires-2-clause-settled
append-requires-2-clause-settled c =
    (_, _, c.in_ok-append.ensures.acknowledged _ _ c.in_ok-opened.ensures.settled)
