use Rattle.hg_store_tools_tests.proofs.folder_tests.fill.Goals as goal

pub append-requires-clause-settled : goal.append-requires-clause-settled
append-requires-clause-settled c = (_, _, c.in_ok-opened.ensures.settled)
