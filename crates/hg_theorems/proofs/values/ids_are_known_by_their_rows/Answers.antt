use Rattle.hg_theorems.proofs.Known.{bookmarks_are_on_known, known_to_keys, known_to_log, number_is}
use Rattle.hg_theorems.proofs.values.ids_are_known_by_their_rows.Goals as goal

pub returns-clause-log : goal.returns-clause-log
returns-clause-log c = known_to_log

pub returns-clause-keys : goal.returns-clause-keys
returns-clause-keys c = known_to_keys

pub returns-clause-bookmarks : goal.returns-clause-bookmarks
returns-clause-bookmarks c = bookmarks_are_on_known

pub returns-clause-number : goal.returns-clause-number
returns-clause-number c = number_is
