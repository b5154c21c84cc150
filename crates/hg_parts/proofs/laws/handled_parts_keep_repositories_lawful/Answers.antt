use Rattle.hg_parts.proofs.Staying.{none_lawful, stays_lawful}
use Rattle.hg_parts.proofs.laws.handled_parts_keep_repositories_lawful.Goals as goal

pub returns-clause-none : goal.returns-clause-none
returns-clause-none g c = none_lawful

pub returns-clause-part : goal.returns-clause-part
returns-clause-part g c = stays_lawful (record {
  rows_stay = c.answers_keep_rows_lawful.ensures.lawful;
  leaves = c.answers_keep_rows_lawful.ensures.leaves;
  behind = c.phases_stay_lawful.ensures.behind;
  registered_stay = c.phases_stay_lawful.ensures.registered;
  advanced_stay = c.phases_stay_lawful.ensures.advanced;
  counts = c.phases_stay_lawful.ensures.counts;
  are_read = c.reading_is_the_grammar.ensures.markers;
  merged_stay = c.markers_stay_lawful.ensures.merge;
  in_order = c.bookmarks_stay_lawful.ensures.in_order;
  on_known = c.bookmarks_stay_lawful.ensures.on_known;
  keys_stay = c.keys_stay_lawful.ensures;
})
