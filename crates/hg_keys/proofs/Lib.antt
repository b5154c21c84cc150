pub mod CallerLemmas
mod PayloadLemmas
mod GrammarLemmas
mod SetLemmas
mod StayingLemmas
mod BackLemmas
mod ChangeLemmas
mod SortLemmas
mod PartsLemmas
