mod Closed
mod ServedLemmas
mod Admitting
