-- What is noted of a call.
use Rattle.hg_store.specs.declared.history.Call.{Call}
use Rattle.hg_store.specs.declared.history.Call.TheVariants.{Began, Read, Wrote, Shortened, Synced, Placed, GaveUp, Missed}
use Rattle.hg_store.specs.declared.history.Call.TheVariants.{Renewed, TailKept, WentBack, Held, Looked}
use Rattle.hg_store.specs.Calls.{Event, began, came, wrote, shortened, synced, placed, gave_up, missed, renewed, tail_kept}
use Rattle.hg_store.specs.Calls.{went_back, was_held, looked}

-- what a call was, and what it answered
abbrev pub event_of : Call → Event
event_of (Began bytes) = began bytes.now
event_of (Read bytes) = came bytes.now
event_of (Wrote at bytes ok) = wrote at bytes.now ok
event_of (Shortened len ok) = shortened len ok
event_of (Synced ok) = synced ok
event_of (Placed ok) = placed ok
event_of GaveUp = gave_up
event_of Missed = missed
event_of Renewed = renewed
event_of (TailKept place bytes) = tail_kept place bytes.now
event_of (WentBack place) = went_back place
event_of Held = was_held
event_of (Looked at bytes) = looked at bytes.now
