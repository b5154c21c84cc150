-- What was done with a store that is followed: records that were found, and syncs.
use Rattle.std.specs.Prelude.{List, [], ◌∷◌, ◌++◌, Option, Some, None}
use Rattle.hg_store.specs.Entries.{Entry}
use Rattle.hg_store_tools.specs.declared.notes.TrailStep.{TrailStep}
use Rattle.hg_store_tools.specs.declared.notes.TrailStep.TheVariants.{Found, Synced}

-- a record that was found, or a sync that answered Ok
abbrev pub Note : Type 0
Note = Option Entry

-- what is noted of a step
abbrev pub note_of : TrailStep → Note
note_of (Found time name bundle) =
    Some (record { stamp = record { time = time; name = name.now }; bundle = bundle.now })
note_of Synced = None

-- the records that were found, in their order: the newest step comes first
abbrev pub found_in : List Note → List Entry
found_in [] = []
found_in (Some entry ∷ earlier) = found_in earlier ++ entry ∷ []
found_in (None ∷ earlier) = found_in earlier

-- those that were found before the last sync
abbrev pub durable_in : List Note → List Entry
durable_in [] = []
durable_in (Some entry ∷ earlier) = durable_in earlier
durable_in (None ∷ earlier) = found_in earlier
