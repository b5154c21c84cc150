-- Faults of reading a payload, reported as faults of a check; out of memory is reported as such.
use Rattle.hg_phases.specs.declared.fault.EntryFault.{EntryFault}
use Rattle.hg_phases.specs.declared.fault.EntryFault.TheVariants as entries
use Rattle.hg_keys.specs.declared.fault.BookmarkFault.{BookmarkFault}
use Rattle.hg_keys.specs.declared.fault.BookmarkFault.TheVariants as bookmarks
use Rattle.hg_checks.specs.declared.fault.CheckFault.{CheckFault}
use Rattle.hg_checks.specs.declared.fault.CheckFault.TheVariants.{Short, BadPhase, NoMemory}

-- the fault of a check for a fault in entries of phases
abbrev pub told_entries : EntryFault → CheckFault
told_entries entries.Short = Short
told_entries entries.BadPhase = BadPhase
told_entries entries.NoMemory = NoMemory

-- the fault of a check for a fault in entries of bookmarks
abbrev pub told_bookmarks : BookmarkFault → CheckFault
told_bookmarks bookmarks.Short = Short
told_bookmarks bookmarks.NoMemory = NoMemory
