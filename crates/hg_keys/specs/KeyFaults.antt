-- Faults of text and of markers, reported as faults of pushkey; out of memory is reported as such.
use Rattle.hg_obs.specs.declared.fault.MarkerFault.{MarkerFault}
use Rattle.hg_obs.specs.declared.fault.MarkerFault.TheVariants as markers
use Rattle.hg_obs.specs.declared.fault.Base85Fault.{Base85Fault}
use Rattle.hg_obs.specs.declared.fault.Base85Fault.TheVariants as text
use Rattle.hg_keys.specs.declared.fault.KeyFault.{KeyFault}
use Rattle.hg_keys.specs.declared.fault.KeyFault.TheVariants.{BadBase85, BadMarkers, NoMemory}

-- the fault of a call for a fault in base-85
abbrev pub told_text : Base85Fault → KeyFault
told_text text.BadDigit = BadBase85 text.BadDigit
told_text text.BadLength = BadBase85 text.BadLength
told_text text.Overflow = BadBase85 text.Overflow
told_text text.NoMemory = NoMemory

-- the fault of a call for a fault in markers
abbrev pub told_markers : MarkerFault → KeyFault
told_markers markers.BadVersion = BadMarkers markers.BadVersion
told_markers markers.Short = BadMarkers markers.Short
told_markers markers.BadMetadata = BadMarkers markers.BadMetadata
told_markers markers.NullSuccessor = BadMarkers markers.NullSuccessor
told_markers markers.NoMemory = NoMemory
