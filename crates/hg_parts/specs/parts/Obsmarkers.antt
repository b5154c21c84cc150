-- The part `obsmarkers`: marker data, whose markers join those that are there.
use Rattle.std.specs.Prelude.{ℕ, Bool, List, length, codes, decimal, Result, Ok, Err}
use Rattle.hg_types.specs.declared.part.Part.{Part}
use Rattle.hg_obs.specs.declared.fault.MarkerFault.{MarkerFault}
use Rattle.hg_obs.specs.declared.marker.Marker.{Marker}
use Rattle.hg_obs.specs.Markers.{fresh, merged}
use Rattle.hg_obs.specs.Reading.{markers_of}
use Rattle.hg_parts.specs.declared.prepared.Reading.{Reading}
use Rattle.hg_parts.specs.declared.prepared.Reading.TheVariants.{Obsmarkers, Malformed}
use Rattle.hg_parts.specs.declared.refusal.Refusal.TheVariants.{BadPart}
use Rattle.hg_parts.specs.Repository.{Repository}
use Rattle.hg_parts.specs.Handled.{Outcome}
use Rattle.hg_parts.specs.Replies.{reply_part, reply_where}

-- the reply says how many markers are new
abbrev pub reply_to_markers : {A : Type 0} → ℕ → ℕ → Part A
reply_to_markers id count = reply_part (codes "reply:obsmarkers") id (codes "new") (decimal count)

-- merges the markers, where the payload can be read
abbrev pub handle_read : {A : Type 0} → Repository A → Bool → ℕ → Part A →
    Result (List (Marker A)) MarkerFault → Outcome A
handle_read repo replying place part (Ok added) = Ok (record {
  repo = record repo { markers = merged repo.markers added };
  reply = reply_where replying (reply_to_markers part.id (length (fresh repo.markers added)));
})
handle_read repo replying place part (Err fault) = Err (BadPart place)

-- what it says without the repository: its markers, or that its format has a fault
abbrev pub reading_in : {A : Type 0} → Result (List (Marker A)) MarkerFault → Reading A
reading_in (Ok added) = Obsmarkers added
reading_in (Err fault) = Malformed

-- what an `obsmarkers` part says without the repository
abbrev pub read_obsmarkers : {A : Type 0} → Part A → Reading A
read_obsmarkers part = reading_in (markers_of part.payload)

-- what was read meets the repository
abbrev pub handle_markers : {A : Type 0} → Repository A → Bool → ℕ → Part A → List (Marker A) → Outcome A
handle_markers repo replying place part added = handle_read repo replying place part (Ok added)

-- what an `obsmarkers` part makes of a repository
abbrev pub handle_obsmarkers : {A : Type 0} → Repository A → Bool → ℕ → Part A → Outcome A
handle_obsmarkers repo replying place part = handle_read repo replying place part (markers_of part.payload)
