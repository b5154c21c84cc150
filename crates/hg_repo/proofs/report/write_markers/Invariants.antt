use Rattle.std.proofs.Common.{◌≡◌, ◌++◌, take}
use Rattle.std.specs.List.{flat_map}
use Rattle.std.specs.String.{string_bytes}
use Rattle.hg_repo.specs.Report.{marker_line}
use Rattle.hg_repo.proofs.report.write_markers.Given as goal

-- the lines so far are written
abbrev pub invariant-loop-marker : goal.invariant-loop-marker
invariant-loop-marker g l =
    string_bytes l.text ≡ string_bytes l.fn.text ++ flat_map marker_line (take l.marker-index l.markers)
