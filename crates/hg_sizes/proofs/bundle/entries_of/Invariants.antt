use Rattle.std.proofs.Common.{◌≡◌, take}
use Rattle.hg_sizes.specs.Changesets.{changesets_of}
use Rattle.hg_sizes.proofs.bundle.entries_of.Given as goal

-- those of the parts so far
abbrev pub invariant-loop-part : goal.invariant-loop-part
invariant-loop-part g l = l.all.items ≡ changesets_of (take l.part-index l.parts)
