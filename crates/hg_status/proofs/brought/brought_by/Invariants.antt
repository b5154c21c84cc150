use Rattle.std.proofs.Common.{◌≡◌, ◌-◌, length}
use Rattle.hg_status.specs.Brought.{changesets_in, parts_read}
use Rattle.hg_status.proofs.brought.brought_by.Given as goal

abbrev pub invariant-parts : goal.invariant-parts
invariant-parts l = parts_read (length l.fn.bundle - l._step) l.count l.rest ≡ changesets_in l.fn.bundle
