use Rattle.std.proofs.Common.{◌≡◌, ◌-◌, false, length}
use Rattle.hg_status.specs.Brought.{new_group, payload_read}
use Rattle.hg_status.proofs.brought.read_payload.Given as goal

abbrev pub invariant-chunks : goal.invariant-chunks
invariant-chunks l = payload_read (length l.fn.bytes - l._step) l.fn.counts l.payload l.rest
    ≡ payload_read (length l.fn.bytes) l.fn.counts (record { group = new_group; is_inside = false }) l.fn.bytes
