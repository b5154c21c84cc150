use Rattle.std.proofs.Common.{ℕ, ◌+◌, ◌%◌, ap, ap₂, ◌∙◌, refl, bit_xor}
use Rattle.std.specs.Int.{w32, rotate_left}
use Rattle.hg_digests.proofs.LaneLemmas.{slice_index-lane}
use Rattle.hg_digests.proofs.rounds.next_word.Goals as goal

pub returns-clause-value : goal.returns-clause-value
returns-clause-value c j h =
    rw (
      slice_index-lane c.args.w.now j ((c.args.t + 13) % 16),
      slice_index-lane c.args.w.now j ((c.args.t + 8) % 16),
      slice_index-lane c.args.w.now j ((c.args.t + 2) % 16),
      slice_index-lane c.args.w.now j (c.args.t % 16),
    ) (c.rotate-word.ensures j h ∙ ap (λ (x : ℕ). rotate_left w32 x 1) (c.xor.ensures j h ∙ ap₂ bit_xor (c.parity-others.ensures j h) refl))
