use Rattle.std.proofs.Common.{◌≡◌, ◌<◌, ℕ, arith, ap, take, get_or, ◌∙◌}
use Rattle.std.specs.Int.{w32, from_be_bytes, cast_signed}
use Rattle.std.proofs.lemmas.Int.{to_z-of_z}
use Rattle.hg_cgroup.proofs.Lengths.{length_is, length_fits}
use Rattle.hg_cgroup.proofs.chunk.read_length.Goals as goal

pub returns-clause-number : goal.returns-clause-number
returns-clause-number c =
    let bytes = c.args.bytes.now in
    let split = c.in_ok-length.ensures.cases in
    let small : (i : ℕ) → get_or bytes i 0 < 256 = λ i. omega (arith, c.type_inv.bytes i) in
    let is : c.from_be_bytes.result ≡ cast_signed w32 (from_be_bytes w32 (take 4 bytes)) =
    c.from_be_bytes.ensures ∙ ap (λ bytes. cast_signed w32 (from_be_bytes w32 bytes)) split.0 in
    rw (to_z-of_z w32 c.from_be_bytes.result (length_fits bytes c.from_be_bytes.result small is), split.1)
    (length_is bytes c.from_be_bytes.result small (omega arith) is)
