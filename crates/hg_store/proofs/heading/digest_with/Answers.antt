use Rattle.hg_store.specs.Calls.{bytes_in}
use Rattle.std.proofs.Common.{◌≡◌, ℕ, List, arith, length}
use Rattle.hg_store.proofs.Streamed.{its_own, other_is, torn_bundle}
use Rattle.hg_store.proofs.heading.digest_with.Goals as goal

pub returns-then-bundle-heading-clause-torn : goal.returns-then-bundle-heading-clause-torn
returns-then-bundle-heading-clause-torn c = λ _.
    let h = c.args.heading.now in
    let bundle : List ℕ = bytes_in c.args.bundle.now.pieces.events in (
      c.if-bundle-heading.true,
      torn_bundle h.numbers h.name.now h.told.now bundle c.requires.label
          (omega (arith, c.if-bundle-heading.true, c.requires.len)),
    )

pub returns-then-not-is_same-clause-damaged : goal.returns-then-not-is_same-clause-damaged
returns-then-not-is_same-clause-damaged c = λ _.
    let h = c.args.heading.now in
    let bundle : List ℕ = bytes_in c.args.bundle.now.pieces.events in
    let size : length bundle ≡ h.numbers.size =
    omega (arith, c.if-bundle-heading.false, c.requires.len, c.requires.few) in
    other_is h.numbers h.name.now h.told.now bundle c.requires.label size c.args.before.now c.chained_after-found.result
    c.args.bundle.now.digest c.as_slice.result.now c.is_same.result c.requires.digest c.chained_after-found.ensures
    c.as_slice.ensures c.is_same.ensures c.if-not-is_same.true

pub returns-clause-whole : goal.returns-clause-whole
returns-clause-whole c =
    let h = c.args.heading.now in
    let bundle : List ℕ = bytes_in c.args.bundle.now.pieces.events in
    let size : length bundle ≡ h.numbers.size =
    omega (arith, c.if-bundle-heading.false, c.requires.len, c.requires.few) in
    its_own h.numbers h.name.now h.told.now bundle c.requires.label size c.args.before.now c.chained_after-found.result
    c.args.bundle.now.digest c.as_slice.result.now c.is_same.result c.requires.digest c.chained_after-found.ensures
    c.as_slice.ensures c.is_same.ensures c.if-not-is_same.false
