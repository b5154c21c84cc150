use Rattle.std.proofs.Common.{◌≡◌, ℕ, List, ◌++◌, ◌-◌, ◌*◌, ◌<◌, ◌≤◌, length, take, drop, replicate, refl, sym, ap, ◌∙◌, arith}
use Rattle.std.proofs.lemmas.List.{take_rest}
use Rattle.sha1.specs.Sha1.{padding}
use Rattle.hg_digests.specs.Messages.{message_at, text_in}
use Rattle.hg_digests.specs.code.Blocks.{bits_of, block_of, count_of}
use Rattle.hg_digests.proofs.BlockLemmas.{block-of-end, block-of-rest, drop-message, length-id, length-message}
use Rattle.hg_digests.proofs.block.block_of.Goals as goal

pub returns-then-number-eq0 : goal.returns-then-number-eq0
returns-then-number-eq0 c =
    let m : List ℕ = message_at c.args.bytes.now c.args.place.now in
    let none : c.args.number ≡ 0 = omega arith in
    let size : c.size_of-size.result ≡ length m = c.size_of-size.ensures.size ∙ sym (length-message c.args.bytes.now c.args.place.now c.requires.within) in
    let same : (c.id_at-first.result.now ++ c.id_at-second.result.now) ++ c.text_at-text.result.now ≡ m =
    rw (c.id_at-first.ensures, c.id_at-second.ensures, c.text_at-text.ensures) refl in
    c.first_block.ensures ∙ ap (λ (x : List ℕ). take 64 (x ++ padding c.size_of-size.result)) same
    ∙ ap (λ (n : ℕ). take 64 (m ++ padding n)) size ∙ ap (block_of m) (sym none)

pub returns-then-start-size : goal.returns-then-start-size
returns-then-start-size c =
    let m : List ℕ = message_at c.args.bytes.now c.args.place.now in
    let long = length-message c.args.bytes.now c.args.place.now c.requires.within in
    let size : c.size_of-size.result ≡ length m = c.size_of-size.ensures.size ∙ sym long in
    let after : length m < c.args.number * 64 = omega arith in
    let there : c.args.number < count_of (length m) = omega arith in
    c.with_length.ensures ∙ ap (λ (n : ℕ). replicate 56 0 ++ bits_of n) size ∙ sym (block-of-end m c.args.number after there)

pub returns : goal.returns
returns c =
    let place = c.args.place.now in
    let m : List ℕ = message_at c.args.bytes.now place in
    let at : ℕ = c.args.number * 64 - 40 in
    let text : List ℕ = text_in c.args.bytes.now place.from place.to in
    let size : c.size_of-size.result ≡ length m = c.size_of-size.ensures.size ∙ sym (length-message c.args.bytes.now place c.requires.within) in
    let within : c.args.number * 64 ≤ length m = omega arith in
    c.next_block.ensures ∙ ap (λ (x : List ℕ). take 64 (x ++ padding c.size_of-size.result)) (take_rest c.text_at-text.result.now at)
    ∙ ap (λ (x : List ℕ). take 64 (drop at x ++ padding c.size_of-size.result)) c.text_at-text.ensures
    ∙ ap (λ (n : ℕ). take 64 (drop at text ++ padding n)) size
    ∙ ap (λ (z : List ℕ). take 64 (z ++ padding (length m))) (sym (drop-message c.args.bytes.now place (c.args.number * 64) c.requires.within (omega arith)))
    ∙ sym (block-of-rest m c.args.number within)

pub first_block-requires-clause-first : goal.first_block-requires-clause-first
first_block-requires-clause-first c = ap length c.id_at-first.ensures ∙ length-id c.args.bytes.now c.args.place.now.first c.requires.within.0

pub first_block-requires-clause-second : goal.first_block-requires-clause-second
first_block-requires-clause-second c = ap length c.id_at-second.ensures ∙ length-id c.args.bytes.now c.args.place.now.second c.requires.within.1
