use Rattle.std.proofs.Common.{◌≡◌, ◌∙◌, ◌-◌, ◌++◌, ◌∷◌, List, ℕ, ap, arith, drop, length, take}
use Rattle.std.proofs.lemmas.List.{take_rest}
use Rattle.hg_store.proofs.Repair.{if_ok}
use Rattle.hg_store.proofs.Staying.{kept_on, record_written}
use Rattle.hg_store.specs.Records.{numbers_bytes, open_gate}
use Rattle.hg_store.specs.declared.head.Version.TheVariants.{Second}
use Rattle.hg_store.specs.declared.numbers.Numbers.{Numbers}
use Rattle.hg_store.proofs.log.write_record.Goals as goal

pub returns-clause-written : goal.returns-clause-written
returns-clause-written g c = λ before digest_is.
    let whole : List ℕ = c.behind_gate-head.result in
    let skipped : ℕ = c.args.skipped in
    let head_is = c.behind_gate-head.ensures
    ∙ ap (λ (n : Numbers). open_gate Second ∷ numbers_bytes Second n) c.numbers.ensures.numbers in
    let len : 14 ≡ length whole = omega (arith, ap length head_is) in
    let all : take (14 - skipped) (drop skipped whole) ≡ drop skipped whole =
    ap (λ (n : ℕ). take (n - skipped) (drop skipped whole)) len ∙ take_rest whole skipped in
    let old : List ℕ = g.D.Device.seen c.args.device.now in
    let middle : List ℕ = g.D.Device.seen c.write_both.new.device in
    let first = c.in_ok-middle.ensures.written
    ∙ ap (λ (n : List ℕ). old ++ (take (14 - skipped) (drop skipped whole) ++ n)) (c.name.ensures
    ∙ ap (λ (s : _). s.name) c.stamp.ensures)
    ∙ ap (λ (h : List ℕ). old ++ (h ++ c.args.record.now.stamp.name)) all in
    if_ok c.write_both-2.result _ _ (λ _ second.
    record_written before c.args.record.now skipped old middle (g.D.Device.seen c.write_both-2.new.device) whole
    c.args.digest.now c.requires.skipped head_is digest_is first
    (second ∙ ap (λ (b : List ℕ). middle ++ (c.args.digest.now ++ b)) c.bundle.ensures)) c.write_both-2.ensures.written

pub returns-clause-front : goal.returns-clause-front
returns-clause-front g c = λ front le here.
    let first = c.write_both.ensures.front front le here in
    kept_on g.D.Device.moment g.D.Device.left_since g.D.Device.may_leave front _ _ _ first
    (c.write_both-2.ensures.front front (omega (arith, le, c.in_ok-middle.ensures.end)) first.outcomes)
