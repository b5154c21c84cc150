use Rattle.std.proofs.Common.{◌≡◌, ◌<◌, [], length, refl, sym, ◌∙◌, arith, inr}
use Rattle.std.proofs.lemmas.Bool.{eqb-true, eqb-false, false≢true}
use Rattle.std.proofs.lemmas.List.{nil_from_length}
use Rattle.std.proofs.lemmas.Result.{err_from_is_err_and}
use Rattle.hg_params.specs.code.Reading.{fields_in}
use Rattle.hg_params.specs.code.View.{view_front}
use Rattle.hg_params.proofs.FieldLaws.{front_take}
use Rattle.hg_params.proofs.HeaderLaws.{fields_fault, has_fields, leftover, bad_type, repeated, header_read}
use Rattle.hg_params.proofs.HeaderLaws.{both_added}
use Rattle.hg_params.proofs.head.read_header.Goals as goal

pub returns-in_err-front-clause-err : goal.returns-in_err-front-clause-err
returns-in_err-front-clause-err g c =
    let p = err_from_is_err_and c.from_residual.result c.from_residual.ensures.1 in
    rw p.1 (inr (fields_fault c.args.bytes.now _ p.0 c.in_err-front.ensures p.2))

pub returns-then-not-is_empty-clause-err : goal.returns-then-not-is_empty-clause-err
returns-then-not-is_empty-clause-err g c =
    let t = front_take c.args.bytes.now (view_front c.in_ok-front.front) c.in_ok-front.rest.now
    (λ i. omega (arith, c.type_inv.bytes i)) c.in_ok-front.ensures in
    let some : 0 < length c.in_ok-front.rest.now = omega
    (arith, eqb-false _ _ (sym c.if-not-is_empty.ensures)) in
    inr (leftover c.args.bytes.now (view_front c.in_ok-front.front) c.in_ok-front.rest.now t some)

pub returns-then-not-is_kind-clause-err : goal.returns-then-not-is_kind-clause-err
returns-then-not-is_kind-clause-err g c =
    let front = view_front c.in_ok-front.front in
    let t = front_take c.args.bytes.now front c.in_ok-front.rest.now
    (λ i. omega (arith, c.type_inv.bytes i)) c.in_ok-front.ensures in
    let none : c.in_ok-front.rest.now ≡ [] = nil_from_length _
    (eqb-true _ _ (sym c.if-not-is_empty.ensures)) in
    inr (bad_type c.args.bytes.now (fields_in front)
    (has_fields c.args.bytes.now front c.in_ok-front.rest.now t none) (sym c.if-not-is_kind.ensures))

pub append_params-requires : goal.append_params-requires
append_params-requires g c =
    let t = front_take c.args.bytes.now (view_front c.in_ok-front.front) c.in_ok-front.rest.now
    (λ i. omega (arith, c.type_inv.bytes i)) c.in_ok-front.ensures in
    omega (arith, t.mandatory_full)

pub append_params-requires-2 : goal.append_params-requires-2
append_params-requires-2 g c =
    let t = front_take c.args.bytes.now (view_front c.in_ok-front.front) c.in_ok-front.rest.now
    (λ i. omega (arith, c.type_inv.bytes i)) c.in_ok-front.ensures in
    omega (arith, t.advisory_full)

pub returns-then-not-are_distinct-clause-err : goal.returns-then-not-are_distinct-clause-err
returns-then-not-are_distinct-clause-err g c =
    let front = view_front c.in_ok-front.front in
    let t = front_take c.args.bytes.now front c.in_ok-front.rest.now
    (λ i. omega (arith, c.type_inv.bytes i)) c.in_ok-front.ensures in
    let none : c.in_ok-front.rest.now ≡ [] = nil_from_length _
    (eqb-true _ _ (sym c.if-not-is_empty.ensures)) in
    let params = c.as_slice.ensures
    ∙ both_added (fields_in front) c.new-params.result c.append_params.new.params
    c.append_params-2.new.params c.new-params.ensures c.in_ok-append_params.ensures
    c.in_ok-append_params-2.ensures in
    inr (repeated c.args.bytes.now (fields_in front) c.as_slice.result.now
    (has_fields c.args.bytes.now front c.in_ok-front.rest.now t none)
    (sym c.if-not-is_kind.ensures) params (λ d. false≢true (c.if-not-are_distinct.ensures.1 d)))

pub returns-clause-ok : goal.returns-clause-ok
returns-clause-ok g c =
    let front = view_front c.in_ok-front.front in
    let t = front_take c.args.bytes.now front c.in_ok-front.rest.now
    (λ i. omega (arith, c.type_inv.bytes i)) c.in_ok-front.ensures in
    let none : c.in_ok-front.rest.now ≡ [] = nil_from_length _
    (eqb-true _ _ (sym c.if-not-is_empty.ensures)) in
    let params = both_added (fields_in front) c.new-params.result c.append_params.new.params
    c.append_params-2.new.params c.new-params.ensures c.in_ok-append_params.ensures
    c.in_ok-append_params-2.ensures in
    header_read c.args.bytes.now _ _ c.append_params-2.new.params (fields_in front)
    (has_fields c.args.bytes.now front c.in_ok-front.rest.now t none)
    (sym c.if-not-is_kind.ensures) c.in_ok-kind.ensures refl params
    (rw (← c.as_slice.ensures) (c.if-not-are_distinct.ensures.0 refl))
