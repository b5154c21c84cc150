use Rattle.std.proofs.Common.{◌≡◌, ◌∙◌, ◌∷◌, ◌++◌, [], List, ℕ, ap, arith, refl, sym}
use Rattle.hg_store.proofs.Followed.{all_open, look_more, no_looks, none_looked, one_looked}
use Rattle.hg_store.proofs.standby.are_open.Goals as goal

pub gates-init : goal.gates-init
gates-init g c = record {
  within = omega arith;
  so_far = none_looked c.args.gates.now (g.C.Calls.history c.args.calls.now);
  looks = no_looks (g.C.Calls.history c.args.calls.now);
  same = refl;
}

pub returns-clause-opened : goal.returns-clause-opened
returns-clause-opened g c = λ head records has yes.
    all_open head records c.args.gates.now has (g.C.Calls.history c.args.calls.now)
    (g.C.Calls.history c.gates.calls) c.gates.next c.gates.invariant.so_far c.gates-test.false

pub returns-then-not-is_same-clause-looks : goal.returns-then-not-is_same-clause-looks
returns-then-not-is_same-clause-looks g c =
    let looked = c.in_ok-look.ensures.looked in
    look_more (g.C.Calls.history c.args.calls.now) (g.C.Calls.history c.gates.calls)
    (g.C.Calls.history c.look.new.self) _ looked.0 c.gates.invariant.looks looked.2

pub gates-preserved : goal.gates-preserved
gates-preserved g c =
    let looked = c.in_ok-look.ensures.looked in
    let bytes : looked.0 ≡ 255 ∷ [] = ap (λ (l : List ℕ). l ++ looked.0) (sym c.clear.ensures.items) ∙ sym looked.1
    ∙ sym c.as_slice.ensures.value ∙ c.is_same.ensures.0 c.if-not-is_same.false in
    record {
      within = omega (arith, c.gates-test.true);
      so_far = one_looked c.args.gates.now (g.C.Calls.history c.args.calls.now) (g.C.Calls.history c.gates.calls)
          (g.C.Calls.history c.look.new.self) c.gates.next looked.0 c.gates.invariant.so_far c.gates-test.true bytes
          looked.2;
      looks = look_more (g.C.Calls.history c.args.calls.now) (g.C.Calls.history c.gates.calls)
          (g.C.Calls.history c.look.new.self) _ looked.0 c.gates.invariant.looks looked.2;
      same = c.in_ok-look.ensures.same ∙ c.gates.invariant.same;
    }
