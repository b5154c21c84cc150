use Rattle.std.proofs.Common.{◌≡◌, ◌++◌, refl, sym, ap, ◌∙◌, append_assoc, subst, option_to_list}
use Rattle.hg_stream.specs.Faults.{StateTells}
use Rattle.hg_stream.specs.Unbundler.{state_of, limits_of}
use Rattle.hg_stream.proofs.Telling.{keeps_same}
use Rattle.hg_stream.proofs.unbundler.Unbundler.next_part.Goals as goal

pub returns-clause-holds : goal.returns-clause-holds
returns-clause-holds g c = λ given bytes h.
    let same : given ++ c.args.self.now.ready.items ≡ (given ++ option_to_list c.pop_front.result)
    ++ c.pop_front.new.self.items =
    ap (λ r. given ++ r) c.pop_front.ensures.items
    ∙ sym (append_assoc given (option_to_list c.pop_front.result) c.pop_front.new.self.items) in
    record {
      keeps = keeps_same c.args.self.now.stage c.args.self.now _ bytes _ _ same
          (λ at. record { left = at.left; place = at.place }) refl refl refl h.keeps;
      tells = subst (λ p. StateTells (state_of c.args.self.now) (limits_of c.args.self.now) bytes p) same h.tells;
    }
