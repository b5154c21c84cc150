use Rattle.std.proofs.Common.{ℕ, List, ◌++◌, ◌∙◌, drop, nat_eq, sym, ap}
use Rattle.std.proofs.lemmas.List.{take_rest}
use Rattle.std.specs.List.{starts_with}
use Rattle.hg_web.proofs.Fronts.{longer}
use Rattle.hg_web.proofs.body_prefix.BodyPrefixKeep.keep.Goals as goal

pub returns : goal.returns
returns c =
    let bytes = c.args.bytes.now in
    let count = c.self.inside.count in
    let next = ap (λ (body : List ℕ). starts_with nat_eq (drop count body) bytes) (sym c.as_slice.ensures)
    ∙ ap (λ (rest : List ℕ). starts_with nat_eq rest bytes) (sym (take_rest c.as_slice.result.now count))
    ∙ sym c.starts_with.ensures.value ∙ c.if-not-starts_with.false in
    longer c.self.inside.body bytes count next ∙ ap (λ (l : List ℕ). l ++ bytes) c.self.view_is
