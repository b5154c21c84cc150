use Rattle.std.proofs.Common.{◌≡◌, ◌++◌, ◌∷◌, [], List, length, ap, sym, ◌∙◌, subst, append_assoc, arith}
use Rattle.hg_types.specs.declared.part.Part.{Part}
use Rattle.hg_stream.specs.Unbundler.{HoldsBundle, ready_of}
use Rattle.hg_stream.proofs.parts.all_parts.Goals as goal

pub loop-part-preserved : goal.loop-part-preserved
loop-part-preserved g c =
    let items : List (Part g.row.A.Denot) = c.loop-part.parts.items in
    let part : Part g.row.A.Denot = c.in-Some.part in
    let rest : List (Part g.row.A.Denot) = ready_of c.next_part.new.self in
    let pushed : c.push_reserved.new.self.items ≡ items ++ part ∷ [] =
    c.push_reserved.ensures.items ∙ ap (λ (p : Part g.row.A.Denot). items ++ p ∷ []) c.into_part.ensures in
    let front : ready_of c.loop-part.bundle ≡ part ∷ rest = c.in-Some.ensures.part in
    let before = c.loop-part.invariant in (
      ap (λ ps. ps ++ rest) pushed
          ∙ (append_assoc items (part ∷ []) rest ∙ (ap (λ ps. items ++ ps) (sym front) ∙ before.0)),
      omega (arith, before.1, ap length front, c.push_reserved.ensures.len, c.push_reserved.ensures.capacity),
      (λ given bytes h. subst (λ ps. HoldsBundle c.next_part.new.self ps bytes)
          (append_assoc given items (part ∷ []) ∙ ap (λ ps. given ++ ps) (sym pushed))
          (c.in-Some.ensures.holds (given ++ items) bytes (before.2 given bytes h))),
      c.next_part.ensures.state ∙ before.3,
      c.next_part.ensures.limits ∙ before.4,
    )
