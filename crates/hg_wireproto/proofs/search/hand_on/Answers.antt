use Rattle.std.proofs.Common.{◌≡◌, ◌+◌, ◌-◌, ◌<◌, Some, ap, arith, inl, inr, length, refl, sym, ◌∙◌, ℕ}
use Rattle.hg_wireproto.proofs.Gathering.{some_within}
use Rattle.hg_wireproto.proofs.NumberSets.{set_joined, set_read}
use Rattle.hg_wireproto.proofs.search.hand_on.Goals as goal

pub returns-then-parent-first-clause-each : goal.returns-then-parent-first-clause-each
returns-then-parent-first-clause-each g c i k =
    let sets = c.args.behind.now.items in
    let p = c.in-Some.parent in
    let first = c.args.first in
    let low = some_within c.args.parent p (first + length sets) c.in-Some.is c.requires in
    let past = c.if-parent-first.true in
    let within : p - first < length sets = omega (arith, low, past) in
    let read = set_read sets (p - first) c.index.result.now within c.index.ensures in
    let joined = set_joined sets _ (p - first) c.and.result c.args.set.words within refl
    (λ n. (
      λ has. elim ((c.and.ensures n).0 has) [ inl a ↦ inl ((read n).0 a) | inr b ↦ inr b ],
      λ has. (c.and.ensures n).1 (elim has [ inl a ↦ inl ((read n).1 a) | inr b ↦ inr b ]),
    )) in (
      λ has. elim ((joined i k).0 has) [
        | inl old ↦ inl old
        | inr both ↦ inr (c.in-Some.is ∙ ap (λ (n : ℕ). Some n) (omega (arith, both.0, past)), both.1)
      ],
      λ has. (joined i k).1 (elim has [
        | inl old ↦ inl old
        | inr both ↦ inr (let e = sym c.in-Some.is ∙ both.0 in let f : p ≡ first + i = cc in omega (arith, f), both.1)
      ]),
    )
