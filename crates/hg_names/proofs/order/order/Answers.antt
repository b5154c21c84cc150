use Rattle.std.proofs.Common.{◌≡◌, refl, sym, subst, ◌∙◌}
use Rattle.hg_names.specs.Names.{name_cmp}
use Rattle.hg_names.proofs.Numbers.{AreBytes, rest_bytes, decided_by_numbers, decided_behind, eight_spell, four_spell}
use Rattle.hg_names.proofs.order.order.Goals as goal
use Rattle.hg_names.proofs.order.order.Goals.{in-Some-split_first_chunk-2+in-Some-split_first_chunk-3+else-x-y-2, in_default}

pub loop-x-init : goal.loop-x-init
loop-x-init c = record {
  same = refl;
  left_bytes = λ k. (c.type_inv.a k).fits;
  right_bytes = λ k. (c.type_inv.b k).fits;
}

pub returns-then-x-y : goal.returns-then-x-y
returns-then-x-y c =
    let left = c.loop-x.left.now in
    let right = c.loop-x.right.now in
    let x = c.from_be_bytes-x.result in
    let y = c.from_be_bytes-y.result in
    c.cmp.ensures
    ∙ decided_by_numbers 8 x y left right
    (eight_spell left c.in-Some.x.now c.in-Some.xs.now x c.loop-x.invariant.left_bytes c.in-Some.ensures.cases
    c.from_be_bytes-x.ensures)
    (eight_spell right c.in-Some-split_first_chunk.y.now c.in-Some-split_first_chunk.ys.now y
    c.loop-x.invariant.right_bytes c.in-Some-split_first_chunk.ensures.cases c.from_be_bytes-y.ensures)
    c.if-x-y.true
    ∙ c.loop-x.invariant.same

pub loop-x-preserved : goal.loop-x-preserved
loop-x-preserved c =
    let left = c.loop-x.left.now in
    let right = c.loop-x.right.now in
    let x = c.from_be_bytes-x.result in
    let y = c.from_be_bytes-y.result in
    let left_cut = c.in-Some.ensures.cases in
    let right_cut = c.in-Some-split_first_chunk.ensures.cases in
    record {
      same = (λ i. name_cmp (left_cut.1 i) (right_cut.1 i))
          ∙ decided_behind 8 x y left right
          (eight_spell left c.in-Some.x.now c.in-Some.xs.now x c.loop-x.invariant.left_bytes left_cut
          c.from_be_bytes-x.ensures)
          (eight_spell right c.in-Some-split_first_chunk.y.now c.in-Some-split_first_chunk.ys.now y
          c.loop-x.invariant.right_bytes right_cut c.from_be_bytes-y.ensures)
          c.if-x-y.false
          ∙ c.loop-x.invariant.same;
      left_bytes = subst AreBytes (sym left_cut.1) (rest_bytes 8 left c.loop-x.invariant.left_bytes);
      right_bytes = subst AreBytes (sym right_cut.1) (rest_bytes 8 right c.loop-x.invariant.right_bytes);
    }

pub returns-then-x-y-2 : goal.returns-then-x-y-2
returns-then-x-y-2 c =
    let left = c.loop-x.left.now in
    let right = c.loop-x.right.now in
    let x = c.from_be_bytes-x-2.result in
    let y = c.from_be_bytes-y-2.result in
    c.cmp-then-x-y-2.ensures
    ∙ decided_by_numbers 4 x y left right
    (four_spell left c.in-Some-split_first_chunk-2.x.now c.in-Some-split_first_chunk-2.xs.now x
    c.loop-x.invariant.left_bytes c.in-Some-split_first_chunk-2.ensures.cases c.from_be_bytes-x-2.ensures)
    (four_spell right c.in-Some-split_first_chunk-3.y.now c.in-Some-split_first_chunk-3.ys.now y
    c.loop-x.invariant.right_bytes c.in-Some-split_first_chunk-3.ensures.cases c.from_be_bytes-y-2.ensures)
    c.if-x-y-2.true
    ∙ c.loop-x.invariant.same

-- four bytes were alike, or one of the two has fewer
pub returns : goal.returns
returns c =
    let left = c.loop-x.left.now in
    let right = c.loop-x.right.now in
    let rest = c.match-split_first_chunk-3 in
    let same : name_cmp rest.left.now rest.right.now ≡ name_cmp left right = elim rest.branch [
      | in-Some-split_first_chunk-2+in-Some-split_first_chunk-3+else-x-y-2 w ↦
          let x = w.from_be_bytes-x-2.result in
          let y = w.from_be_bytes-y-2.result in
          let left_cut = w.in-Some-split_first_chunk-2.ensures.cases in
          let right_cut = w.in-Some-split_first_chunk-3.ensures.cases in
          (λ i. name_cmp (w.left-is i).now (w.right-is i).now)
          ∙ (λ i. name_cmp (left_cut.1 i) (right_cut.1 i))
          ∙ decided_behind 4 x y left right
          (four_spell left w.in-Some-split_first_chunk-2.x.now w.in-Some-split_first_chunk-2.xs.now x
          c.loop-x.invariant.left_bytes left_cut w.from_be_bytes-x-2.ensures)
          (four_spell right w.in-Some-split_first_chunk-3.y.now w.in-Some-split_first_chunk-3.ys.now y
          c.loop-x.invariant.right_bytes right_cut w.from_be_bytes-y-2.ensures)
          w.if-x-y-2.false
      | in_default w ↦ λ i. name_cmp (w.left-is i).now (w.right-is i).now
    ] in
    c.cmp-2.ensures ∙ same ∙ c.loop-x.invariant.same
