use Rattle.std.proofs.Common.{◌≡◌, ◌↔◌, ◌≤◌, length, sym, subst, ◌∙◌, arith}
use Rattle.hg_types.proofs.WordLemmas.{AreBytes, rest_bytes, eight_alike, four_alike, same_behind, left_decides}
use Rattle.hg_types.proofs.words.are_same.Goals as goal
use Rattle.hg_types.proofs.words.are_same.Goals.{in-Some-split_first_chunk-2+in-Some-split_first_chunk-3+else-from_le_bytes-2, in_default}

pub loop-x-preserved : goal.loop-x-preserved
loop-x-preserved c =
    let left = c.loop-x.left.now in
    let right = c.loop-x.right.now in
    let left_cut = c.in-Some.ensures.cases in
    let right_cut = c.in-Some-split_first_chunk.ensures.cases in
    let long : 8 ≤ length left = omega (arith, left_cut.2) in
    let right_long : 8 ≤ length right = omega (arith, right_cut.2) in
    let alike = eight_alike left right c.in-Some.x.now c.in-Some-split_first_chunk.y.now c.from_le_bytes.result
    c.from_le_bytes-in-loop-x.result
    (record { fits = c.loop-x.invariant.left_bytes; cut = (left_cut.0, long); is = c.from_le_bytes.ensures })
    (record {
      fits = c.loop-x.invariant.right_bytes;
      cut = (right_cut.0, right_long);
      is = c.from_le_bytes-in-loop-x.ensures;
    }) c.if-from_le_bytes.false in
    let behind = same_behind 8 left right c.in-Some.x.now c.in-Some.xs.now c.in-Some-split_first_chunk.y.now
    c.in-Some-split_first_chunk.ys.now left_cut.0 left_cut.1 right_cut.0 right_cut.1 alike in
    record {
      same = (
        λ rest. c.loop-x.invariant.same.0 (behind.0 rest),
        λ whole. behind.1 (c.loop-x.invariant.same.1 whole),
      );
      left_bytes = subst AreBytes (sym left_cut.1) (rest_bytes 8 left c.loop-x.invariant.left_bytes);
      right_bytes = subst AreBytes (sym right_cut.1) (rest_bytes 8 right c.loop-x.invariant.right_bytes);
    }

-- four bytes were alike, or one of the two has fewer
pub returns : goal.returns
returns c =
    let left = c.loop-x.left.now in
    let right = c.loop-x.right.now in
    let rest = c.match-split_first_chunk-3 in
    let behind : (rest.left.now ≡ rest.right.now) ↔ (left ≡ right) = elim rest.branch [
      | in-Some-split_first_chunk-2+in-Some-split_first_chunk-3+else-from_le_bytes-2 w ↦
          let left_cut = w.in-Some-split_first_chunk-2.ensures.cases in
          let right_cut = w.in-Some-split_first_chunk-3.ensures.cases in
          let long : 4 ≤ length left = omega (arith, left_cut.2) in
          let right_long : 4 ≤ length right = omega (arith, right_cut.2) in
          let alike = four_alike left right w.in-Some-split_first_chunk-2.x.now w.in-Some-split_first_chunk-3.y.now
          w.from_le_bytes-2.result w.from_le_bytes-3.result
          (record { fits = c.loop-x.invariant.left_bytes; cut = (left_cut.0, long); is = w.from_le_bytes-2.ensures })
          (record {
            fits = c.loop-x.invariant.right_bytes;
            cut = (right_cut.0, right_long);
            is = w.from_le_bytes-3.ensures;
          }) w.if-from_le_bytes-2.false in
          same_behind 4 left right w.in-Some-split_first_chunk-2.x.now rest.left.now
          w.in-Some-split_first_chunk-3.y.now rest.right.now left_cut.0
          ((λ i. (w.left-is i).now) ∙ left_cut.1) right_cut.0 ((λ i. (w.right-is i).now) ∙ right_cut.1) alike
      | in_default w ↦ (
        λ same. (λ i. (sym w.left-is i).now) ∙ (same ∙ (λ i. (w.right-is i).now)),
        λ same. (λ i. (w.left-is i).now) ∙ (same ∙ (λ i. (sym w.right-is i).now)),
      )
    ] in
    left_decides c.eq.result rest.left.now rest.right.now c.args.bytes.now c.args.others.now c.eq.ensures (
      λ same. c.loop-x.invariant.same.0 (behind.0 same),
      λ whole. behind.1 (c.loop-x.invariant.same.1 whole),
    )
