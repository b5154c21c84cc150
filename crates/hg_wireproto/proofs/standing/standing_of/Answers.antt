use Rattle.std.proofs.Common.{◌≡◌, ◌∙◌, ◌+◌, ◌++◌, ◌∷◌, [], Bool, List, ap, arith, false, length, refl, subst, sym, true}
use Rattle.std.proofs.Common.{get_or}
use Rattle.std.proofs.lemmas.Bool.{both_ways}
use Rattle.std.proofs.lemmas.List.{length_push}
use Rattle.hg_wireproto.specs.declared.standing.Line.{Line}
use Rattle.hg_wireproto.specs.declared.standing.Standing.{Standing}
use Rattle.hg_wireproto.specs.code.Standing.{IsStanding}
use Rattle.hg_wireproto.proofs.Standings.{first_line, kept_so, lines_more, looked_covered, looked_head, looked_here}
use Rattle.hg_wireproto.proofs.Standings.{looked_kept, looked_past, Looked}
use Rattle.hg_wireproto.proofs.standing.standing_of.Goals as goal
use Rattle.hg_wireproto.proofs.standing.standing_of.Goals.{then-line+then-is_kept+else-line-2, else-line}
use Rattle.hg_wireproto.proofs.standing.standing_of.Goals.{else-line-via-then-line+else-is_kept}
use Rattle.hg_wireproto.proofs.standing.standing_of.Goals.{else-line-via-else-line, then-shown, else-shown}

pub loop-next-init : goal.loop-next-init
loop-next-init g c =
    let rows = c.args.copied.now.rows in
    let markers = c.args.copied.now.markers in
    let phases = c.args.copied.now.phases in
    let rev = c.args.rev in
    let kept = c.kept-kept.result.now in
    let here : Line = record { below = true; behind = false } in
    let is : c.push.new.self.items ≡ here ∷ [] =
    c.in_ok-push.ensures.items ∙ ap (λ (l : List Line). l ++ here ∷ []) c.in_ok-lines.ensures.items in
    let first = first_line rows c.len.ensures.lawful rev c.push.new.self.items here is refl refl in
    let said = kept_so rows markers phases rev (get_or kept rev 0) c.is_kept-shown.result
    (c.kept-kept.ensures.each rev (omega (arith, c.requires.within, c.requires.count))) c.is_kept-shown.ensures in
    record {
      after = omega arith;
      within = omega (arith, c.requires.within);
      as_long = first.0;
      are = first.1;
      looked = looked_here rows markers phases c.len.ensures.lawful rev c.is_kept-shown.result said.0 said.1;
    }

pub returns-then-line-2 : goal.returns-then-line-2
returns-then-line-2 g c =
    let rows = c.args.copied.now.rows in
    let markers = c.args.copied.now.markers in
    let phases = c.args.copied.now.phases in
    let next = c.loop-next.next in
    let kept = c.kept-kept.result.now in
    let said = kept_so rows markers phases next (get_or kept next 0) c.is_kept.result
    (c.kept-kept.ensures.each next (omega (arith, c.loop-next-test.true, c.requires.count))) c.is_kept.ensures in
    looked_covered rows markers phases c.len.ensures.lawful c.args.rev c.args.count next
    (omega (arith, c.loop-next-test.true)) (c.line_of-line.ensures.behind.0 c.if-line-2.true) (said.0 c.if-is_kept.true)

pub loop-next-preserved : goal.loop-next-preserved
loop-next-preserved g c =
    let rows = c.args.copied.now.rows in
    let markers = c.args.copied.now.markers in
    let phases = c.args.copied.now.phases in
    let lawful = c.len.ensures.lawful in
    let rev = c.args.rev in
    let next = c.loop-next.next in
    let kept = c.kept-kept.result.now in
    let lines = c.loop-next.lines.items in
    let line = c.line_of-line.result in
    let held = c.loop-next.invariant in
    let pushed = c.in_ok-push-2.ensures.items in
    let tells = c.kept-kept.ensures.each next (omega (arith, c.loop-next-test.true, c.requires.count)) in
    let Found : Bool → Type 0 = λ b. Looked rows markers phases rev (next + 1) b in
    record {
      after = omega (arith, held.after);
      within = omega (arith, c.loop-next-test.true);
      as_long = omega (arith, ap length pushed, length_push lines line, held.as_long);
      are = lines_more rows lawful rev lines c.push-in-loop-next.new.self.items line next held.as_long pushed held.are
          c.line_of-line.ensures;
      looked = elim c.if-line.branch [
        | then-line+then-is_kept+else-line-2 w ↦
            let said = kept_so rows markers phases next (get_or kept next 0) w.is_kept.result tells w.is_kept.ensures in
            subst Found (sym w.shown-is)
            (looked_kept rows markers phases lawful rev next c.loop-next.shown
            (c.line_of-line.ensures.below.0 w.if-line.true) (said.0 w.if-is_kept.true)
            (λ is. both_ways _ w.if-line-2.false (c.line_of-line.ensures.behind.1 is)) held.looked)
        | else-line w ↦
            subst Found (sym w.shown-is) (looked_past rows markers phases lawful rev next c.loop-next.shown
            (λ leads. elim w.else-line.branch [
              | else-line-via-then-line+else-is_kept v ↦
                  (kept_so rows markers phases next (get_or kept next 0) v.is_kept.result tells v.is_kept.ensures).1
                  v.if-is_kept.false
              | else-line-via-else-line v ↦
                  absurd (both_ways _ v.if-line.false (c.line_of-line.ensures.below.1 leads))
            ]) held.looked)
      ];
    }

pub returns : goal.returns
returns g c =
    let rows = c.args.copied.now.rows in
    let markers = c.args.copied.now.markers in
    let phases = c.args.copied.now.phases in
    let rev = c.args.rev in
    let last : c.loop-next.next ≡ c.args.count = omega (arith, c.loop-next-test.false, c.loop-next.invariant.within) in
    let held = subst (λ n. Looked rows markers phases rev n c.loop-next.shown) last c.loop-next.invariant.looked in
    let Stands : Standing → Type 0 = λ s. IsStanding rows markers phases c.args.count rev s in
    elim c.if-shown.branch [
      | then-shown w ↦ subst Stands (sym w.result-is)
          (looked_head rows markers phases c.len.ensures.lawful rev c.args.count c.loop-next.shown w.if-shown.true held)
      | else-shown w ↦ subst Stands (sym w.result-is) (held.none w.if-shown.false)
    ]
