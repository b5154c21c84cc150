use Rattle.std.proofs.Common.{◌≡◌, ◌↔◌, ◌⊎◌, ◌∙◌, Option, subst, sym, true, ℕ}
use Rattle.std.proofs.lemmas.Bool.{both_ways}
use Rattle.std.proofs.lemmas.Slice.Eq.{bytes_eq-Decides}
use Rattle.hg_wireproto.specs.code.Standing.{IsLineAt}
use Rattle.hg_wireproto.proofs.Standings.{either_said, first_said, line_next, other_said, second_said}
use Rattle.hg_wireproto.proofs.standing.line_of.Goals as goal
use Rattle.hg_wireproto.proofs.standing.line_of.Goals.{then-one, else-one, then-one-2, else-one-2}

pub returns-then-two : goal.returns-then-two
returns-then-two g c =
    let one = c.line_at-one.result in
    let two = c.line_at-two.result in
    let below : (c.if-one.below ≡ true) ↔ ((one.below ≡ true) ⊎ (two.below ≡ true)) =
    elim c.if-one.branch [
      | then-one w ↦ first_said c.if-one.below one.below two.below w.if-one.true w.below-is
      | else-one w ↦ second_said c.if-one.below one.below two.below w.if-one.false w.below-is
    ] in
    let value : (c.if-one-2.value ≡ true) ↔ ((one.behind ≡ true) ⊎ (two.behind ≡ true)) =
    elim c.if-one-2.branch [
      | then-one-2 w ↦ first_said c.if-one-2.value one.behind two.behind w.if-one-2.true w.value-is
      | else-one-2 w ↦ second_said c.if-one-2.value one.behind two.behind w.if-one-2.false w.value-is
    ] in
    line_next c.args.copied.now.rows c.len.ensures.lawful c.args.rev c.args.lines.now c.args.next one two _
    c.requires.own c.requires.long c.requires.lines
    (subst (λ (p : Option ℕ). IsLineAt c.args.lines.now c.args.rev p one) c.parent_revs-p1.ensures.first
    c.line_at-one.ensures)
    (subst (λ (p : Option ℕ). IsLineAt c.args.lines.now c.args.rev p two) c.parent_revs-p1.ensures.second
    c.line_at-two.ensures) below
    (either_said c.if-one-2.value one.behind two.behind _ value c.if-two.true)

pub returns-then-below : goal.returns-then-below
returns-then-below g c =
    let one = c.line_at-one.result in
    let two = c.line_at-two.result in
    let below : (c.if-one.below ≡ true) ↔ ((one.below ≡ true) ⊎ (two.below ≡ true)) =
    elim c.if-one.branch [
      | then-one w ↦ first_said c.if-one.below one.below two.below w.if-one.true w.below-is
      | else-one w ↦ second_said c.if-one.below one.below two.below w.if-one.false w.below-is
    ] in
    let value : (c.if-one-2.value ≡ true) ↔ ((one.behind ≡ true) ⊎ (two.behind ≡ true)) =
    elim c.if-one-2.branch [
      | then-one-2 w ↦ first_said c.if-one-2.value one.behind two.behind w.if-one-2.true w.value-is
      | else-one-2 w ↦ second_said c.if-one-2.value one.behind two.behind w.if-one-2.false w.value-is
    ] in
    let decides = bytes_eq-Decides c.branch-copied.result.now c.branch-copied-then-below.result.now in
    line_next c.args.copied.now.rows c.len.ensures.lawful c.args.rev c.args.lines.now c.args.next one two _
    c.requires.own c.requires.long c.requires.lines
    (subst (λ (p : Option ℕ). IsLineAt c.args.lines.now c.args.rev p one) c.parent_revs-p1.ensures.first
    c.line_at-one.ensures)
    (subst (λ (p : Option ℕ). IsLineAt c.args.lines.now c.args.rev p two) c.parent_revs-p1.ensures.second
    c.line_at-two.ensures) below
    (other_said c.if-one-2.value c.is_same.result one.behind two.behind _ value c.if-two.false (
      λ so. (
        c.if-below.true,
        sym c.branch-copied.ensures ∙ decides.0 (sym c.is_same.ensures ∙ so) ∙ c.branch-copied-then-below.ensures,
      ),
      λ own. c.is_same.ensures
          ∙ decides.1 (c.branch-copied.ensures ∙ own.1 ∙ sym c.branch-copied-then-below.ensures),
    ))

pub returns-else-below : goal.returns-else-below
returns-else-below g c =
    let one = c.line_at-one.result in
    let two = c.line_at-two.result in
    let below : (c.if-one.below ≡ true) ↔ ((one.below ≡ true) ⊎ (two.below ≡ true)) =
    elim c.if-one.branch [
      | then-one w ↦ first_said c.if-one.below one.below two.below w.if-one.true w.below-is
      | else-one w ↦ second_said c.if-one.below one.below two.below w.if-one.false w.below-is
    ] in
    let value : (c.if-one-2.value ≡ true) ↔ ((one.behind ≡ true) ⊎ (two.behind ≡ true)) =
    elim c.if-one-2.branch [
      | then-one-2 w ↦ first_said c.if-one-2.value one.behind two.behind w.if-one-2.true w.value-is
      | else-one-2 w ↦ second_said c.if-one-2.value one.behind two.behind w.if-one-2.false w.value-is
    ] in
    line_next c.args.copied.now.rows c.len.ensures.lawful c.args.rev c.args.lines.now c.args.next one two _
    c.requires.own c.requires.long c.requires.lines
    (subst (λ (p : Option ℕ). IsLineAt c.args.lines.now c.args.rev p one) c.parent_revs-p1.ensures.first
    c.line_at-one.ensures)
    (subst (λ (p : Option ℕ). IsLineAt c.args.lines.now c.args.rev p two) c.parent_revs-p1.ensures.second
    c.line_at-two.ensures) below
    (other_said c.if-one-2.value c.if-one.below one.behind two.behind _ value c.if-two.false (
      λ so. absurd (both_ways _ c.if-below.false so),
      λ own. own.0,
    ))
