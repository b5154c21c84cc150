use Rattle.std.proofs.Common.{◌∙◌, ap, sym, arith, List, ℕ, ◌++◌}
use Rattle.std.proofs.Common.{length, take, drop}
use Rattle.sha1.specs.Sha1.{sha1}
use Rattle.hg_store_tools.proofs.Indexes.{body_is, differs, length-marks, magic_is, size_is, told_is}
use Rattle.hg_store_tools.proofs.index.body_of.Goals as goal

pub returns-then-bytes-clause-none : goal.returns-then-bytes-clause-none
returns-then-bytes-clause-none c none marks each is =
    omega (arith, c.if-bytes.true, size_is c.args.first.now c.args.bytes.now marks is)

pub returns-then-not-is_same-clause-none : goal.returns-then-not-is_same-clause-none
returns-then-not-is_same-clause-none c none marks each is =
    differs c.is_same.result _ c.is_same.ensures c.if-not-is_same.true
    (c.split_at.ensures.back ∙ told_is c.args.first.now c.args.bytes.now marks is
    ∙ ap (λ (l : List ℕ). sha1 (c.args.first.now ++ l)) (sym c.split_at.ensures.front) ∙ sym c.own_digest.ensures)

pub returns-then-not-is_same-2-clause-none : goal.returns-then-not-is_same-2-clause-none
returns-then-not-is_same-2-clause-none c none marks each is =
    differs c.is_same-2.result _ c.is_same-2.ensures c.if-not-is_same-2.true
    (c.split_at-2.ensures.front ∙ ap (take 8) c.split_at.ensures.front
    ∙ magic_is c.args.first.now c.args.bytes.now marks is)

pub returns-then-body-ne0-clause-none : goal.returns-then-body-ne0-clause-none
returns-then-body-ne0-clause-none c none marks each is =
    let body = c.split_at-2.ensures.back ∙ ap (drop 8) c.split_at.ensures.front
    ∙ body_is c.args.first.now c.args.bytes.now marks is in
    omega (arith, c.if-body-ne0.true, ap length body, length-marks marks each)
