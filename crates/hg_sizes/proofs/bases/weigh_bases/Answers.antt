use Rattle.std.proofs.Common.{◌≤◌, ◌<◌, ℕ, sym, subst, arith}
use Rattle.hg_sizes.specs.Bases.{base_text, most_unknown, no_texts, unknown_behind}
use Rattle.hg_sizes.specs.code.Maps.{texts_of}
use Rattle.hg_sizes.proofs.Known.{counts_first, few_enough, none_left, one_at_most, too_many}
use Rattle.hg_sizes.proofs.bases.weigh_bases.Goals as goal

pub overflow_add-unknown : goal.overflow_add-unknown
overflow_add-unknown g c =
    let one : c.in_ok-unknown.field-0 ≤ 1 = subst (λ (n : ℕ). n ≤ 1) (sym c.in_ok-unknown.ensures.unknown)
    (one_at_most (base_text c.args.log.now.rows (texts_of c.entries.texts) c.in-Some.entry.now.base)) in
    omega (arith, one, c.entries.invariant.few)

pub entries-preserved : goal.entries-preserved
entries-preserved g c =
    let counted = counts_first c.args.most c.args.log.now.rows (texts_of c.entries.texts) c.entries.left.now
    c.in-Some.others.now c.in-Some.entry.now (texts_of c.add_entry.new.texts) c.in_ok-unknown.field-0
    c.in-Some.ensures.cases.0 c.in_ok-unknown.ensures.unknown c.in_ok-unknown.ensures.texts in
    record {
      all = omega (arith, c.entries.invariant.all, counted);
      few = c.if-unknown-gt-MOST_UNKNOWN.false;
    }

pub returns-then-unknown-gt-MOST_UNKNOWN : goal.returns-then-unknown-gt-MOST_UNKNOWN
returns-then-unknown-gt-MOST_UNKNOWN g c =
    let counted = counts_first c.args.most c.args.log.now.rows (texts_of c.entries.texts) c.entries.left.now
    c.in-Some.others.now c.in-Some.entry.now (texts_of c.add_entry.new.texts) c.in_ok-unknown.field-0
    c.in-Some.ensures.cases.0 c.in_ok-unknown.ensures.unknown c.in_ok-unknown.ensures.texts in
    let many : most_unknown < unknown_behind c.args.most c.args.log.now.rows no_texts c.args.entries.now =
    omega (arith, c.entries.invariant.all, counted, c.if-unknown-gt-MOST_UNKNOWN.true) in
    too_many (unknown_behind c.args.most c.args.log.now.rows no_texts c.args.entries.now) many

pub returns : goal.returns
returns g c =
    let none = none_left c.args.most c.args.log.now.rows (texts_of c.entries.texts) c.entries.left.now
    c.in_default.ensures.cases in
    let few : unknown_behind c.args.most c.args.log.now.rows no_texts c.args.entries.now ≤ most_unknown =
    omega (arith, c.entries.invariant.all, c.entries.invariant.few, none) in
    few_enough (unknown_behind c.args.most c.args.log.now.rows no_texts c.args.entries.now) few
