use Rattle.std.proofs.Common.{◌↔◌, ◌⊎◌, ◌++◌, ◌*◌, ◌<◌, ap, arith, eqb-true, length, map, List, Option, subst, sym, ℕ}
use Rattle.std.specs.Prelude.{Contains}
use Rattle.std.proofs.lemmas.List.Folds.{flat_map-map}
use Rattle.hg_wireproto.specs.code.Branches.{heads_in}
use Rattle.hg_wireproto.specs.code.Search.{HasFirst, IsLastIn}
use Rattle.hg_wireproto.specs.declared.branches.Branch.{Branch}
use Rattle.hg_wireproto.proofs.Apart.{before_more, before_none, first_low, found_heads, none_found}
use Rattle.hg_wireproto.proofs.NumberSets.{empty_none}
use Rattle.hg_wireproto.proofs.search.push_heads.Goals as goal

pub returns-then-is_empty : goal.returns-then-is_empty
returns-then-is_empty g c =
    none_found (λ (b : Branch g.row.A.Denot). heads_in c.args.copied.now.rows b.revs.items) c.args.heads.now.items
    c.args.branches.now (eqb-true (length c.args.branches.now) 0 (sym c.if-is_empty.ensures))

pub windows_of-requires-clause-within : goal.windows_of-requires-clause-within
windows_of-requires-clause-within g c =
    subst (λ (fs : List (Option ℕ)). (r f : ℕ) → HasFirst fs r f → f < length fs) (sym c.as_slice.ensures.value)
    (first_low c.args.copied.now.rows c.in_ok-firsts.firsts.items c.len.ensures.lawful
    (map (λ (b : Branch g.row.A.Denot). b.revs.items) c.args.branches.now) c.requires.apart c.in_ok-firsts.ensures.each)

pub loop-group-init : goal.loop-group-init
loop-group-init g c = (
  empty_none c.new-behind.result.items (ap length c.new-behind.ensures.items),
  before_none c.args.copied.now.rows c.in_ok-firsts.firsts.items c.args.heads.now.items,
)

pub loop-group-preserved : goal.loop-group-preserved
loop-group-preserved g c =
    let rows = c.args.copied.now.rows in
    let group = c.loop-group.group in
    let now = c.loop-group.heads.items in
    let next = c.push_some.new.heads.items in (
      c.in_ok-push_some.ensures.empty,
      before_more rows c.in_ok-firsts.firsts.items group c.args.heads.now.items now next c.loop-group.invariant.1
          (subst (λ (fs : List (Option ℕ)). (r : ℕ) → Contains next r ↔ (Contains now r ⊎ IsLastIn rows fs group r))
          c.as_slice-in-loop-group.ensures.value c.in_ok-push_some.ensures.heads),
    )

pub returns : goal.returns
returns g c r =
    let rows = c.args.copied.now.rows in
    let branches = c.args.branches.now in
    let start = c.args.heads.now.items in
    let list = λ (b : Branch g.row.A.Denot). b.revs.items in
    let firsts = c.in_ok-firsts.firsts.items in
    let enough : length firsts < c.loop-group.group * 512 =
    omega (
      arith,
      c.loop-group-test.false,
      ap length c.as_slice-window-items.ensures.value,
      c.in_ok-windows.ensures.enough,
      ap length c.as_slice.ensures.value,
    ) in
    subst (λ (xs : List ℕ). Contains c.loop-group.heads.items r ↔ Contains (start ++ xs) r)
    (flat_map-map (heads_in rows) list branches)
    (found_heads rows firsts c.len.ensures.lawful (map list branches) c.requires.apart c.in_ok-firsts.ensures.each
    c.loop-group.group start c.loop-group.heads.items enough c.loop-group.invariant.1 r)
