use Rattle.std.proofs.Common.{◌≡◌, ◌≤◌, ◌<◌, ◌-◌, ℕ, suc, arith, length, min, subst, sym}
use Rattle.hg_status.specs.Heads.{first_of, near_heads}
use Rattle.hg_status.proofs.HeadsShown.{AreRead, all_read, count_enough, none_left, none_read, one_read}
use Rattle.hg_status.proofs.holdings.read_heads.Goals as goal

pub loop-rev-init : goal.loop-rev-init
loop-rev-init g c =
    let rows = c.args.log.now.rows in
    let phases = c.args.phases.now.current.phases in
    subst (λ (n : ℕ). AreRead rows phases n c.new-heads.result.items) (sym c.len-rev.ensures.len)
    (none_read rows phases c.new-heads.result.items c.new-heads.ensures.items)

pub loop-rev-preserved : goal.loop-rev-preserved
loop-rev-preserved g c =
    let rows = c.args.log.now.rows in
    let phases = c.args.phases.now.current.phases in
    let rev = c.loop-rev.rev - 1 in
    let heads = c.loop-rev.heads.items in
    let next : c.loop-rev.rev ≡ suc rev = omega (arith, c.loop-rev-test.true) in
    let past : first_of rows ≤ rev = omega (arith, c.loop-rev-test.true, c.saturating_sub-first.ensures, c.len.ensures.len) in
    let room : length heads < 100 = omega (arith, c.if-len-wanted.false, c.min-wanted.ensures) in
    one_read rows phases rev heads c.add_head.new.heads.items past
    (subst (λ (n : ℕ). AreRead rows phases n heads) next c.loop-rev.invariant) room c.in_ok-add_head.ensures

pub returns-then-len-wanted : goal.returns-then-len-wanted
returns-then-len-wanted g c =
    let rows = c.args.log.now.rows in
    let heads = c.loop-rev.heads.items in
    let enough : min (length (near_heads rows)) 100 ≤ length heads =
    omega (arith, c.if-len-wanted.true, c.min-wanted.ensures, c.head_count.ensures.count, count_enough rows) in
    all_read rows c.args.phases.now.current.phases c.loop-rev.rev heads c.loop-rev.invariant enough

pub returns : goal.returns
returns g c =
    let rows = c.args.log.now.rows in
    let phases = c.args.phases.now.current.phases in
    let heads = c.loop-rev.heads.items in
    let past : c.loop-rev.rev ≤ first_of rows =
    omega (arith, c.loop-rev-test.false, c.saturating_sub-first.ensures, c.len.ensures.len) in
    let enough : min (length (near_heads rows)) 100 ≤ length heads =
    omega (arith, none_left rows phases c.loop-rev.rev heads past c.loop-rev.invariant) in
    all_read rows phases c.loop-rev.rev heads c.loop-rev.invariant enough
