use Rattle.std.proofs.Common.{◌≡◌, ℕ, ◌<◌, length, get_or, refl, ap, ◌∙◌, arith}
use Rattle.hg_log.specs.Parents.{parents_of}
use Rattle.hg_log.proofs.CallerLemmas.{ordered}
use Rattle.hg_phases.specs.code.Tape.{rows_of}
use Rattle.hg_phases.proofs.Undoing.{follows_same, follows_on, rows_length, rows_read}
use Rattle.hg_phases.proofs.Lowered.{walked_start, walked_head, walked_row, walked_all, comes_down}
use Rattle.hg_phases.proofs.walk.Advance.lower_all.Goals as goal

pub loop-head-init : goal.loop-head-init
loop-head-init g c = record {
  follows = follows_same c.args.rows.now c.args.changes.now.items;
  walked = walked_start (parents_of c.args.self.now.log.now.rows) c.args.self.now.target c.args.heads.now
      c.args.rows.now (rows_of c.args.changes.now.items) (ap rows_of c.requires.none);
}

pub loop-head-preserved : goal.loop-head-preserved
loop-head-preserved g c = record {
  follows = follows_on _ _ _ _ _ _ c.loop-head.invariant.follows c.in_ok-lower.ensures.follows;
  walked = walked_head (parents_of c.args.self.now.log.now.rows) c.args.self.now.target c.args.heads.now
      c.args.rows.now (ordered c.args.self.now.log.now.rows c.len-lawful.ensures.lawful) c.loop-head.head-index
      (get_or c.args.heads.now c.loop-head.head-index 0) c.loop-head.rows c.lower.new.rows
      (rows_of c.loop-head.changes.items) (rows_of c.lower.new.changes.items) c.in_ok-lower.ensures.ok
      c.loop-head.invariant.walked c.loop-head-test.true refl
      (c.requires.heads c.loop-head.head-index 0 c.loop-head-test.true);
}

pub down-preserved : goal.down-preserved
down-preserved g c =
    let log = c.args.self.now.log.now.rows in
    let parents = parents_of log in
    let changes = c.down.changes.items in
    let listed = rows_of changes in
    let place = c.down.place in
    let held = c.down.changes.ok in
    let low : place < length changes = omega (arith, c.down-test.true, c.len.ensures) in
    let within : place < length listed = omega (arith, low, rows_length changes) in
    let here : c.index.result.now.row ≡ get_or listed place 0 = rows_read changes place c.index.result.now low
    c.index.ensures in
    record {
      follows = follows_on _ _ _ _ _ _ (follows_on _ _ _ _ _ _ c.down.invariant.follows
          c.in_ok-lower-2.ensures.follows) c.in_ok-lower-3.ensures.follows;
      walked = walked_row parents c.args.self.now.target c.args.heads.now c.args.rows.now
          (ordered log c.len-lawful.ensures.lawful) (length c.args.heads.now) place
          c.parent_revs-p1.result.0 c.parent_revs-p1.result.1 c.down.rows
          c.lower-in-down.new.rows c.lower-in-down-2.new.rows listed
          (rows_of c.lower-in-down.new.changes.items) (rows_of c.lower-in-down-2.new.changes.items)
          c.down.invariant.walked within
          (c.parent_revs-p1.ensures.first ∙ ap (λ (r : ℕ). (parents_of log r).0) here)
          (c.parent_revs-p1.ensures.second ∙ ap (λ (r : ℕ). (parents_of log r).1) here)
          c.in_ok-lower-2.ensures.ok c.in_ok-lower-3.ensures.ok;
    }

pub down-smaller : goal.down-smaller
down-smaller g c =
    let held = c.down.changes.ok in
    let one = c.down.changes.items in
    let two = c.lower-in-down.new.changes.items in
    let three = c.lower-in-down-2.new.changes.items in
    let within : c.down.place < length one = omega (arith, c.down-test.true, c.len.ensures) in
    omega (
      arith,
      within,
      rows_length one,
      rows_length two,
      rows_length three,
      comes_down c.args.self.now.target c.parent_revs-p1.result.0 c.down.rows c.lower-in-down.new.rows
          (rows_of one) (rows_of two) c.in_ok-lower-2.ensures.ok,
      comes_down c.args.self.now.target c.parent_revs-p1.result.1 c.lower-in-down.new.rows
          c.lower-in-down-2.new.rows (rows_of two) (rows_of three) c.in_ok-lower-3.ensures.ok,
    )

pub returns-clause-ok : goal.returns-clause-ok
returns-clause-ok g c =
    let held = c.down.changes.ok in
    walked_all (parents_of c.args.self.now.log.now.rows) c.args.self.now.target c.args.heads.now
    c.args.rows.now (ordered c.args.self.now.log.now.rows c.len-lawful.ensures.lawful) c.requires.lawful
    c.down.place c.down.rows (rows_of c.down.changes.items) c.down.invariant.walked
    (omega (arith, c.down-test.false, c.len.ensures, rows_length c.down.changes.items))
    (λ k k_in. c.requires.heads k 0 k_in)

pub returns-in_err-lower-clause-follows : goal.returns-in_err-lower-clause-follows
returns-in_err-lower-clause-follows g c =
    follows_on _ _ _ _ _ _ c.loop-head.invariant.follows c.in_err-lower.ensures.follows

pub returns-in_err-lower-2-clause-follows : goal.returns-in_err-lower-2-clause-follows
returns-in_err-lower-2-clause-follows g c =
    follows_on _ _ _ _ _ _ c.down.invariant.follows c.in_err-lower-2.ensures.follows

pub returns-in_err-lower-3-clause-follows : goal.returns-in_err-lower-3-clause-follows
returns-in_err-lower-3-clause-follows g c =
    follows_on _ _ _ _ _ _ (follows_on _ _ _ _ _ _ c.down.invariant.follows
    c.in_ok-lower-2.ensures.follows) c.in_err-lower-3.ensures.follows
