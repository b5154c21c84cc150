use Rattle.std.proofs.Common.{◌≡◌, ℕ, length, arith, subst}
use Rattle.hg_log.specs.Parents.{parents_of}
use Rattle.hg_log.proofs.CallerLemmas.{ordered}
use Rattle.hg_phases.specs.Standing.{phases_told}
use Rattle.hg_phases.specs.code.Tape.{rows_of}
use Rattle.hg_phases.specs.code.Walk.{AreRestood, IsTouched}
use Rattle.hg_phases.proofs.Restood.{stands_again}
use Rattle.hg_phases.proofs.Undoing.{rows_length}
use Rattle.hg_phases.proofs.walk.Advance.change_rows.Goals as goal

pub returns-clause-standing : goal.returns-clause-standing
returns-clause-standing g c =
    let log = c.args.self.now.log.now.rows in
    let parents = parents_of log in
    let now = c.lower_all.new.rows in
    let next = c.restand_all.new.rows in
    let changes = c.lower_all.new.changes.items in
    let lowered = c.in_ok-lower_all.ensures.ok in
    let held = c.lower_all.new.changes.ok in
    let all : c.len-lowered.result ≡ length (rows_of changes) =
    omega (arith, c.len-lowered.ensures, rows_length changes) in
    let target = c.args.self.now.target in
    let are = subst (λ (n : ℕ). AreRestood parents
    (λ r. IsTouched parents target (phases_told now) (rows_of changes) n r) now next)
    all c.in_ok-restand_all.ensures.ok in
    stands_again parents (ordered log c.len-lawful.ensures.lawful) target c.args.rows.now now next
    (rows_of changes) c.requires.lawful c.requires.standing lowered.as_long lowered.above lowered.each are
