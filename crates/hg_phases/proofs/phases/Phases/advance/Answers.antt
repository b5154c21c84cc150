use Rattle.std.proofs.Common.{◌≡◌, ◌∙◌, length, sym, ap, subst, arith}
use Rattle.std.proofs.lemmas.List.{length-map}
use Rattle.hg_types.specs.declared.phase.Phase.TheVariants.{Draft, Secret}
use Rattle.hg_log.specs.Parents.{parents_of}
use Rattle.hg_log.proofs.CallerLemmas.{ordered}
use Rattle.hg_phases.specs.Phases.{advanced, AreFor, AreLawful}
use Rattle.hg_phases.specs.Standing.{phase_told, phases_told, told}
use Rattle.hg_phases.proofs.Rising.{advanced_lawful}
use Rattle.hg_phases.proofs.Standings.{standing_told, told_standing}
use Rattle.hg_phases.proofs.phases.Phases.advance.Goals as goal

pub advance_rows-requires-clause-standing : goal.advance_rows-requires-clause-standing
advance_rows-requires-clause-standing g c =
    let was = c.self.inside.index.rows in
    let fits = rw (← c.self.view_is) at c.requires.fits in
    rw c.room-room.ensures.rows (standing_told (parents_of c.args.log.now.rows) was fits.draft fits.secret)

pub returns-clause-fits : goal.returns-clause-fits
returns-clause-fits g c =
    let log = c.args.log.now.rows in
    let parents = parents_of log in
    let was = c.self.inside.index.rows in
    let mid = c.advance_rows.new.rows in
    let now = c.keep.new.self.rows in
    let same : now ≡ mid = c.in_ok-keep.ensures.ok in
    let fits : AreFor log (record {
      phases = phases_told was;
      draft = told Draft was;
      secret = told Secret was;
    }) = rw (← c.self.view_is) at c.requires.fits in
    let before : c.room-room.new.self.rows ≡ was = c.room-room.ensures.rows in
    let size : length mid ≡ length was =
    c.in_ok-changes.ensures.changes.as_long ∙ ap (λ rows. length rows) before in
    let phases : phases_told mid ≡ advanced parents c.args.target c.args.heads.now (phases_told was) =
    c.in_ok-changes.ensures.phases
    ∙ ap (λ rows. advanced parents c.args.target c.args.heads.now (phases_told rows)) before in
    rw same (record {
      few = omega (arith, fits.few, size, length-map mid phase_told, length-map was phase_told);
      lawful = subst (λ ps. AreLawful parents ps) (sym phases)
          (advanced_lawful parents (ordered log c.len-lawful.ensures.lawful) c.args.target c.args.heads.now
          (phases_told was) fits.lawful);
      draft = told_standing parents mid c.in_ok-changes.ensures.standing Draft;
      secret = told_standing parents mid c.in_ok-changes.ensures.standing Secret;
    })
