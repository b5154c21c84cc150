use Rattle.std.proofs.Common.{◌≡◌, ◌∙◌, Err, List, ap, inl, refl, subst, sym}
use Rattle.std.proofs.lemmas.Result.{err_from_is_err_and}
use Rattle.hg_store.specs.Calls.{Event, bytes_in}
use Rattle.hg_store.specs.Openings.{IsUnopened}
use Rattle.hg_store.specs.declared.start.StoreFault.{StoreFault}
use Rattle.hg_recovery.specs.Opening.{setup_for}
use Rattle.hg_recovery.specs.declared.opening.OpeningFault.TheVariants.{Restore, Store}
use Rattle.hg_recovery.proofs.Following.{followed_still, looks_held, taken}
use Rattle.hg_recovery.proofs.Stops.{store_is}
use Rattle.hg_recovery.proofs.standby.Standby.take_over.Goals as goal

pub still_stands-requires : goal.still_stands-requires
still_stands-requires g c = (setup_for c.args.self.publishing, c.requires.followed.read)

pub returns-in-Err-clause-unopened : goal.returns-in-Err-clause-unopened
returns-in-Err-clause-unopened g c = λ fault is.
    let now : List Event = c.still_stands.new.self.calls.history.events in
    let told : c.from.result ≡ fault = store_is c.from.result fault is in (
      c.still_stands.new.self.calls,
      now,
      looks_held c.args.self.opening.calls.history.events now now c.requires.held refl c.still_stands.ensures.looks,
      subst (λ (f : StoreFault). IsUnopened f (setup_for c.args.self.publishing)
          (bytes_in c.still_stands.new.self.calls.pieces.events) now now) (sym c.from.ensures ∙ told) (inl refl),
      inl refl,
    )

pub open_followed-requires : goal.open_followed-requires
open_followed-requires g c =
    followed_still (λ f. bytes_in f.pieces.events) c.args.self.publishing c.args.self.opening c.still_stands.new.self
    c.args.self.repo c.requires.followed
    (c.in-Ok-true.ensures.read (setup_for c.args.self.publishing) c.requires.followed.read)
    (ap (λ r. r.entries) c.still_stands.ensures.records.0)

pub returns-in_err-open_followed-clause-stops : goal.returns-in_err-open_followed-clause-stops
returns-in_err-open_followed-clause-stops g c = λ fault is.
    let p = err_from_is_err_and c.from_residual.result c.from_residual.ensures.1 in
    let same : c.in_err-open_followed.field-0.0 ≡ Restore fault = cc in
    let why = c.in_err-open_followed.ensures.stops fault (ap Err same) in (
      why.0,
      looks_held c.args.self.opening.calls.history.events c.still_stands.new.self.calls.history.events
          why.0.history.events c.requires.held why.1 c.still_stands.ensures.looks,
      why.2,
      why.3,
    )

pub returns-in_err-open_followed-clause-unopened : goal.returns-in_err-open_followed-clause-unopened
returns-in_err-open_followed-clause-unopened g c = λ fault is.
    let p = err_from_is_err_and c.from_residual.result c.from_residual.ensures.1 in
    let same : c.in_err-open_followed.field-0.0 ≡ Store fault = cc in
    let why = c.in_err-open_followed.ensures.unopened fault (ap Err same) in
    let now : List Event = c.still_stands.new.self.calls.history.events in (
      why.0,
      now,
      looks_held c.args.self.opening.calls.history.events now now c.requires.held refl c.still_stands.ensures.looks,
      why.1,
      why.2,
    )

pub returns-clause-found : goal.returns-clause-found
returns-clause-found g c =
    let recovered = c.in_ok-open_followed.field-0 in
    taken c.args.self.publishing c.args.self.opening.identity c.still_stands.new.self.identity recovered.identity
    c.args.self.opening.records.entries c.still_stands.new.self.records.entries recovered.records.entries
    c.args.self.opening.calls.history.events c.still_stands.new.self.calls.history.events
    recovered.log.device.calls.history.events c.open_followed.new.folder c.requires.held
    c.still_stands.ensures.records.1 c.in_ok-open_followed.ensures.name
    (ap (λ r. r.entries) c.still_stands.ensures.records.0)
    (c.in-Ok-true.ensures.still (setup_for c.args.self.publishing) c.requires.followed.read c.in-Ok-true.field-0-test)
    c.in_ok-open_followed.ensures.found
