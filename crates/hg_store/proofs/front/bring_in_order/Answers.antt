use Rattle.std.proofs.Common.{◌≡◌, ◌∙◌, ◌∷◌, ℕ, List, ap, refl, subst, sym}
use Rattle.hg_store.specs.Again.{IsStill}
use Rattle.hg_store.specs.Calls.{Continue, Event, MayLeave, began, state_of}
use Rattle.hg_store.specs.Entries.{Entry}
use Rattle.hg_store.specs.Files.{StandsFor, digest_behind}
use Rattle.hg_store.specs.Openings.{IsUnopened}
use Rattle.hg_store.specs.declared.head.Head.{Head}
use Rattle.hg_store.specs.declared.opening.RecoverFault.TheVariants.{Device}
use Rattle.hg_store.specs.declared.start.StoreFault.TheVariants.{Recover}
use Rattle.hg_store.proofs.Again.{after_still, all_more}
use Rattle.hg_store.proofs.Brought.{ends_for, ends_here, settled_is}
use Rattle.hg_store.proofs.Opens.{failed_is, found_is, only_first}
use Rattle.hg_store.proofs.front.bring_in_order.Goals as goal

pub returns-in-Err-clause-err : goal.returns-in-Err-clause-err
returns-in-Err-clause-err g c = λ head records whole setup any.
    let before : List Event = g.C.Calls.history c.args.calls in
    let bytes : List ℕ = g.C.Calls.drawn c.args.calls in
    let at_first : List Event = g.C.Calls.history c.of-device.result.calls in
    let mid : List Event = g.C.Calls.history c.shut_gate.new.device.calls in
    let read : at_first ≡ began bytes ∷ before = ap g.C.Calls.history c.of-device.ensures ∙ c.note_read.ensures in
    let why = failed_is bytes before at_first read setup any mid c.shut_gate.ensures.same_file
    (λ its others stands. (c.shut_gate.ensures.any_moment its others
    (ends_for bytes before at_first read head records c.args.end c.args.gates.now whole its others stands)
    (only_first bytes before at_first read)).each) c.in-Err.error in
    subst (λ fault. IsUnopened fault setup any before (g.C.Calls.history c.left_over.result.calls))
    (sym (c.left_over.ensures.0 ∙ c.from.ensures))
    (subst (IsUnopened (Recover (Device c.in-Err.error)) setup any before)
    (sym (ap g.C.Calls.history (c.left_over.ensures.1 ∙ c.into_calls.ensures))) why)

pub returns-in-Err-open_again-clause-err : goal.returns-in-Err-open_again-clause-err
returns-in-Err-open_again-clause-err g c = λ head records whole setup any.
    let before : List Event = g.C.Calls.history c.args.calls in
    let bytes : List ℕ = g.C.Calls.drawn c.args.calls in
    let at_first : List Event = g.C.Calls.history c.of-device.result.calls in
    let mid : List Event = g.C.Calls.history c.shut_gate.new.device.calls in
    let read : at_first ≡ began bytes ∷ before = ap g.C.Calls.history c.of-device.ensures ∙ c.note_read.ensures in
    let now : List Event = g.C.Calls.history c.open_again.new.device.calls in
    let here = ends_here bytes before at_first read head records c.args.end c.args.gates.now whole in
    let settled = settled_is bytes before at_first read head records c.args.end c.args.gates.now whole
    (λ f. (state_of (g.C.Calls.history f.calls)).seen) (λ f. MayLeave (state_of (g.C.Calls.history f.calls)))
    c.shut_gate.new.device (c.in_default.ensures.at_rest head records here) c.in_default.ensures.durable in
    let still : IsStill mid now =
    c.open_again.ensures.still head records c.args.end (digest_behind head records) settled whole.kept in
    let why = failed_is bytes before at_first read setup any now
    (all_more at_first mid now still c.shut_gate.ensures.same_file)
    (λ its others stands. after_still at_first mid now still c.shut_gate.ensures.same_file (StandsFor its others)
    (c.shut_gate.ensures.any_moment its others
    (ends_for bytes before at_first read head records c.args.end c.args.gates.now whole its others stands)
    (only_first bytes before at_first read)).each) c.in-Err-open_again.error in
    subst (λ fault. IsUnopened fault setup any before (g.C.Calls.history c.left_over-in-Err-open_again.result.calls))
    (sym (c.left_over-in-Err-open_again.ensures.0 ∙ c.from-in-Err-open_again.ensures))
    (subst (IsUnopened (Recover (Device c.in-Err-open_again.error)) setup any before)
    (sym (ap g.C.Calls.history (c.left_over-in-Err-open_again.ensures.1 ∙ c.into_calls-in-Err-open_again.ensures)))
    why)

pub returns-in-Err-open_again-clause-more : goal.returns-in-Err-open_again-clause-more
returns-in-Err-open_again-clause-more g c = λ head records whole.
    let before : List Event = g.C.Calls.history c.args.calls in
    let bytes : List ℕ = g.C.Calls.drawn c.args.calls in
    let at_first : List Event = g.C.Calls.history c.of-device.result.calls in
    let mid : List Event = g.C.Calls.history c.shut_gate.new.device.calls in
    let read : at_first ≡ began bytes ∷ before = ap g.C.Calls.history c.of-device.ensures ∙ c.note_read.ensures in
    let now : List Event = g.C.Calls.history c.open_again.new.device.calls in
    let here = ends_here bytes before at_first read head records c.args.end c.args.gates.now whole in
    let settled = settled_is bytes before at_first read head records c.args.end c.args.gates.now whole
    (λ f. (state_of (g.C.Calls.history f.calls)).seen) (λ f. MayLeave (state_of (g.C.Calls.history f.calls)))
    c.shut_gate.new.device (c.in_default.ensures.at_rest head records here) c.in_default.ensures.durable in
    let still : IsStill mid now =
    c.open_again.ensures.still head records c.args.end (digest_behind head records) settled whole.kept in
    subst (Continue (began bytes ∷ before))
    (sym (ap g.C.Calls.history (c.left_over-in-Err-open_again.ensures.1 ∙ c.into_calls-in-Err-open_again.ensures)))
    (subst (λ (first : List Event). Continue first now) read
    (all_more at_first mid now still c.shut_gate.ensures.same_file))

pub returns-clause-settled : goal.returns-clause-settled
returns-clause-settled g c = λ head records whole.
    let before : List Event = g.C.Calls.history c.args.calls in
    let bytes : List ℕ = g.C.Calls.drawn c.args.calls in
    let at_first : List Event = g.C.Calls.history c.of-device.result.calls in
    let mid : List Event = g.C.Calls.history c.shut_gate.new.device.calls in
    let read : at_first ≡ began bytes ∷ before = ap g.C.Calls.history c.of-device.ensures ∙ c.note_read.ensures in
    let now : List Event = g.C.Calls.history c.open_again.new.device.calls in
    let here = ends_here bytes before at_first read head records c.args.end c.args.gates.now whole in
    let settled = settled_is bytes before at_first read head records c.args.end c.args.gates.now whole
    (λ f. (state_of (g.C.Calls.history f.calls)).seen) (λ f. MayLeave (state_of (g.C.Calls.history f.calls)))
    c.shut_gate.new.device (c.in_default.ensures.at_rest head records here) c.in_default.ensures.durable in
    let still : IsStill mid now =
    c.open_again.ensures.still head records c.args.end (digest_behind head records) settled whole.kept in
    record {
      allowed = settled.allowed;
      version = settled.version;
      each = settled.each;
      file = still.same ∙ settled.file;
      place = settled.place;
      chained = refl;
      durable = λ left may. still.durable left may ∙ sym still.same;
    }

pub returns-clause-found : goal.returns-clause-found
returns-clause-found g c = λ head records whole.
    let before : List Event = g.C.Calls.history c.args.calls in
    let bytes : List ℕ = g.C.Calls.drawn c.args.calls in
    let at_first : List Event = g.C.Calls.history c.of-device.result.calls in
    let mid : List Event = g.C.Calls.history c.shut_gate.new.device.calls in
    let read : at_first ≡ began bytes ∷ before = ap g.C.Calls.history c.of-device.ensures ∙ c.note_read.ensures in
    let now : List Event = g.C.Calls.history c.open_again.new.device.calls in
    let here = ends_here bytes before at_first read head records c.args.end c.args.gates.now whole in
    let settled = settled_is bytes before at_first read head records c.args.end c.args.gates.now whole
    (λ f. (state_of (g.C.Calls.history f.calls)).seen) (λ f. MayLeave (state_of (g.C.Calls.history f.calls)))
    c.shut_gate.new.device (c.in_default.ensures.at_rest head records here) c.in_default.ensures.durable in
    let still : IsStill mid now =
    c.open_again.ensures.still head records c.args.end (digest_behind head records) settled whole.kept in
    found_is bytes before at_first read head records now here.stands
    (all_more at_first mid now still c.shut_gate.ensures.same_file)
    (after_still at_first mid now still c.shut_gate.ensures.same_file (StandsFor head records)
    (c.shut_gate.ensures.any_moment head records here (only_first bytes before at_first read)).each)

pub returns-clause-again : goal.returns-clause-again
returns-clause-again g c = λ head records whole.
    let before : List Event = g.C.Calls.history c.args.calls in
    let bytes : List ℕ = g.C.Calls.drawn c.args.calls in
    let at_first : List Event = g.C.Calls.history c.of-device.result.calls in
    let mid : List Event = g.C.Calls.history c.shut_gate.new.device.calls in
    let read : at_first ≡ began bytes ∷ before = ap g.C.Calls.history c.of-device.ensures ∙ c.note_read.ensures in
    let now : List Event = g.C.Calls.history c.open_again.new.device.calls in
    let here = ends_here bytes before at_first read head records c.args.end c.args.gates.now whole in
    let settled = settled_is bytes before at_first read head records c.args.end c.args.gates.now whole
    (λ f. (state_of (g.C.Calls.history f.calls)).seen) (λ f. MayLeave (state_of (g.C.Calls.history f.calls)))
    c.shut_gate.new.device (c.in_default.ensures.at_rest head records here) c.in_default.ensures.durable in
    let still : IsStill mid now =
    c.open_again.ensures.still head records c.args.end (digest_behind head records) settled whole.kept in
    record {
      bytes = bytes;
      earlier = mid;
      read_first = subst (λ (first : List Event). Continue first mid) read c.shut_gate.ensures.same_file;
      again = c.in_default-open_again.ensures.written head records c.args.end (digest_behind head records) settled
          whole.kept;
    }

pub returns-clause-more : goal.returns-clause-more
returns-clause-more g c = λ head records whole.
    let before : List Event = g.C.Calls.history c.args.calls in
    let bytes : List ℕ = g.C.Calls.drawn c.args.calls in
    let at_first : List Event = g.C.Calls.history c.of-device.result.calls in
    let mid : List Event = g.C.Calls.history c.shut_gate.new.device.calls in
    let read : at_first ≡ began bytes ∷ before = ap g.C.Calls.history c.of-device.ensures ∙ c.note_read.ensures in
    let now : List Event = g.C.Calls.history c.open_again.new.device.calls in
    let here = ends_here bytes before at_first read head records c.args.end c.args.gates.now whole in
    let settled = settled_is bytes before at_first read head records c.args.end c.args.gates.now whole
    (λ f. (state_of (g.C.Calls.history f.calls)).seen) (λ f. MayLeave (state_of (g.C.Calls.history f.calls)))
    c.shut_gate.new.device (c.in_default.ensures.at_rest head records here) c.in_default.ensures.durable in
    let still : IsStill mid now =
    c.open_again.ensures.still head records c.args.end (digest_behind head records) settled whole.kept in
    subst (λ (first : List Event). Continue first now) read
    (all_more at_first mid now still c.shut_gate.ensures.same_file)
