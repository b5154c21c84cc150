use Rattle.std.proofs.Common.{◌≡◌, ◌<◌, length, sym, ap, subst, ◌∙◌, arith, List, eqb-true, [], ◌∷◌, ◌++◌}
use Rattle.std.proofs.Common.{Some, None, ℕ}
use Rattle.std.proofs.lemmas.Bool.{eqb-false}
use Rattle.hg_keys.specs.Payload.{Entry, with_front, entries_of, entry_at}
use Rattle.hg_keys.specs.code.LentEntry.{Finds}
use Rattle.hg_keys.proofs.PayloadLemmas.{goes_on, is_shorter, ends_short, ends_whole, front_joined, no_front}
use Rattle.hg_keys.proofs.PayloadLemmas.{front_alone}
use Rattle.hg_keys.proofs.payload.read_bookmarks.Goals as goal

pub loop-rest-init : goal.loop-rest-init
loop-rest-init g c = ap (λ (es : List Entry). with_front es (entries_of c.args.bytes.now))
    c.new-entries.ensures ∙ no_front (entries_of c.args.bytes.now)

pub returns-in_default : goal.returns-in_default
returns-in_default g c =
    let rest = c.loop-rest.rest.now in
    let some : 0 < length rest = omega (arith, eqb-false _ _ (sym c.loop-rest-test.ensures)) in
    let none : entry_at rest ≡ None = subst (λ r. Finds r (entry_at rest)) c.in_default.is
    c.entry_of.ensures in
    sym c.loop-rest.invariant ∙ ap (with_front c.loop-rest.entries) (ends_short rest some none)

pub loop-rest-smaller : goal.loop-rest-smaller
loop-rest-smaller g c =
    let rest = c.loop-rest.rest.now in
    let lent = c.in-Some.lent in
    is_shorter rest (lent.node, lent.name.now) lent.rest.now
    (subst (λ r. Finds r (entry_at rest)) c.in-Some.is c.entry_of.ensures)

pub loop-rest-preserved : goal.loop-rest-preserved
loop-rest-preserved g c =
    let rest = c.loop-rest.rest.now in
    let entries = c.loop-rest.entries in
    let lent = c.in-Some.lent in
    let some : 0 < length rest = omega (arith, eqb-false _ _ (sym c.loop-rest-test.ensures)) in
    let here : entry_at rest ≡ Some ((lent.node, lent.name.now), lent.rest.now) = subst
    (λ r. Finds r (entry_at rest)) c.in-Some.is c.entry_of.ensures in
    let added = c.in_ok-push.ensures.ok
    ∙ ap (λ (name : List ℕ). entries ++ (lent.node, name) ∷ []) c.in_ok-name.ensures in
    ap (λ (es : List Entry). with_front es (entries_of lent.rest.now)) added
    ∙ sym (front_joined entries (lent.node, lent.name.now) (entries_of lent.rest.now))
    ∙ ap (with_front entries) (sym (goes_on rest (lent.node, lent.name.now) lent.rest.now some here))
    ∙ c.loop-rest.invariant

pub returns : goal.returns
returns g c =
    let none : length c.loop-rest.rest.now ≡ 0 = eqb-true _ _ (sym c.loop-rest-test.ensures) in
    sym c.loop-rest.invariant ∙ ap (with_front c.loop-rest.entries) (ends_whole c.loop-rest.rest.now none)
    ∙ front_alone c.loop-rest.entries
