use Rattle.std.proofs.Common.{◌≡◌, arith, false, length, refl, subst, true}
use Rattle.std.proofs.lemmas.Bool.{both_ways}
use Rattle.hg_wireproto.specs.declared.standing.Standing.{Standing}
use Rattle.hg_wireproto.specs.code.Standing.{IsStanding}
use Rattle.hg_wireproto.proofs.Settling.{settled_hidden, settled_shown}
use Rattle.hg_wireproto.proofs.settled.settle_one.Goals as goal

pub returns-in_ok-push_parents-in-Hidden : goal.returns-in_ok-push_parents-in-Hidden
returns-in_ok-push_parents-in-Hidden g c so =
    let rows = c.args.copied.now.rows in
    let markers = c.args.copied.now.markers in
    let phases = c.args.copied.now.phases in
    let old = c.args.covered.now.items in
    let rev = c.args.rev in
    let size : c.len.result ≡ length old = omega (arith, c.len.ensures) in
    let stands = subst (λ n. IsStanding rows markers phases n rev c.in_ok-standing.standing) size
    c.in_ok-standing.ensures in
    settled_hidden rows markers phases (length old) rev c.args.revs.now.items c.push_parents.new.revs.items old _
    c.requires.rev (omega (arith, c.requires.rev)) refl
    (subst (λ (s : Standing). IsStanding rows markers phases (length old) rev s) c.in-Hidden.is stands)
    (c.in_ok-push_parents-in-Hidden.ensures so)

pub returns-in-Head : goal.returns-in-Head
returns-in-Head g c so =
    let rows = c.args.copied.now.rows in
    let markers = c.args.copied.now.markers in
    let phases = c.args.copied.now.phases in
    let old = c.args.covered.now.items in
    let rev = c.args.rev in
    let size : c.len.result ≡ length old = omega (arith, c.len.ensures) in
    let stands = subst (λ n. IsStanding rows markers phases n rev c.in_ok-standing.standing) size
    c.in_ok-standing.ensures in
    let head = subst (λ (s : Standing). IsStanding rows markers phases (length old) rev s) c.in-Head.is
    stands in
    settled_shown rows markers phases (length old) rev c.args.revs.now.items old _ false c.requires.rev refl head.shown
    (λ _. head, λ _. refl)

pub returns-in-Covered : goal.returns-in-Covered
returns-in-Covered g c so =
    let rows = c.args.copied.now.rows in
    let markers = c.args.copied.now.markers in
    let phases = c.args.copied.now.phases in
    let old = c.args.covered.now.items in
    let rev = c.args.rev in
    let size : c.len.result ≡ length old = omega (arith, c.len.ensures) in
    let stands = subst (λ n. IsStanding rows markers phases n rev c.in_ok-standing.standing) size
    c.in_ok-standing.ensures in
    let neither = subst (λ (s : Standing). IsStanding rows markers phases (length old) rev s) c.in-Covered.is
    stands in
    settled_shown rows markers phases (length old) rev c.args.revs.now.items old _ true c.requires.rev refl neither.0
    (λ so. absurd (both_ways true so refl), λ head. absurd (neither.1 head))
