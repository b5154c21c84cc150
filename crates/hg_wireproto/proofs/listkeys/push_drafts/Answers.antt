use Rattle.std.proofs.Common.{◌≡◌, ◌∙◌, ap, sym, refl, ◌++◌, ◌∷◌, List, ℕ, zero, suc, ◌+◌, ◌<◌, ◌≤◌, Bool, true}
use Rattle.std.proofs.Common.{false, cond, ◌&&◌, not, length, map, filter, take, get_or, Contains, subst, arith}
use Rattle.std.specs.List.{flat_map, range_with_len}
use Rattle.std.proofs.lemmas.List.{take_more, take_all}
use Rattle.std.proofs.lemmas.List.Elements.{Contains-get_or}
use Rattle.hg_types.specs.declared.phase.Phase.{Phase}
use Rattle.hg_types.specs.declared.phase.Phase.TheVariants.{Public, Draft, Secret}
use Rattle.hg_types.specs.Phase.{number_of}
use Rattle.hg_log.specs.Changeset.{Changeset}
use Rattle.hg_log.specs.Parents.{parents_of}
use Rattle.hg_phases.specs.Order.{greater, phase_at, phase_of}
use Rattle.hg_phases.specs.Phases.{Phasing, AreFor, AreLawful}
use Rattle.hg_phases.specs.Roots.{begins, is_root, roots, roots_from}
use Rattle.hg_phases.proofs.CallerLemmas.{root_within}
use Rattle.hg_wireproto.specs.Text.{ended}
use Rattle.hg_wireproto.specs.ListKeys.{draft_line, is_draft, is_draft_root}
use Rattle.hg_wireproto.proofs.Lines.{line_more}
use Rattle.hg_wireproto.proofs.listkeys.push_drafts.Goals as goal

-- ---- the roots of draft that are draft are the changesets that are draft on none

one_kept : (p : ℕ → Bool) (a : ℕ) (some all : List ℕ) (first both : Bool) → (first && p a) ≡ both
    → filter p some ≡ all → filter p (cond first (a ∷ some) some) ≡ cond both (a ∷ all) all
one_kept p a some all true both is rest =
    ap (λ (ks : List ℕ). cond (p a) (a ∷ ks) ks) rest ∙ ap (λ (b : Bool). cond b (a ∷ all) all) is
one_kept p a some all false both is rest = rest ∙ ap (λ (b : Bool). cond b (a ∷ all) all) is

-- what two tests keep of a range, one after the other
kept_twice : (p q both : ℕ → Bool) (a n : ℕ) → ((r : ℕ) → a ≤ r → r < a + n → (q r && p r) ≡ both r)
    → filter p (filter q (range_with_len a n)) ≡ filter both (range_with_len a n)
kept_twice p q both a zero same = refl
kept_twice p q both a (suc n) same =
    one_kept p a (filter q (range_with_len (a + 1) n)) (filter both (range_with_len (a + 1) n)) (q a) (both a)
    (same a (omega arith) (omega arith))
    (kept_twice p q both (a + 1) n (λ r low high. same r (omega arith) (omega arith)))

never : (b : Bool) → (b && false) ≡ false
never true = refl
never false = refl

-- of a changeset in that phase, whose parents are not in a higher one
draft_begins : (phase p1 p2 : Phase) → number_of (greater p1 p2) ≤ number_of phase
    → (begins Draft (greater p1 p2) phase && is_draft phase)
    ≡ (is_draft phase && not (is_draft p1) && not (is_draft p2))
draft_begins Public p1 p2 low = never (begins Draft (greater p1 p2) Public)
draft_begins Secret p1 p2 low = never (begins Draft (greater p1 p2) Secret)
draft_begins Draft Public Public low = refl
draft_begins Draft Public Draft low = refl
draft_begins Draft Public Secret low = absurd (omega (arith, low))
draft_begins Draft Draft Public low = refl
draft_begins Draft Draft Draft low = refl
draft_begins Draft Draft Secret low = absurd (omega (arith, low))
draft_begins Draft Secret Public low = absurd (omega (arith, low))
draft_begins Draft Secret Draft low = absurd (omega (arith, low))
draft_begins Draft Secret Secret low = absurd (omega (arith, low))

root_told : (rows : List Changeset) (phases : List Phase) (r : ℕ) → AreLawful (parents_of rows) phases
    → r < length phases
    → (is_root (parents_of rows) phases Draft r && is_draft (phase_at phases r)) ≡ is_draft_root rows phases r
unfolding is_draft_root
root_told rows phases r lawful within =
    draft_begins (phase_at phases r) (phase_of phases (parents_of rows r).0)
    (phase_of phases (parents_of rows r).1) (lawful r within)

roots_told : (rows : List Changeset) (kept : Phasing) → AreFor rows kept → length rows ≤ length kept.phases
    → filter (λ r. is_draft (phase_at kept.phases r)) kept.draft
    ≡ filter (is_draft_root rows kept.phases) (range_with_len 0 (length rows))
unfolding roots_from
roots_told rows kept fits count =
    let all : length kept.phases ≡ length rows = omega (arith, fits.few, count) in
    let test : ℕ → Bool = λ r. is_draft (phase_at kept.phases r) in
    ap (filter test) fits.draft
    ∙ kept_twice test (is_root (parents_of rows) kept.phases Draft) (is_draft_root rows kept.phases) 0
    (length kept.phases) (λ r low high. root_told rows kept.phases r fits.lawful (omega (arith, high)))
    ∙ ap (λ (n : ℕ). filter (is_draft_root rows kept.phases) (range_with_len 0 n)) all

-- ---- the loop

pub push_draft-requires-clause-row : goal.push_draft-requires-clause-row
push_draft-requires-clause-row g c =
    let rows = c.args.log.now.rows in
    let kept = c.args.phases.now.current in
    let revs = c.as_slice-rev-items.result.now in
    let are : revs ≡ roots (parents_of rows) kept.phases Draft =
    c.as_slice-rev-items.ensures.value ∙ c.in_ok-roots.ensures ∙ c.requires.fits.draft in
    let within = root_within (parents_of rows) kept.phases Draft (get_or revs c.loop-rev.rev-index 0)
    (subst (λ (ks : List ℕ). Contains ks (get_or revs c.loop-rev.rev-index 0)) are
    (Contains-get_or revs c.loop-rev.rev-index 0 c.loop-rev-test.true)) in
    omega (arith, within, c.requires.fits.few)

pub loop-rev-preserved : goal.loop-rev-preserved
loop-rev-preserved g c =
    let rows = c.args.log.now.rows in
    let phases = c.args.phases.now.current.phases in
    let test : ℕ → Bool = λ r. is_draft (phase_at phases r) in
    let revs = c.as_slice-rev-items.result.now in
    let place = c.loop-rev.rev-index in
    line_more test (draft_line rows) c.args.lines.now.items c.loop-rev.lines.items
    c.push_draft.new.lines.items (take place revs) (get_or revs place 0) c.loop-rev.invariant
    c.in_ok-push_draft.ensures
    ∙ ap (λ (ks : List ℕ). c.args.lines.now.items
    ++ flat_map (ended 10) (map (draft_line rows) (filter test ks)))
    (sym (take_more revs place 0 c.loop-rev-test.true))

pub returns : goal.returns
returns g c =
    let rows = c.args.log.now.rows in
    let kept = c.args.phases.now.current in
    let test : ℕ → Bool = λ r. is_draft (phase_at kept.phases r) in
    let revs = c.as_slice-rev-items.result.now in
    let all : take c.loop-rev.rev-index revs ≡ kept.draft =
    take_all c.loop-rev.rev-index revs (omega (arith, c.loop-rev-test.false))
    ∙ c.as_slice-rev-items.ensures.value ∙ c.in_ok-roots.ensures in
    c.loop-rev.invariant
    ∙ ap (λ (ks : List ℕ). c.args.lines.now.items ++ flat_map (ended 10) (map (draft_line rows) ks))
    (ap (filter test) all ∙ roots_told rows kept c.requires.fits c.requires.count)
