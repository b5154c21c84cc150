-- How records run one after the other.
use Rattle.std.proofs.Common.{◌≡◌, ℕ, List, [], ◌∷◌, ◌++◌, Ok, Result, refl, sym, ap, ◌∙◌, subst, take, get_or, length, ◌+◌, ◌<◌}
use Rattle.std.proofs.Common.{◌≢◌, ◌⊎◌, inl, inr, Err}
use Rattle.std.proofs.lemmas.Grind.{take_at_read}
use Rattle.std.proofs.Common.{zero, suc, ◌≤◌, arith}
use Rattle.std.specs.List.{AllByRecursion}
use Rattle.hg_store.specs.declared.head.Head.{Head}
use Rattle.hg_store.specs.Entries.{Entry}
use Rattle.hg_store.specs.Head.{IsHead, head_size, version_of}
use Rattle.hg_store.specs.Files.{FrontIsStore, stored}
use Rattle.hg_store.specs.Records.{IsRecord}
use Rattle.hg_recovery.specs.Recovery.{FrontRuns}
use Rattle.hg_types.specs.declared.limits.Limits.{Limits}
use Rattle.hg_types.specs.declared.part.Part.{Part}
use Rattle.hg_stream.specs.Laws.{AreReadInOneWay}
use Rattle.hg_push.specs.Changed.{OneByOne}
use Rattle.hg_push.specs.Run.{RepositoryOf, run_push}
use Rattle.hg_parts.specs.declared.refusal.Refusal.{Refusal}
use Rattle.hg_parts.specs.declared.refusal.Refusal.TheVariants.{NoMemory as no_memory}
use Rattle.hg_stream.specs.Frames.{IsBundle}
use Rattle.hg_recovery.specs.declared.restore.RestoreFault.{RestoreFault}
use Rattle.hg_recovery.specs.declared.restore.RestoreFault.TheVariants.{NoBundle, Refused, NoMemory}
use Rattle.hg_recovery.specs.Replays.{ReplaysOne, Replays, AreBundlesOf, IsUnrun}

-- an `Ok` of two holds one first
first_of : {X Y E : Type 0} (x u : X) (y v : Y) (answer : Result (X × Y) E) → answer ≡ Ok (x, y)
    → answer ≡ Ok (u, v) → x ≡ u
first_of {X} {Y} x u y v answer p q =
    let both : (x, y) ≡ (u, v) = cc in
    ap (λ (two : X × Y). two.0) both

-- an `Ok` is no `Err`
ok_no_err : {X E : Type 0} (x : X) (e : E) → Ok x ≡ Err e → ⊥
ok_no_err x e same = cc

module _ {A : Type 0} (limits : Limits) where
  one_step : AreReadInOneWay A limits → (first a b : RepositoryOf A) (bytes : List ℕ)
      → ReplaysOne limits first bytes a → ReplaysOne limits first bytes b → a ≡ b
  one_step way first a b bytes p q =
      let same = way bytes bytes [] [] p.parts q.parts p.bundle.0 q.bundle.0 refl in
      let parts : p.parts ≡ q.parts = same.1 in
      let ran : run_push first p.parts ≡ run_push first q.parts = ap (run_push first) parts in
      first_of a b p.done q.done (run_push first p.parts) p.ran (ran ∙ q.ran)

  pub one_lem : AreReadInOneWay A limits → (first a b : RepositoryOf A) (records : List Entry)
      → Replays limits first records a → Replays limits first records b → a ≡ b
  one_lem way first a b [] p q = sym p ∙ q
  one_lem way first a b (entry ∷ others) p q =
      let mids : p.0 ≡ q.0 = one_step way first p.0 q.0 entry.bundle p.1 q.1 in
      one_lem way q.0 a b others (subst (λ (m : RepositoryOf A). Replays limits m others a) mids p.2) q.2

  pub split_lem : (first last : RepositoryOf A) (front back : List Entry)
      → Replays limits first (front ++ back) last
      → (mid : RepositoryOf A) × Replays limits first front mid × Replays limits mid back last
  split_lem first last [] back all = (first, refl, all)
  split_lem first last (entry ∷ front) back all =
      let rest = split_lem all.0 last front back all.2 in
      (rest.0, (all.0, all.1, rest.1), rest.2)

  pub join_lem : (first mid last : RepositoryOf A) (front back : List Entry)
      → Replays limits first front mid → Replays limits mid back last
      → Replays limits first (front ++ back) last
  join_lem first mid last [] back same all =
      subst (λ (m : RepositoryOf A). Replays limits m back last) (sym same) all
  join_lem first mid last (entry ∷ front) back some all =
      (some.0, some.1, join_lem some.0 mid last front back some.2 all)

  -- the records up to a place, and the one there
  pub more_lem : (first mid last : RepositoryOf A) (records : List Entry) (place : ℕ) (entry : Entry)
      → place < length records → entry ≡ get_or records place entry
      → Replays limits first (take place records) mid → ReplaysOne limits mid entry.bundle last
      → Replays limits first (take (place + 1) records) last
  more_lem first mid last records place entry below at before one =
      let all : Replays limits first (take place records ++ entry ∷ []) last =
      join_lem first mid last (take place records) (entry ∷ []) before (last, one, refl) in
      let read = (take_at_read records place entry below).1 in
      subst (λ (front : List Entry). Replays limits first front last) (sym (read
      ∙ ap (λ (e : Entry). take place records ++ e ∷ []) (sym at))) all

  pub journal_lem : (of : ℕ → List (Part A)) (first last : RepositoryOf A) (journal : List ℕ)
      (records : List Entry) → OneByOne run_push of first journal last
      → AreBundlesOf limits of journal records → Replays limits first records last
  journal_lem of first last [] [] same each = same
  journal_lem of first last [] (entry ∷ others) same each = absurd each
  journal_lem of first last (push ∷ journal) [] ran each = absurd each
  journal_lem of first last (push ∷ journal) (entry ∷ others) ran each = (
    ran.0,
    record { parts = of push; bundle = each.0; done = ran.1; ran = ran.2 },
    journal_lem of ran.0 last journal others ran.3 each.1,
  )

-- a front of a journal, and the bundles of its pushes
pub front_lem : {A : Type 0} (limits : Limits) (of : ℕ → List (Part A)) (first last : RepositoryOf A)
    (journal : List ℕ) (records : List Entry) (k : ℕ) → OneByOne run_push of first journal last
    → AreBundlesOf limits of journal records → (mid : RepositoryOf A)
    × OneByOne run_push of first (take k journal) mid × AreBundlesOf limits of (take k journal) (take k records)
front_lem limits of first last journal records zero ran each = (first, refl, tt)
front_lem limits of first last [] [] (suc k) same each = (first, refl, tt)
front_lem limits of first last [] (entry ∷ others) (suc k) same each = absurd each
front_lem limits of first last (push ∷ journal) [] (suc k) ran each = absurd each
front_lem limits of first last (push ∷ journal) (entry ∷ others) (suc k) ran each =
    let rest = front_lem limits of ran.0 last journal others k ran.3 each.1 in
    (rest.0, (ran.0, ran.1, ran.2, rest.1), (each.0, rest.2))

pub recovery_lem : {A : Type 0} → ((head : Head) (records : List Entry) (n : ℕ) → IsHead head
    → AllByRecursion (IsRecord (version_of head)) records → head_size (version_of head) ≤ n
    → FrontIsStore head records n (take n (stored head records ++ 0 ∷ [])))
    → (limits : Limits) (of : ℕ → List (Part A)) (first last : RepositoryOf A) (journal : List ℕ) (head : Head)
    (records : List Entry) (n : ℕ) → IsHead head → AllByRecursion (IsRecord (version_of head)) records
    → OneByOne run_push of first journal last → AreBundlesOf limits of journal records
    → head_size (version_of head) ≤ n
    → FrontRuns limits of first journal head records n
recovery_lem read limits of first last journal head records n of_head can ran each enough =
    let front = read head records n of_head can enough in
    let rest = front_lem limits of first last journal records front.count ran each in
    record {
      front = front;
      last = rest.0;
      serial = rest.1;
      ran = journal_lem limits of first rest.0 (take front.count journal) (take front.count records) rest.1 rest.2;
    }

-- why a push that is refused is told so
pub unrun_lem : {A : Type 0} (limits : Limits) (repo : RepositoryOf A) (bytes : List ℕ) (parts : List (Part A))
    (refusal : Refusal A) → IsBundle limits bytes parts
    → (refusal ≡ no_memory) ⊎ (run_push repo parts ≡ Err refusal) → run_push repo parts ≢ Err no_memory
    → (place : ℕ) (told : RestoreFault) → (refusal ≡ no_memory → told ≡ NoMemory)
    → (refusal ≢ no_memory → told ≡ Refused place) → IsUnrun told place limits repo bytes
unrun_lem limits repo bytes parts refusal bundle why never place told memory other =
    elim why [
      | inl is ↦ rw (memory is) tt
      | inr ran ↦ rw (other (λ is. never (ran ∙ ap Err is))) (
        refl,
        record { parts = parts; bundle = bundle; refusal = refusal; ran = ran },
      )
    ]

module _ {A : Type 0} (limits : Limits) (way : AreReadInOneWay A limits) where
  -- a record that runs is no damage on the repository that it runs on
  runs_here : (first next : RepositoryOf A) (bytes : List ℕ) (fault : RestoreFault) (place : ℕ)
      → ReplaysOne limits first bytes next → IsUnrun fault place limits first bytes → fault ≡ NoMemory
  runs_here first next bytes (NoBundle at) place one unrun = absurd (unrun.1 one.parts one.bundle)
  runs_here first next bytes (Refused at) place one unrun =
      let refused = unrun.1 in
      let same = way bytes bytes [] [] one.parts refused.parts one.bundle.0 refused.bundle.0 refl in
      let parts : one.parts ≡ refused.parts = same.1 in
      let ran : run_push first one.parts ≡ run_push first refused.parts = ap (run_push first) parts in
      let no = sym one.ran ∙ (ran ∙ refused.ran) in
      absurd (ok_no_err _ _ no)
  runs_here first next bytes NoMemory place one unrun = refl

  pub undamaged_lem : (first last mid : RepositoryOf A) (records : List Entry) (fault : RestoreFault)
      (place told : ℕ) (entry : Entry) → place < length records → entry ≡ get_or records place entry
      → Replays limits first (take place records) mid → IsUnrun fault told limits mid entry.bundle
      → Replays limits first records last → fault ≡ NoMemory
  undamaged_lem first last mid [] fault place told entry low is before unrun all = absurd (omega (arith, low))
  undamaged_lem first last mid (found ∷ others) fault zero told entry low is before unrun all =
      let here = subst (λ (r : RepositoryOf A). IsUnrun fault told limits r entry.bundle) (sym before) unrun in
      let one = subst (λ (e : Entry). ReplaysOne limits first e.bundle all.0) (sym is) all.1 in
      runs_here first all.0 entry.bundle fault told one here
  undamaged_lem first last mid (found ∷ others) fault (suc k) told entry low is before unrun all =
      let same : before.0 ≡ all.0 = one_step limits way first before.0 all.0 found.bundle before.1 all.1 in
      undamaged_lem all.0 last mid others fault k told entry (omega (arith, low)) is
      (subst (λ (r : RepositoryOf A). Replays limits r (take k others) mid) same before.2) unrun all.2
