-- The records of a front of a journal are the bundles of its pushes, and so lead to the repository of that front.
use Rattle.std.proofs.Common.{ℕ, zero, suc, Bool, ◌≡◌, ◌+◌, ◌≤◌, List, [], ◌∷◌, ◌++◌, refl, sym, ap, ◌∙◌, subst}
use Rattle.std.proofs.Common.{arith, append_assoc, length, length-append, take}
use Rattle.hg_parts.specs.declared.item.Taken.{Taken}
use Rattle.hg_types.specs.declared.limits.Limits.{Limits}
use Rattle.hg_types.specs.declared.limits.Settings.{Settings}
use Rattle.hg_types.specs.declared.part.Part.{Part}
use Rattle.hg_store.specs.Entries.{Entry}
use Rattle.hg_store.specs.declared.head.Head.{Head}
use Rattle.hg_store.specs.Files.{IsStore, StandsFor}
use Rattle.hg_store.specs.Head.{setup_of}
use Rattle.hg_push.specs.Changed.{OneByOne}
use Rattle.hg_push.specs.History.{History, parts, serial}
use Rattle.hg_push.specs.Run.{RepositoryOf, run_push}
use Rattle.hg_serve.specs.Histories.{newest_first, serial_run}
use Rattle.hg_commit.specs.Lives.{IsFront}
use Rattle.hg_commit.specs.Records.{AreRecordsFrom, done_in}
use Rattle.hg_recovery.specs.Replays.{AreBundlesOf, Replays}
use Rattle.hg_recovery.specs.Opening.{IsRecovered, empty_repository}
use Rattle.hg_theorems.specs.Recovering.{Recovers}

-- what follows on fronts of one length
same_rest : (a b c d : List ℕ) → a ++ b ≡ c ++ d → length a ≡ length c → b ≡ d
same_rest [] b [] d is long = is
same_rest [] b (y ∷ c) d is long = absurd (omega (arith, long))
same_rest (x ∷ a) b [] d is long = absurd (omega (arith, long))
same_rest (x ∷ a) b (y ∷ c) d is long =
    let rest : a ++ b ≡ c ++ d = cc in same_rest a b c d rest (omega (arith, long))

module _ {A : Type 0} (first : RepositoryOf A) (h : List (Taken A)) where
  -- each record is the bundle of the push at its place, where the journal goes on
  from_place : (place : ℕ) (front rest : List ℕ) (records : List Entry)
      → (serial_run first h).journal ≡ front ++ rest → length front ≡ place
      → AreRecordsFrom first h place records → (length records ≤ length rest)
      × AreBundlesOf first.settings.limits (λ p. parts p (newest_first h)) (take (length records) rest) records
  from_place place front rest [] is long each = (omega arith, tt)
  from_place place front rest (entry ∷ others) is long each =
      let r = each.0 in
      let tail : rest ≡ r.push ∷ r.at.back = same_rest front rest r.at.front (r.push ∷ r.at.back)
      (sym is ∙ r.at.spelled) (long ∙ sym r.at.count) in
      let on : (serial_run first h).journal ≡ (front ++ r.push ∷ []) ++ r.at.back =
      is ∙ (ap (λ (l : List ℕ). front ++ l) tail ∙ sym (append_assoc front (r.push ∷ []) r.at.back)) in
      let more : length (front ++ r.push ∷ []) ≡ place + 1 =
      omega (arith, length-append front (r.push ∷ []), long) in
      let inner = from_place (place + 1) (front ++ r.push ∷ []) r.at.back others on more each.1 in
      subst (λ (l : List ℕ). (length (entry ∷ others) ≤ length l) × AreBundlesOf first.settings.limits
      (λ p. parts p (newest_first h)) (take (length (entry ∷ others)) l) (entry ∷ others)) (sym tail)
      (omega (arith, inner.0), (r.bundle, inner.1))

  bundles : (records : List Entry) → AreRecordsFrom first h 0 records
      → (length records ≤ done_in first h) × AreBundlesOf first.settings.limits (λ p. parts p (newest_first h))
      (take (length records) (serial_run first h).journal) records
  bundles records each = from_place 0 [] (serial_run first h).journal records refl refl each

-- a front of what runs one by one does
front_runs : {A : Type 0} (of : ℕ → List (Part A)) (first last : RepositoryOf A) (journal : List ℕ) (k : ℕ)
    → OneByOne run_push of first journal last
    → (mid : RepositoryOf A) × OneByOne run_push of first (take k journal) mid
front_runs of first last journal zero ran = (first, refl)
front_runs of first last [] (suc k) same = (first, refl)
front_runs of first last (push ∷ journal) (suc k) ran =
    let rest = front_runs of ran.0 last journal k ran.3 in (rest.0, (ran.0, ran.1, ran.2, rest.1))

module _ {A : Type 0}
    (reads : (file : List ℕ) (a b : Head) (rs ss : List Entry) (x y : List ℕ) → IsStore file a rs x →
    IsStore file b ss y → (a ≡ b) × (rs ≡ ss) × (x ≡ y))
    (leads : (first : RepositoryOf A) (h : History A) → OneByOne run_push (λ p. parts p h) first
    (serial run_push first h).journal (serial run_push first h).repo)
    (runs : (limits : Limits) (of : ℕ → List (Part A)) (first last : RepositoryOf A) (journal : List ℕ)
    (records : List Entry) → OneByOne run_push of first journal last → AreBundlesOf limits of journal records →
    Replays limits first records last)
    (joined : (limits : Limits) (first mid last : RepositoryOf A) (front back : List Entry) →
    Replays limits first front mid → Replays limits mid back last → Replays limits first (front ++ back) last)
    (one : (limits : Limits) (first a b : RepositoryOf A) (records : List Entry) →
    Replays limits first records a → Replays limits first records b → a ≡ b)
    (keeps : (limits : Limits) (first last : RepositoryOf A) (records : List Entry) →
    Replays limits first records last → last.settings ≡ first.settings)
  where
    -- what a store's records lead to is determined by its file
    alone : (publishing : Bool) (head other : Head) (file : List ℕ) (records found : List Entry)
        (repo served : RepositoryOf A) → StandsFor head records file → IsRecovered publishing head records repo
        → StandsFor other found file → IsRecovered publishing other found served
        → (found ≡ records) × (served ≡ repo)
    alone publishing head other file records found repo served mine is theirs again =
        let same = reads file other head found records theirs.0 mine.0 theirs.1 mine.1 in
        let here : IsRecovered publishing other records served =
        subst (λ (rs : List Entry). IsRecovered publishing other rs served) same.1 again in
        let there : IsRecovered publishing head records served =
        subst (λ (top : Head). IsRecovered publishing top records served) same.0 here in
        (same.1, one head.limits (empty_repository (setup_of head)) served repo records there.ran is.ran)

    pub recovers : (publishing : Bool) (head : Head) (stored : List Entry) (first : RepositoryOf A)
        (h : List (Taken A)) (least : ℕ) (file : List ℕ) → IsRecovered publishing head stored first
        → IsFront head stored first h least file → Recovers publishing head stored first h least file
    recovers publishing head stored first h least file begun f =
        let journal : List ℕ = (serial_run first h).journal in
        let of : ℕ → List (Part A) = λ p. parts p (newest_first h) in
        let n : ℕ = length f.records in
        let all = bundles first h f.records f.each in
        let front = front_runs of first (serial_run first h).repo journal n (leads first (newest_first h)) in
        let own : Replays first.settings.limits first f.records front.0 =
        runs first.settings.limits of first front.0 (take n journal) f.records front.1 all.1 in
        let same : first.settings.limits ≡ head.limits =
        ap (λ (s : Settings). s.limits) (keeps head.limits (empty_repository (setup_of head)) first stored begun.ran) in
        let now : Replays head.limits first f.records front.0 =
        subst (λ (limits : Limits). Replays limits first f.records front.0) same own in
        let is : IsRecovered publishing head (stored ++ f.records) front.0 = record {
          setup_is = begun.setup_is;
          ran = joined head.limits (empty_repository (setup_of head)) first front.0 stored f.records begun.ran now;
        } in
        record {
          records = f.records;
          stands = f.stands;
          enough = f.enough;
          repo = front.0;
          recovered = is;
          after = record { done = all.0; ran = front.1 };
          alone = λ other found served theirs again. alone publishing head other file (stored ++ f.records) found
              front.0 served f.stands is theirs again;
        }
