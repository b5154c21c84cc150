-- A store that is followed, and then taken over.
use Rattle.std.proofs.Common.{◌≡◌, ◌⊎◌, ◌∙◌, ℕ, Bool, List, [], ◌∷◌, ◌++◌, ap, append-nil, append_assoc, inl, inr}
use Rattle.std.proofs.Common.{arith, false, subst, sym, true}
use Rattle.hg_types.specs.Limits.{IsAllowed, standard_limits}
use Rattle.hg_types.specs.declared.limits.Limits.{Limits}
use Rattle.hg_types.specs.declared.limits.Settings.{Settings}
use Rattle.hg_push.specs.Run.{RepositoryOf}
use Rattle.hg_store.specs.Entries.{Entry}
use Rattle.hg_store.specs.Calls.{Event, was_held}
use Rattle.hg_store.specs.Openings.{HasEnded, HasRead, IsFound, IsOfFolder, IsUnopened}
use Rattle.hg_store.specs.Standbys.{LooksOnly, StandsStill}
use Rattle.hg_store.specs.Tails.{LosesNothing}
use Rattle.hg_store.specs.declared.front.Opening.{Opening}
use Rattle.hg_store.specs.declared.head.Head.{Head}
use Rattle.hg_store.specs.declared.head.Setup.{Setup}
use Rattle.hg_store.specs.declared.start.StoreFault.{StoreFault}
use Rattle.hg_recovery.specs.Next.{IsNextUnrun, RunsNext}
use Rattle.hg_recovery.specs.Opening.{StopsRead, empty_repository, head_of, setup_for}
use Rattle.hg_recovery.specs.Replays.{IsUnrun, Replays, ReplaysOne}
use Rattle.hg_recovery.specs.Standbys.{IsFollowed, IsOpenedOn, IsTakenOver, WereRun}
use Rattle.hg_recovery.specs.declared.restore.RestoreFault.{RestoreFault}
use Rattle.hg_recovery.proofs.Stops.{ran_more, stops_read}

-- these records are the first of those
abbrev pub GoesOn : List Entry → List Entry → Type 0
GoesOn run records = (more : List Entry) × (records ≡ run ++ more)

pub goes_nowhere : (run : List Entry) → GoesOn run run
goes_nowhere run = ([], sym (append-nil run))

pub goes_same : (run records grown : List Entry) → GoesOn run records → grown ≡ records → GoesOn run grown
goes_same run records grown goes is = (goes.0, is ∙ goes.1)

-- with one more
pub goes_on : (run records grown : List Entry) (entry : Entry) → GoesOn run records → grown ≡ records ++ entry ∷ []
    → GoesOn run grown
goes_on run records grown entry goes is = (
  goes.0 ++ entry ∷ [],
  is ∙ ap (λ (rs : List Entry). rs ++ entry ∷ []) goes.1 ∙ append_assoc run goes.0 (entry ∷ []),
)

-- what was read and run stays so
pub followed_still : {C A R : Type 0} (drawn : C → List ℕ) (publishing : Bool) (old new : Opening C A)
    (repo : RepositoryOf R) → IsFollowed drawn publishing old repo → HasRead drawn (setup_for publishing) [] new
    → new.records.entries ≡ old.records.entries → IsFollowed drawn publishing new repo
followed_still drawn publishing old new repo is read same = record {
  read = read;
  were = record {
    ran = subst (λ (rs : List Entry). Replays standard_limits (empty_repository (setup_for publishing)) rs repo)
        (sym same) is.were.ran;
    settings = is.were.settings;
  };
}

-- the limits of a repository that was followed are allowed
pub standard_allowed : IsAllowed standard_limits
standard_allowed = record {
  params = (omega arith, omega arith);
  payload = (omega arith, omega arith);
  stream = (omega arith, omega arith);
  parts = (omega arith, omega arith);
  text = (omega arith, omega arith);
  rows = (omega arith, omega arith);
  revisions = (omega arith, omega arith);
}

pub are_allowed : {A : Type 0} (publishing : Bool) (records : List Entry) (repo : RepositoryOf A)
    → WereRun publishing records repo → IsAllowed repo.settings.limits
are_allowed publishing records repo were =
    subst IsAllowed (sym (ap (λ (s : Settings). s.limits) were.settings)) standard_allowed

-- one more record was read and run
pub followed_on : {C A : Type 0} (drawn : C → List ℕ) (publishing more : Bool) (old new : Opening C A)
    (before after : RepositoryOf A) → IsFollowed drawn publishing old before → more ≡ true
    → RunsNext drawn (setup_for publishing) more old new before after → after.settings ≡ before.settings
    → IsFollowed drawn publishing new after
    × ((entry : Entry) × (new.records.entries ≡ old.records.entries ++ entry ∷ []))
followed_on {C} {A} drawn publishing more old new before after is found next kept =
    let ran = subst (λ (m : Bool). RunsNext drawn (setup_for publishing) m old new before after) found next in
    let one = subst (λ (limits : Limits). ReplaysOne limits before ran.1.entry.bundle after)
    (ap (λ (s : Settings). s.limits) is.were.settings) ran.1.ran in (
      record {
        read = ran.0;
        were = record {
          ran = ran_more (empty_repository (setup_for publishing)) before after old.records.entries
              new.records.entries ran.1.entry ran.1.more is.were.ran one;
          settings = kept ∙ is.were.settings;
        };
      },
      (ran.1.entry, ran.1.more),
    )

-- or none follows
pub followed_all : {C A : Type 0} (drawn : C → List ℕ) (publishing more : Bool) (old new : Opening C A)
    (before after : RepositoryOf A) → IsFollowed drawn publishing old before → more ≡ false
    → RunsNext drawn (setup_for publishing) more old new before after
    → HasEnded drawn (setup_for publishing) new × WereRun publishing new.records.entries after
    × (new.records.entries ≡ old.records.entries)
followed_all {C} {A} drawn publishing more old new before after is ends next =
    let ended = subst (λ (m : Bool). RunsNext drawn (setup_for publishing) m old new before after) ends next in (
      ended.0,
      record {
        ran = subst (λ (r : RepositoryOf A). Replays standard_limits (empty_repository (setup_for publishing))
            new.records.entries r) (sym ended.2)
            (subst (λ (rs : List Entry). Replays standard_limits (empty_repository (setup_for publishing)) rs before)
            (sym ended.1) is.were.ran);
        settings = ap (λ (r : RepositoryOf A). r.settings) ended.2 ∙ is.were.settings;
      },
      ended.1,
    )

-- the next record was read and is not run
pub followed_no_more : {C A : Type 0} (drawn : C → List ℕ) (publishing : Bool) (old new : Opening C A)
    (repo : RepositoryOf A) (fault : RestoreFault) → IsFollowed drawn publishing old repo
    → IsNextUnrun drawn (setup_for publishing) fault old new repo → StopsRead A publishing (drawn new.calls) fault
followed_no_more {C} {A} drawn publishing old new repo fault is un =
    stops_read A publishing new.identity old.records.entries new.records.entries un.entry (drawn new.calls) repo
    old.stored fault un.read.allowed un.read.each un.read.read un.more is.read.count is.were.ran
    (subst (λ (limits : Limits). IsUnrun fault old.stored limits repo un.entry.bundle)
    (ap (λ (s : Settings). s.limits) is.were.settings) un.unrun)

-- why a store is not followed
pub unfollowed : {Read : Type 0} (drawn : Read → List ℕ) (history : Read → List Event) (found fault : StoreFault)
    (setup other : Setup) → found ≡ fault → setup ≡ other
    → IsOfFolder found
    ⊎ ((read : Read) × (history read ≡ []) × IsUnopened found setup (drawn read) [] (history read))
    → IsOfFolder fault ⊎ ((read : Read) × (history read ≡ []) × IsUnopened fault other (drawn read) [] [])
unfollowed drawn history found fault setup other same setup_is (inl of_folder) = inl (subst IsOfFolder same of_folder)
unfollowed drawn history found fault setup other same setup_is (inr (read, none, why)) = inr (
  read,
  none,
  subst (λ (now : List Event). IsUnopened fault other (drawn read) [] now) none
      (subst (λ (s : Setup). IsUnopened fault s (drawn read) [] (history read)) setup_is
      (subst (λ (f : StoreFault). IsUnopened f setup (drawn read) [] (history read)) same why)),
)

-- why a store that was read on is not opened
pub unfinished_since : (found fault : StoreFault) (setup : Setup) (bytes : List ℕ) (first before now done : List Event)
    → found ≡ fault → before ≡ first → IsUnopened found setup bytes before now → LosesNothing before now done
    → IsUnopened fault setup bytes first now × LosesNothing first now done
unfinished_since found fault setup bytes first before now done same kept why lost = (
  subst (λ (b : List Event). IsUnopened fault setup bytes b now) kept
      (subst (λ (f : StoreFault). IsUnopened f setup bytes before now) same why),
  subst (λ (b : List Event). LosesNothing b now done) kept lost,
)

-- a store was read on and opened
pub opened_on : (head : Head) (run ran records all : List Entry) (first before now done : List Event)
    → GoesOn run ran → all ≡ ran → records ≡ all → before ≡ first → IsFound head records before now
    → LosesNothing before now done → IsOpenedOn head run records first now done
opened_on head run ran records all first before now done goes same same_all kept found lost = record {
  more = goes.0;
  goes_on = same_all ∙ same ∙ goes.1;
  found = subst (λ (b : List Event). IsFound head records b now) kept found;
  tail = subst (λ (b : List Event). LosesNothing b now done) kept lost;
}

-- it was only looked at since it was held
pub looks_held : (held before now : List Event) → held ≡ was_held ∷ [] → now ≡ before → LooksOnly held before
    → LooksOnly (was_held ∷ []) now
looks_held held before now is same looks =
    subst (LooksOnly (was_held ∷ [])) (sym same) (subst (λ (h : List Event). LooksOnly h before) is looks)

-- and it was held and looked at before
pub taken : (publishing : Bool) (first mid last : List ℕ) (run ran records : List Entry)
    (held before now done : List Event) → held ≡ was_held ∷ [] → mid ≡ first → last ≡ mid → ran ≡ run
    → StandsStill (head_of publishing first) run held before
    → IsOpenedOn (head_of publishing last) ran records before now done
    → IsTakenOver (head_of publishing last) run records done now
taken publishing first mid last run ran records held before now done is same_mid same_last same_run stands opened =
    record {
      before = before;
      stands = subst (λ (id : List ℕ). StandsStill (head_of publishing id) run (was_held ∷ []) before)
          (sym (same_last ∙ same_mid))
          (subst (λ (h : List Event). StandsStill (head_of publishing first) run h before) is stands);
      opened = subst (λ (rs : List Entry). IsOpenedOn (head_of publishing last) rs records before now done) same_run
          opened;
    }
