-- Records that are run as they are read.
use Rattle.std.proofs.Common.{◌≡◌, ◌∙◌, ℕ, Bool, List, [], ◌∷◌, ◌++◌, ap, append-nil, arith, get_or, length}
use Rattle.std.proofs.Common.{◌⊎◌, Err, IsErrOf, inl, inr, length-append, refl, subst, sym, take}
use Rattle.std.proofs.lemmas.List.{get_or_push, take_at}
use Rattle.std.specs.List.{AllByRecursion}
use Rattle.hg_types.specs.Limits.{standard_limits}
use Rattle.hg_push.specs.Run.{RepositoryOf}
use Rattle.hg_store.specs.Calls.{Event}
use Rattle.hg_store.specs.Entries.{Entry}
use Rattle.hg_store.specs.Files.{stored}
use Rattle.hg_store.specs.Head.{IsHead}
use Rattle.hg_store.specs.Openings.{IsOfFolder, IsUnopened}
use Rattle.hg_store.specs.Records.{IsRecord}
use Rattle.hg_store.specs.Tails.{LosesNothing}
use Rattle.hg_store.specs.declared.head.Setup.{Setup}
use Rattle.hg_store.specs.declared.start.StoreFault.{StoreFault}
use Rattle.hg_store.specs.declared.head.Version.TheVariants.{Second}
use Rattle.hg_recovery.specs.Opening.{StopsRead, empty_repository, head_of, setup_for}
use Rattle.hg_recovery.specs.Replays.{IsUnrun, Replays, ReplaysOne}
use Rattle.hg_recovery.specs.declared.opening.OpeningFault.TheVariants.{Store}
use Rattle.hg_recovery.specs.declared.restore.RestoreFault.{RestoreFault}
use Rattle.hg_recovery.proofs.Replaying.{join_lem}

-- the records so far were run, and one more
pub ran_more : {A : Type 0} (first mid last : RepositoryOf A) (records grown : List Entry) (entry : Entry)
    → grown ≡ records ++ entry ∷ [] → Replays standard_limits first records mid
    → ReplaysOne standard_limits mid entry.bundle last → Replays standard_limits first grown last
ran_more {A} first mid last records grown entry is ran one =
    subst (λ (rs : List Entry). Replays standard_limits first rs last) (sym is)
    (join_lem standard_limits first mid last records (entry ∷ []) ran (last, one, refl))

-- the last of the records that were read was not run
pub stops_read : (A : Type 0) (publishing : Bool) (identity : List ℕ) (records grown : List Entry) (entry : Entry)
    (bytes : List ℕ) (last : RepositoryOf A) (place : ℕ) (fault : RestoreFault)
    → IsHead (head_of publishing identity) → AllByRecursion (IsRecord Second) grown
    → bytes ≡ stored (head_of publishing identity) grown ++ [] → grown ≡ records ++ entry ∷ []
    → place ≡ length records → Replays standard_limits (empty_repository (setup_for publishing)) records last
    → IsUnrun fault place standard_limits last entry.bundle → StopsRead A publishing bytes fault
stops_read A publishing identity records grown entry bytes last place fault allowed each is grown_is count ran unrun =
    record {
      identity = identity;
      records = grown;
      allowed = allowed;
      each = each;
      spelled = is ∙ append-nil (stored (head_of publishing identity) grown);
      stops = (
        last,
        record {
          place = place;
          entry = entry;
          more = omega (arith, count, ap length grown_is, length-append records (entry ∷ []));
          at = sym (ap (λ (rs : List Entry). get_or rs place entry) grown_is
              ∙ get_or_push records entry entry place (sym count));
          ran = subst (λ (rs : List Entry). Replays standard_limits (empty_repository (setup_for publishing)) rs last)
              (sym (ap (take place) grown_is ∙ take_at records (entry ∷ []) place (sym count))) ran;
          unrun = unrun;
        },
      );
    }

-- which fault of the store is told
pub store_is : {T : Type 0} (found fault : StoreFault) → IsErrOf {T = T} (Err (Store found)) (Store fault)
    → found ≡ fault
store_is found fault is = cc

-- why a store was not begun
pub unbegun : {Read : Type 0} (drawn : Read → List ℕ) (history : Read → List Event) (found fault : StoreFault)
    (setup other : Setup) (done : List Event) → found ≡ fault → setup ≡ other
    → IsOfFolder found
    ⊎ ((read : Read) × (history read ≡ []) × IsUnopened found setup (drawn read) [] (history read))
    → IsOfFolder fault ⊎ ((read : Read) × IsUnopened fault other (drawn read) [] (history read)
    × LosesNothing [] (history read) done)
unbegun drawn history found fault setup other done same setup_is (inl of_folder) = inl (subst IsOfFolder same of_folder)
unbegun drawn history found fault setup other done same setup_is (inr (read, none, why)) = inr (
  read,
  subst (λ (s : Setup). IsUnopened fault s (drawn read) [] (history read)) setup_is
      (subst (λ (f : StoreFault). IsUnopened f setup (drawn read) [] (history read)) same why),
  inl none,
)

-- why one was not read to its end
pub unread_is : (found fault : StoreFault) (setup : Setup) (bytes : List ℕ) (before now done : List Event)
    → found ≡ fault → before ≡ [] → now ≡ before → IsUnopened found setup bytes before now
    → IsUnopened fault setup bytes [] now × LosesNothing [] now done
unread_is found fault setup bytes before now done same none still why = (
  subst (λ (b : List Event). IsUnopened fault setup bytes b now) none
      (subst (λ (f : StoreFault). IsUnopened f setup bytes before now) same why),
  inl (still ∙ none),
)

-- why one was not brought in order
pub unfinished : (found fault : StoreFault) (setup : Setup) (bytes : List ℕ) (before now done : List Event)
    → found ≡ fault → before ≡ [] → IsUnopened found setup bytes before now → LosesNothing before now done
    → IsUnopened fault setup bytes [] now × LosesNothing [] now done
unfinished found fault setup bytes before now done same none why lost = (
  subst (λ (b : List Event). IsUnopened fault setup bytes b now) none
      (subst (λ (f : StoreFault). IsUnopened f setup bytes before now) same why),
  subst (λ (b : List Event). LosesNothing b now done) none lost,
)
