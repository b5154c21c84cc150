-- One record that is read and run.
use Rattle.std.proofs.Common.{◌≡◌, ◌<◌, ◌^◌, ℕ, Bool, List, [], arith, length, subst, sym, true}
use Rattle.hg_types.specs.Limits.{IsAllowed}
use Rattle.hg_types.specs.declared.limits.Limits.{Limits}
use Rattle.hg_types.specs.declared.part.Part.{Part}
use Rattle.hg_stream.specs.Frames.{IsBundle}
use Rattle.hg_push.specs.Run.{RepositoryOf}
use Rattle.hg_store.specs.Entries.{Entry}
use Rattle.hg_store.specs.Openings.{HasNext, HasRead, IsNextOf}
use Rattle.hg_store.specs.declared.front.Opening.{Opening}
use Rattle.hg_store.specs.declared.head.Setup.{Setup}
use Rattle.hg_recovery.specs.Replays.{IsUnread, IsUnrun}
use Rattle.hg_recovery.specs.Taking.{Took}
use Rattle.hg_recovery.specs.declared.record.RecordIn.{RecordIn}
use Rattle.hg_recovery.specs.declared.restore.RestoreFault.{RestoreFault}
use Rattle.hg_recovery.specs.declared.restore.RestoreFault.TheVariants.{NoBundle, NoMemory, Refused}

-- the same parts are a bundle's under the same limits
pub same_bundle : {A : Type 0} (bytes : List ℕ) (limits own : Limits) (given parts : List (Part A))
    → limits ≡ own → parts ≡ given → IsBundle limits bytes given → IsBundle own bytes parts
same_bundle {A} bytes limits own given parts same_limits same_parts bundle =
    subst (λ (l : Limits). IsBundle l bytes parts) same_limits
    (subst (λ (ps : List (Part A)). IsBundle limits bytes ps) (sym same_parts) bundle)

-- a bundle has so few parts that they can be counted
pub few_parts : {A : Type 0} (limits : Limits) (bytes : List ℕ) (parts : List (Part A)) → IsAllowed limits
    → IsBundle limits bytes parts → length parts < 2 ^ 32
few_parts limits bytes parts allowed bundle = omega (arith, bundle.0.has.few, allowed.parts)

unread_at : {A : Type 0} (fault : RestoreFault) (place : ℕ) (limits : Limits) (repo : RepositoryOf A) (bytes : List ℕ)
    → IsUnread A fault place limits bytes → IsUnrun fault place limits repo bytes
unread_at (NoBundle at) place limits repo bytes why = why
unread_at (Refused at) place limits repo bytes why = absurd why
unread_at NoMemory place limits repo bytes why = tt

-- a record that gives no parts is not run
pub unread_unrun : {A : Type 0} (fault told : RestoreFault) (place : ℕ) (limits own : Limits) (repo : RepositoryOf A)
    (bytes : List ℕ) → fault ≡ told → limits ≡ own → IsUnread A fault place limits bytes
    → IsUnrun told place own repo bytes
unread_unrun {A} fault told place limits own repo bytes same same_limits why =
    unread_at told place own repo bytes
    (subst (λ (l : Limits). IsUnread A told place l bytes) same_limits
    (subst (λ (f : RestoreFault). IsUnread A f place limits bytes) same why))

module _ {A C M : Type 0} (drawn : C → List ℕ) (setup : Setup) (first after : RecordIn A) (more : Bool)
    (old new : Opening C M) (is : more ≡ true) (next : HasNext drawn Took first after setup more old new) where
  -- a record was read, and its bundle taken
  pub one_more : HasRead drawn setup [] new × ((entry : Entry) × IsNextOf Took first after entry old new)
  one_more = subst (λ (m : Bool). HasNext drawn Took first after setup m old new) is next
