-- The pushes of a store, each as its bundle.
use Rattle.std.specs.Prelude.{ℕ, ◌≡◌, ◌⊎◌, ◌<◌, ◌≤◌, ◌+◌, ◌-◌, List, [], ◌∷◌, ◌++◌, Option, drop, length}
use Rattle.std.specs.List.{concat}
use Rattle.std.specs.Io.KnownBytes.{Appends}
use Rattle.hg_types.specs.declared.limits.Limits.{Limits}
use Rattle.hg_store.specs.declared.head.Head.{Head}
use Rattle.hg_store.specs.Entries.{Entry, bundles_of}
use Rattle.hg_connection.specs.Devices.{TellsMore}
use Rattle.hg_store_tools.specs.declared.fault.StoreEnd.{StoreEnd}
use Rattle.hg_store_tools.specs.declared.fault.Fault.{Fault}
use Rattle.hg_store_tools.specs.declared.fault.Fault.TheVariants.{NoMemory, Unsent}
use Rattle.hg_store_tools.specs.declared.form.BundleForm.{BundleForm}
use Rattle.hg_store_tools.specs.declared.form.BundleForm.TheVariants.{Stored, Canonical}
use Rattle.hg_store_tools.specs.Canonical.{AreCanonicalOf, IsCanonicalOf, IsUncanonical}
use Rattle.hg_store.specs.Files.{digest_behind}
use Rattle.hg_store.specs.Head.{version_of}
use Rattle.hg_store_tools.specs.declared.form.Formed.{Formed}
use Rattle.hg_store_tools.specs.declared.form.Formed.TheVariants.{Stored as StoredBytes, Canonical as CanonicalBytes}
use Rattle.hg_store_tools.specs.Reading.{HasFront, IsRead, IsUnread}
use Rattle.hg_store_tools.specs.Visiting.{IsUnreadAt}
use Rattle.hg_store_tools.specs.declared.marks.Mark.{Mark}
use Rattle.hg_store_tools.specs.Places.{IsReadOn}

-- the bundle that is written of a stored one, in that form
abbrev pub IsInForm : BundleForm → Type 0 → Limits → List ℕ → List ℕ → Type 0
IsInForm Stored A limits stored bundle = bundle ≡ stored
IsInForm Canonical A limits stored bundle = IsCanonicalOf A limits stored bundle

-- one bundle for each record, in order
abbrev pub AreInForm : BundleForm → Type 0 → Limits → List Entry → List (List ℕ) → Type 0
AreInForm Stored A limits records bundles = bundles ≡ bundles_of records
AreInForm Canonical A limits records bundles = AreCanonicalOf A limits records bundles

-- bundles with their places, the first of which is this one
abbrev pub numbered : ℕ → List (List ℕ) → List (ℕ × List ℕ)
numbered place [] = []
numbered place (first ∷ others) = (place, first) ∷ numbered (place + 1) others

-- the bytes of a bundle in its form
abbrev pub formed_bytes : {A : Type 0} → Formed A → List ℕ
formed_bytes (StoredBytes bytes) = bytes.now
formed_bytes (CanonicalBytes bytes) = bytes.items

-- Which bundles of a store are written, from which place on, and in which form.
pub record LogForm : Type 0 where
  pub limits : Limits
  pub from : ℕ
  pub form : BundleForm

-- the record at a place is passed over; or its bundle was written
abbrev pub SendsRecord : Type 0 → LogForm → ℕ → Entry → Option (List ℕ) → Option (List ℕ) → Type 0
SendsRecord A log place entry before after = ((place < log.from) × (after ≡ before)) ⊎ ((log.from ≤ place)
    × (bundle : List ℕ) × IsInForm log.form A log.limits entry.bundle bundle × Appends before after bundle)

-- the record at a place is passed over; or its bundle was put there
abbrev pub PutsRecord : Type 0 → LogForm → ℕ → Entry → Option (List (ℕ × List ℕ)) → Option (List (ℕ × List ℕ)) → Type 0
PutsRecord A log place entry before after = ((place < log.from) × (after ≡ before)) ⊎ ((log.from ≤ place)
    × (bundle : List ℕ) × IsInForm log.form A log.limits entry.bundle bundle
    × TellsMore before after ((place, bundle) ∷ []))

-- Why the bundle of the record at a place was not written, of which this much was: it has none in that form, or the
-- writer took a front of it.
pub data IsStop (A : Type 0) (log : LogForm) (place : ℕ) (stored gone : List ℕ) (fault : Fault) : Type 0 where
  uncanonical : gone ≡ [] → IsUncanonical A fault place log.limits stored → IsStop A log place stored gone fault
  unsent : (bundle rest : List ℕ) → IsInForm log.form A log.limits stored bundle → bundle ≡ gone ++ rest →
      (fault ≡ Unsent) ⊎ (fault ≡ NoMemory) → IsStop A log place stored gone fault

-- the bundle of the record at a place was not written, or a front of it alone
abbrev pub SendsNoRecord : Type 0 → LogForm → ℕ → Entry → Fault → Option (List ℕ) → Option (List ℕ) → Type 0
SendsNoRecord A log place entry fault before after =
    (log.from ≤ place) × (gone : List ℕ) × Appends before after gone × IsStop A log place entry.bundle gone fault

-- The file is a store, whose bundles from a place on were written in that form, one after the other.
pub record IsLogged (form : BundleForm) (A : Type 0) (file : List ℕ) (from : ℕ) (ending : StoreEnd)
    (before after : Option (List ℕ)) : Type 0 where
  pub head : Head
  pub records : List Entry
  pub read : IsRead file head records ending
  pub bundles : List (List ℕ)
  pub are : AreInForm form A head.limits (drop from records) bundles
  pub sent : Appends before after (concat bundles)

-- The rest of a store behind a mark is records, whose bundles from a place on were written in that form, one after the
-- other.
pub record IsLoggedOn (form : BundleForm) (A : Type 0) (head : Head) (mark : Mark) (rest : List ℕ) (from : ℕ)
    (ending : StoreEnd) (before after : Option (List ℕ)) : Type 0 where
  pub records : List Entry
  pub read : IsReadOn head mark rest records ending
  pub bundles : List (List ℕ)
  pub are : AreInForm form A head.limits (drop (from - mark.place) records) bundles
  pub sent : Appends before after (concat bundles)

-- The bundles of a store from a place on were written in that form: those that stand behind some mark, which is not
-- behind that place.
abbrev pub LogsFrom : BundleForm → Type 0 → ℕ → StoreEnd → Option (List ℕ) → Option (List ℕ) → Type 0
LogsFrom form A from ending before after = (head : Head) × (mark : Mark) × (rest : List ℕ) × (mark.place ≤ from)
    × IsLoggedOn form A head mark rest from ending before after

-- The file is a store, whose bundles from a place on were put on a shelf in that form, each at its place.
pub record IsShelved (form : BundleForm) (A : Type 0) (file : List ℕ) (from : ℕ) (ending : StoreEnd)
    (before after : Option (List (ℕ × List ℕ))) : Type 0 where
  pub head : Head
  pub records : List Entry
  pub read : IsRead file head records ending
  pub bundles : List (List ℕ)
  pub are : AreInForm form A head.limits (drop from records) bundles
  pub put : TellsMore before after (numbered from bundles)

-- The rest of a store behind a mark is records, whose bundles from a place on were put on a shelf in that form, each at
-- its place.
pub record IsShelvedOn (form : BundleForm) (A : Type 0) (head : Head) (mark : Mark) (rest : List ℕ) (from : ℕ)
    (ending : StoreEnd) (before after : Option (List (ℕ × List ℕ))) : Type 0 where
  pub records : List Entry
  pub read : IsReadOn head mark rest records ending
  pub bundles : List (List ℕ)
  pub are : AreInForm form A head.limits (drop (from - mark.place) records) bundles
  pub put : TellsMore before after (numbered from bundles)

-- Why not all bundles were written. The file has no head, and nothing was written. Or the bundles of its first records
-- were, from a place on: then it is damaged, or was not read on; or the next record's was not written, or a front of
-- it alone.
pub data IsUnlogged (form : BundleForm) (A : Type 0) (file : List ℕ) (from : ℕ) (before after : Option (List ℕ))
    (fault : Fault) : Type 0 where
  headless : IsUnread fault file → after ≡ before → IsUnlogged form A file from before after fault
  unread : (head : Head) (records : List Entry) (tail : List ℕ) (bundles : List (List ℕ)) →
      HasFront file head records tail →
      IsUnreadAt fault (version_of head) (digest_behind head records) (length records) tail →
      AreInForm form A head.limits (drop from records) bundles → Appends before after (concat bundles) →
      IsUnlogged form A file from before after fault
  stopped : (head : Head) (records : List Entry) (entry : Entry) (tail : List ℕ) (bundles : List (List ℕ))
      (gone : List ℕ) →
      HasFront file head (records ++ entry ∷ []) tail → from ≤ length records →
      AreInForm form A head.limits (drop from records) bundles → Appends before after (concat bundles ++ gone) →
      IsStop A (record { limits = head.limits; from = from; form = form }) (length records) entry.bundle gone fault →
      IsUnlogged form A file from before after fault
