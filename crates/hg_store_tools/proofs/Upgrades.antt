-- A store of version 1, as one of version 2.
use Rattle.std.proofs.Common.{◌≡◌, ◌⊎◌, inl, inr, ◌+◌, arith, refl, subst, sym, append_assoc}
use Rattle.std.proofs.Common.{ℕ, List, [], ◌∷◌, ◌++◌, Option}
use Rattle.std.proofs.lemmas.List.{append-nil}
use Rattle.std.specs.List.{AllByRecursion}
use Rattle.hg_store.specs.declared.head.Head.{Head}
use Rattle.hg_store.specs.declared.head.Setup.{Setup}
use Rattle.hg_store.specs.declared.head.Version.{Version}
use Rattle.hg_store.specs.declared.head.Version.TheVariants.{First, Second}
use Rattle.hg_store.specs.Entries.{Entry}
use Rattle.hg_store.specs.Files.{IsStore, IsTornStore, StandsFor, stored}
use Rattle.hg_store.specs.Head.{IsHead, head_bytes, head_for, setup_of, version_of}
use Rattle.hg_store.specs.Log.{at_rest}
use Rattle.hg_store.specs.Pieces.{HasToGive}
use Rattle.hg_store.specs.Records.{IsRecord, shut}
use Rattle.hg_store_tools.specs.Filling.{HasRecords, IsUnplaced, StoreFilled}
use Rattle.hg_store_tools.specs.Reading.{IsUnread}
use Rattle.hg_store_tools.specs.Upgrading.{IsNotUpgraded, IsToldOfNew, IsUpgradeOf, IsUpgraded, UpgradesNoRecord}
use Rattle.hg_store_tools.specs.Upgrading.{UpgradesRecord}
use Rattle.hg_store_tools.specs.Visiting.{Begins, StopsVisiting, Visits, VisitsEach, failed, has_no_begin, unread}
use Rattle.hg_store_tools.specs.declared.cut.CutFault.{CutFault}
use Rattle.hg_store_tools.specs.declared.cut.CutFault.TheVariants.{Store}
use Rattle.hg_store_tools.specs.declared.fault.Fault.{Fault}
use Rattle.hg_store_tools.specs.declared.fault.Fault.TheVariants.{Damaged, Exists, Failed, Head as HasNoHead, Held}
use Rattle.hg_store_tools.specs.declared.fault.Fault.TheVariants.{Missing, NoBundle, NoMemory, NoPlace, Refused}
use Rattle.hg_store_tools.specs.declared.fault.Fault.TheVariants.{Torn as TornAt, Unsent, Upgraded}
use Rattle.hg_store_tools.specs.declared.fault.StoreEnd.TheVariants.{Whole, Torn}
use Rattle.hg_store_tools.proofs.Files.{any_file, file_of, has_front, headless, is_read, is_unread, is_unread_at}
use Rattle.hg_store_tools.proofs.Files.{whole_file}

-- what stands in version 1 can be written in version 2
pub second_record : (r : Entry) → IsRecord First r → IsRecord Second r
second_record r is = (is.0, omega (arith, is.1), omega (arith, is.2))

second_each : (rs : List Entry) → AllByRecursion (IsRecord First) rs → AllByRecursion (IsRecord Second) rs
second_each [] each = tt
second_each (r ∷ rs) each = (second_record r each.0, second_each rs each.1)

abbrev pub Upgrade_step : ℕ → Entry → StoreFilled → StoreFilled → Type 0
Upgrade_step place entry before after = UpgradesRecord entry before after

abbrev pub Upgrade_fails : ℕ → Entry → Fault → StoreFilled → StoreFilled → Type 0
Upgrade_fails place entry fault before after = UpgradesNoRecord fault before after

upgrades_all : (new : Head) → Second ≡ version_of new → (so_far records : List Entry) (place : ℕ)
    (first last : StoreFilled) → HasRecords new so_far first → VisitsEach Upgrade_step place records first last
    → HasRecords new (so_far ++ records) last
upgrades_all new is so_far [] place first last has same =
    subst (λ (s : StoreFilled). HasRecords new (so_far ++ []) s) (sym same)
    (subst (λ (rs : List Entry). HasRecords new rs first) (sym (append-nil so_far)) has)
upgrades_all new is so_far (entry ∷ records) place first last has visited =
    subst (λ (rs : List Entry). HasRecords new rs last) (append_assoc so_far (entry ∷ []) records)
    (upgrades_all new is (so_far ++ entry ∷ []) records (place + 1) visited.0 last (visited.1 new so_far is has) visited.2)

-- a head of version 2 was read
pub upgraded_already : (a b : Option (List ℕ)) (head : Head) (digest : List ℕ) → Begins a b head digest
    → version_of head ≡ Second → (file : List ℕ) × HasToGive a file × IsUpgraded file
upgraded_already a b head digest begins second =
    let at = file_of a b (head_bytes head) begins.gone in (
      at.file,
      at.is,
      (head, (at.rest, record { spelled = at.spelled; allowed = begins.is }), second),
    )

-- a fault of the store
unread_so : (fault : Fault) (file : List ℕ) → IsUnread fault file → IsNotUpgraded (Store fault) file
unread_so (Damaged place) file why = why
unread_so (HasNoHead fault) file why = why
unread_so NoMemory file why = tt
unread_so Failed file why = tt
unread_so Missing file why = absurd why
unread_so (NoBundle place) file why = absurd why
unread_so (Refused place) file why = absurd why
unread_so (NoPlace count) file why = absurd why
unread_so (TornAt count) file why = absurd why
unread_so Upgraded file why = absurd why
unread_so Held file why = absurd why
unread_so Exists file why = absurd why
unread_so Unsent file why = absurd why

pub not_begun : (fault : Fault) (a b : Option (List ℕ)) → has_no_begin fault a b
    → (file : List ℕ) × HasToGive a file × IsNotUpgraded (Store fault) file
not_begun fault a b none =
    let end = headless fault a b none in
    (end.0, end.1, unread_so fault end.0 end.2)

-- a fault of the records, or of the new file, and as it is told
abbrev IsNotBy : Fault → List ℕ → Type 0
IsNotBy fault file = (fault ≡ Unsent) ⊎ IsNotUpgraded (Store fault) file

by_new : (fault : Fault) (file : List ℕ) → (fault ≡ Unsent) ⊎ (fault ≡ NoMemory) → IsNotBy fault file
by_new fault file why = elim why [
  | inl is ↦ inl is
  | inr is ↦ inr (subst (λ (f : Fault). IsNotUpgraded (Store f) file) (sym is) tt)
]

told_so : (fault : Fault) (told : CutFault) (file : List ℕ) → IsToldOfNew fault told → IsNotBy fault file
    → IsNotUpgraded told file
told_so fault told file said why = elim said [
  | inl new ↦ subst (λ (t : CutFault). IsNotUpgraded t file) (sym new.1) tt
  | inr other ↦ elim why [
    | inl is ↦ absurd (other.0 is)
    | inr so ↦ subst (λ (t : CutFault). IsNotUpgraded t file) (sym other.1) so
  ]
]

pub not_made : (fault : Fault) (told : CutFault) (a : Option (List ℕ)) → (fault ≡ Unsent) ⊎ (fault ≡ NoMemory)
    → IsToldOfNew fault told → (file : List ℕ) × HasToGive a file × IsNotUpgraded told file
not_made fault told a why said =
    let end = any_file a in
    (end.0, end.1, told_so fault told end.0 said (by_new fault end.0 why))

-- the head of the new store
pub is_second : (new : Head) (setup : Setup) (identity : List ℕ) → new ≡ head_for setup identity → Second ≡ version_of new
is_second new setup identity is = subst (λ (h : Head). Second ≡ version_of h) (sym is) refl

module _ (head : Head) (digest : List ℕ) (a b c : Option (List ℕ)) (begins : Begins a b head digest) (new : Head)
    (second : Second ≡ version_of new) (first last : StoreFilled) (begun : HasRecords new [] first) where
  pub upgrade_read : Visits Upgrade_step head digest b c Whole first last
      → (file : List ℕ) × HasToGive a file × (records : List Entry) × StandsFor head records file
      × HasRecords new records last
  upgrade_read visits =
      let at = whole_file head digest a b c begins visits.records visits.tail visits.each visits.gone in
      let read = is_read head digest a b c begins visits.records visits.tail visits.each visits.gone Whole visits.over
      visits.ends in (
        at.file,
        at.is,
        visits.records,
        (read.tail, read.store, read.ends),
        upgrades_all new second [] visits.records 0 first last begun visits.visited,
      )

  pub torn_read : (whole : ℕ) → Visits Upgrade_step head digest b c (Torn whole) first last
      → IsUnplaced last.file.calls × (file : List ℕ) × HasToGive a file × IsTornStore file whole
  torn_read whole visits =
      let at = whole_file head digest a b c begins visits.records visits.tail visits.each visits.gone in
      let read = is_read head digest a b c begins visits.records visits.tail visits.each visits.gone (Torn whole)
      visits.over visits.ends in (
        (upgrades_all new second [] visits.records 0 first last begun visits.visited).filled.unplaced,
        at.file,
        at.is,
        record {
          head = head;
          records = visits.records;
          tail = read.tail;
          store = read.store;
          count = read.ends.0;
          torn = read.ends.1;
        },
      )

  pub not_upgraded : (fault : Fault) → StopsVisiting Upgrade_step Upgrade_fails head digest b c fault first last
      → IsUnplaced last.file.calls × (file : List ℕ) × HasToGive a file × IsNotBy fault file
  not_upgraded fault stops = elim stops [
    | unread records tail mid each gone why visited ↦
        let at = whole_file head digest a b mid begins records tail each gone in
        let front = has_front head digest a b mid begins records tail each gone in (
          (upgrades_all new second [] records 0 first last begun visited).filled.unplaced,
          at.file,
          at.is,
          inr (unread_so fault at.file
              (is_unread fault at.file head records (tail ++ at.rest) front
              (is_unread_at head digest a b mid begins records tail each gone fault why))),
        )
    | failed records entry mid each gone visited why ↦
        let end = any_file a in (
          why.1 (upgrades_all new second [] records 0 first mid begun visited).filled.unplaced,
          end.0,
          end.1,
          by_new fault end.0 why.0,
        )
  ]

  pub not_upgraded_so : (fault : Fault) (told : CutFault) → IsToldOfNew fault told
      → StopsVisiting Upgrade_step Upgrade_fails head digest b c fault first last
      → IsUnplaced last.file.calls × (file : List ℕ) × HasToGive a file × IsNotUpgraded told file
  not_upgraded_so fault told said stops =
      let not = not_upgraded fault stops in
      (not.0, not.1, not.2, told_so fault told not.1 said not.3)

-- the upgrade of a store, which is read back
pub upgraded : (head : Head) (records : List Entry) (file identity : List ℕ) → StandsFor head records file
    → version_of head ≡ First
    → ((any : Head) (rs : List Entry) (behind : List ℕ) → IsHead any → AllByRecursion (IsRecord (version_of any)) rs
    → IsStore (stored any rs ++ 0 ∷ behind) any rs (0 ∷ behind))
    → IsUpgradeOf file identity (at_rest (head_for (setup_of head) identity) records)
upgraded head records file identity stands old read = record {
  head = head;
  records = records;
  stands = stands;
  old = old;
  left_is = refl;
  same = λ size. (
    0 ∷ [],
    read (head_for (setup_of head) identity) records []
        (record { limits = stands.1.begins.allowed.limits; identity = size })
        (second_each records
        (subst (λ (v : Version). AllByRecursion (IsRecord v) records) old stands.1.reads.each)),
    shut [] refl,
  );
}

-- a file on which no call was made has no name
pub none_unplaced : (store : StoreFilled) → store.file.calls ≡ [] → IsUnplaced store.file.calls
none_unplaced store none = subst IsUnplaced (sym none) tt
