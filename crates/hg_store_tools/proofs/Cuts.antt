-- A store that is cut, a record at a time.
use Rattle.std.proofs.Common.{◌≡◌, ◌≢◌, ◌⊎◌, inl, inr, ℕ, zero, suc, ◌+◌, ◌<◌, ◌≤◌, List, [], ◌∷◌, ◌++◌, length, take}
use Rattle.std.proofs.Common.{drop, refl, sym, ap, ◌∙◌, subst, arith, append_assoc, length-append, Option, Result, Ok}
use Rattle.std.proofs.Common.{Err, None, Some}
use Rattle.std.specs.List.{AllByRecursion}
use Rattle.std.specs.Io.KnownBytes.{Consumes}
use Rattle.std.specs.Prelude.{IfErr, IfOk, IfSome, OnOk, true}
use Rattle.std.proofs.lemmas.List.{append-nil, drop_all, drop_at, take_all}
use Rattle.hg_store.specs.Entries.{Entry}
use Rattle.hg_store.specs.Files.{digest_behind, stored}
use Rattle.hg_store.specs.Tails.{is_blank}
use Rattle.hg_store.specs.Head.{first_digest, head_bytes, version_of}
use Rattle.hg_store.specs.Pieces.{HasToGive}
use Rattle.hg_store.specs.Records.{IsDamaged, IsEnd, IsRecord, IsTorn, digest_of, frame, frames}
use Rattle.hg_store.specs.declared.head.Head.{Head}
use Rattle.hg_store.specs.declared.head.Version.{Version}
use Rattle.hg_store.specs.declared.record.NoRecord.{NoRecord}
use Rattle.hg_store.specs.declared.record.NoRecord.TheVariants.{Damaged as damaged, End as at_end, Torn as torn}
use Rattle.hg_store_tools.specs.Cutting.{AreNew, AreUnplaced, CutSoFar, CutsNoRecord, CutsRecord, HasCut}
use Rattle.hg_store_tools.specs.Cutting.{HasPlace, IsFront, IsOfFiles, IsStopOf, IsToldAs, IsUncut, StopsSo, joined}
use Rattle.hg_store_tools.specs.Filling.{AddsRecord, Filled, FillsMore, HasRecords, IsFilled, IsUnplaced}
use Rattle.hg_store_tools.specs.Reading.{GivesFrom, HasFront, IsRestOf, IsUnread}
use Rattle.hg_store_tools.specs.Visiting.{Begins, IsUnreadAt, StopsVisiting, Visits, VisitsEach, failed, has_no_begin}
use Rattle.hg_store_tools.specs.Visiting.{unread}
use Rattle.hg_store_tools.specs.declared.cut.CutFault.{CutFault}
use Rattle.hg_store_tools.specs.declared.cut.CutFault.TheVariants.{Kept, New, Store, Tail}
use Rattle.hg_store_tools.specs.declared.fault.Fault.{Fault}
use Rattle.hg_store_tools.specs.declared.fault.Fault.TheVariants.{Damaged, Exists, Failed, Head as HasNoHead, Held}
use Rattle.hg_store_tools.specs.declared.fault.Fault.TheVariants.{Missing, NoBundle, NoMemory, NoPlace, Refused}
use Rattle.hg_store_tools.specs.declared.fault.Fault.TheVariants.{Torn as TornAt, Unsent, Upgraded}
use Rattle.hg_store_tools.specs.declared.fault.StoreEnd.{StoreEnd}
use Rattle.hg_store_tools.specs.declared.fault.StoreEnd.TheVariants.{Whole, Torn}
use Rattle.hg_store_tools.proofs.Files.{any_file, has_front, headless, is_unread_at, whole_file}
use Rattle.hg_store_tools.proofs.Fillings.{stored-push}
use Rattle.hg_store_tools.proofs.Frames.{last_digest-push}

joined-push : (rs : List Entry) (r : Entry) → joined (rs ++ r ∷ []) ≡ joined rs ++ r.bundle
joined-push [] r = append-nil r.bundle
joined-push (q ∷ rs) r =
    ap (λ (l : List ℕ). q.bundle ++ l) (joined-push rs r) ∙ sym (append_assoc q.bundle (joined rs) r.bundle)

take-push : (at : ℕ) (rs : List Entry) (r : Entry) → length rs < at → take at (rs ++ r ∷ []) ≡ take at rs ++ r ∷ []
take-push at rs r less =
    take_all at (rs ++ r ∷ []) (omega (arith, less, length-append rs (r ∷ [])))
    ∙ ap (λ (l : List Entry). l ++ r ∷ []) (sym (take_all at rs (omega (arith, less))))

drop-push : (at : ℕ) (rs : List Entry) (r : Entry) → length rs < at → drop at (rs ++ r ∷ []) ≡ drop at rs
drop-push at rs r less =
    drop_all at (rs ++ r ∷ []) (omega (arith, less, length-append rs (r ∷ [])))
    ∙ sym (drop_all at rs (omega (arith, less)))

take-past : (at : ℕ) (rs : List Entry) (r : Entry) → at ≤ length rs → take at (rs ++ r ∷ []) ≡ take at rs
take-past zero rs r few = refl
take-past (suc at) [] r few = absurd (omega (arith, few))
take-past (suc at) (q ∷ rs) r few = ap (λ (l : List Entry). q ∷ l) (take-past at rs r (omega (arith, few)))

drop-past : (at : ℕ) (rs : List Entry) (r : Entry) → at ≤ length rs → drop at (rs ++ r ∷ []) ≡ drop at rs ++ r ∷ []
drop-past zero rs r few = refl
drop-past (suc at) [] r few = absurd (omega (arith, few))
drop-past (suc at) (q ∷ rs) r few = drop-past at rs r (omega (arith, few))

module _ (version : Version) (at place : ℕ) (entry : Entry) (before after : CutSoFar) (count : after.count ≡ place + 1)
  where
    counted : (records : List Entry) → place ≡ length records → after.count ≡ length (records ++ entry ∷ [])
    counted records is = omega (arith, count, is, length-append records (entry ∷ []))

    -- a record before the place
    pub cuts_before : place < at → AddsRecord version entry before.left after.left → after.kept ≡ before.kept
        → (after.end ≡ after.left.file.end) × (after.digest ≡ after.left.digest)
        → CutsRecord version at place entry before after
    cuts_before less adds same ends head records is here has =
        let few : length records < at = omega (arith, less, here) in
        let all : take at (records ++ entry ∷ []) ≡ records ++ entry ∷ [] =
        take_all at (records ++ entry ∷ []) (omega (arith, few, length-append records (entry ∷ []))) in
        let left : HasRecords head (take at (records ++ entry ∷ [])) after.left =
        subst (λ (rs : List Entry). HasRecords head rs after.left) (sym (take-push at records entry few))
        (adds head (take at records) is has.left) in
        record {
          left = left;
          kept = subst (λ (f : Filled). IsFilled (joined (drop at (records ++ entry ∷ []))) f) (sym same)
              (subst (λ (rs : List Entry). IsFilled (joined rs) before.kept) (sym (drop-push at records entry few)) has.kept);
          count_is = counted records here;
          end_is = ends.0 ∙ left.filled.end_is ∙ ap (λ (rs : List Entry). length (stored head rs)) all;
          digest_is = ends.1 ∙ left.digest_is ∙ ap (digest_behind head) all;
        }

    -- one from the place on
    pub cuts_after : at ≤ place → FillsMore before.kept after.kept entry.bundle → after.left ≡ before.left
        → (after.end ≡ before.end + length (frame version before.digest entry))
        × (after.digest ≡ digest_of version before.digest entry)
        → CutsRecord version at place entry before after
    cuts_after few fills same ends head records is here has =
        let past : at ≤ length records = omega (arith, few, here) in
        let one : frame version before.digest entry ≡ frame (version_of head) (digest_behind head records) entry =
        ap (λ (v : Version). frame v before.digest entry) is
        ∙ ap (λ (d : List ℕ). frame (version_of head) d entry) has.digest_is in
        record {
          left = subst (HasRecords head (take at (records ++ entry ∷ []))) (sym same)
              (subst (λ (rs : List Entry). HasRecords head rs before.left) (sym (take-past at records entry past)) has.left);
          kept = subst (λ (l : List ℕ). IsFilled l after.kept)
              (sym (ap joined (drop-past at records entry past) ∙ joined-push (drop at records) entry))
              (fills (joined (drop at records)) has.kept);
          count_is = counted records here;
          end_is = omega (
            arith,
            ends.0,
            has.end_is,
            ap length one,
            ap length (stored-push head records entry),
            length-append (stored head records) (frame (version_of head) (digest_behind head records) entry),
          );
          digest_is = ends.1 ∙ ap (λ (v : Version). digest_of v before.digest entry) is
              ∙ ap (λ (d : List ℕ). digest_of (version_of head) d entry) has.digest_is
              ∙ sym (last_digest-push (version_of head) (first_digest head) records entry);
        }

-- the same where it was done
pub cuts_before_ok : {X Y : Type 0} (version : Version) (at place : ℕ) (entry : Entry) (before after : CutSoFar)
    (told : Result X Y) → place < at
    → OnOk told (AddsRecord version entry before.left after.left × (after.kept ≡ before.kept)
    × (after.count ≡ place + 1))
    → OnOk told ((after.end ≡ after.left.file.end) × (after.digest ≡ after.left.digest))
    → OnOk told (CutsRecord version at place entry before after)
cuts_before_ok {X} {Y} version at place entry before after (Ok x) less left ends =
    cuts_before version at place entry before after left.2 less left.0 left.1 ends
cuts_before_ok {X} {Y} version at place entry before after (Err y) less left ends = tt

pub cuts_after_ok : {X Y : Type 0} (version : Version) (at place : ℕ) (entry : Entry) (before after : CutSoFar)
    (told : Result X Y) → at ≤ place
    → OnOk told (FillsMore before.kept after.kept entry.bundle × (after.left ≡ before.left)
    × (after.count ≡ place + 1))
    → OnOk told ((after.end ≡ before.end + length (frame version before.digest entry))
    × (after.digest ≡ digest_of version before.digest entry))
    → OnOk told (CutsRecord version at place entry before after)
cuts_after_ok {X} {Y} version at place entry before after (Ok x) few kept ends =
    cuts_after version at place entry before after kept.2 few kept.0 kept.1 ends
cuts_after_ok {X} {Y} version at place entry before after (Err y) few kept ends = tt

module _ (version : Version) (head : Head) (at : ℕ) (is : version ≡ version_of head) where
  abbrev Cut_step : ℕ → Entry → CutSoFar → CutSoFar → Type 0
  Cut_step place entry before after = CutsRecord version at place entry before after

  pub cuts_all : (so_far records : List Entry) (place : ℕ) (first last : CutSoFar) → place ≡ length so_far
      → HasCut head at so_far first → VisitsEach Cut_step place records first last
      → HasCut head at (so_far ++ records) last
  cuts_all so_far [] place first last here has same =
      subst (λ (f : CutSoFar). HasCut head at (so_far ++ []) f) (sym same)
      (subst (λ (rs : List Entry). HasCut head at rs first) (sym (append-nil so_far)) has)
  cuts_all so_far (entry ∷ records) place first last here has visited =
      let more = visited.1 head so_far is here has in
      let next : place + 1 ≡ length (so_far ++ entry ∷ []) = omega (arith, here, length-append so_far (entry ∷ [])) in
      subst (λ (rs : List Entry). HasCut head at rs last) (append_assoc so_far (entry ∷ []) records)
      (cuts_all (so_far ++ entry ∷ []) records (place + 1) visited.0 last next more visited.2)

  pub unplaced_all : (records : List Entry) (last : CutSoFar) → HasCut head at records last → AreUnplaced last
  unplaced_all records last has = (has.kept.unplaced, has.left.filled.unplaced)

-- a file of which a front was read, and what stands after that
front_of : (file : List ℕ) (head : Head) (records : List Entry) (tail : List ℕ) (stop : NoRecord)
    → HasFront file head records tail → StopsSo stop (version_of head) (digest_behind head records) tail
    → IsFront file head records stop tail
front_of file head records tail stop front stops = record {
  behind = frames (version_of head) (first_digest head) records ++ tail;
  begins = record {
    spelled = front.spelled
        ∙ append_assoc (head_bytes head) (frames (version_of head) (first_digest head) records) tail;
    allowed = front.is;
  };
  front = record { each = front.each; spelled = refl; stops = stops };
}

module _ (head : Head) (digest : List ℕ) (a b c : Option (List ℕ)) (begins : Begins a b head digest) (version : Version)
    (is : version ≡ version_of head) (at : ℕ) (first last : CutSoFar) (begun : HasCut head at [] first) where
  abbrev fails : ℕ → Entry → Fault → CutSoFar → CutSoFar → Type 0
  fails place entry fault before after = CutsNoRecord fault before after

  abbrev step : ℕ → Entry → CutSoFar → CutSoFar → Type 0
  step place entry before after = CutsRecord version at place entry before after

  -- the records that were read, and written
  pub record IsWalked : Type 0 where
    pub records : List Entry
    pub piece : List ℕ
    pub mid : Option (List ℕ)
    pub each : AllByRecursion (IsRecord (version_of head)) records
    pub gone : Consumes b mid (frames (version_of head) digest records ++ piece)
    pub has : HasCut head at records last

  by_end : (ending : StoreEnd) → Visits step head digest b c ending first last → IsWalked
  by_end ending visits = record {
    records = visits.records;
    piece = visits.tail;
    mid = c;
    each = visits.each;
    gone = visits.gone;
    has = cuts_all version head at is [] visits.records 0 first last refl begun visits.visited;
  }

  by_damage : (place : ℕ) → StopsVisiting step fails head digest b c (Damaged place) first last → IsWalked
  by_damage place stops = elim stops [
    | unread records tail mid each gone why visited ↦ record {
      records = records;
      piece = tail;
      mid = mid;
      each = each;
      gone = gone;
      has = cuts_all version head at is [] records 0 first last refl begun visited;
    }
    | failed records entry mid each gone visited why ↦
        elim why.0 [
          | inl never ↦ absurd (cc never)
          | inr never ↦ absurd (cc never)
        ]
  ]

  module _ (told : Result StoreEnd Fault) (ok : IfOk told (λ ending. Visits step head digest b c ending first last))
      (err : IfErr told (λ fault. StopsVisiting step fails head digest b c fault first last)) where
    pub is_walked : (stop : NoRecord) → IsStopOf stop told → IsWalked
    is_walked at_end so =
        by_end Whole
        (subst (λ (t : Result StoreEnd Fault). IfOk t (λ ending. Visits step head digest b c ending first last)) so ok)
    is_walked torn so =
        by_end (Torn so.0)
        (subst (λ (t : Result StoreEnd Fault). IfOk t (λ ending. Visits step head digest b c ending first last)) so.1 ok)
    is_walked damaged so =
        by_damage so.0
        (subst
        (λ (t : Result StoreEnd Fault). IfErr t (λ fault. StopsVisiting step fails head digest b c fault first last))
        so.1 err)

  pub walked_unplaced : IsWalked → AreUnplaced last
  walked_unplaced walked = unplaced_all version head at is walked.records last walked.has

  -- what was read of the file, and written
  pub record IsCutAt (bytes : Option (List ℕ)) (stop : NoRecord) (rest : List ℕ) : Type 0 where
    pub file : List ℕ
    pub given : HasToGive bytes file
    pub records : List Entry
    pub front : IsFront file head records stop rest
    pub has : HasCut head at records last

  module _ (walked : IsWalked) (rest : List ℕ) where
    abbrev stood : List ℕ
    stood = stored head walked.records

    -- The records and the rest are the file, where it is known.
    given_so : (bytes : Option (List ℕ)) → GivesFrom 0 bytes a → IsRestOf last.end bytes rest
        → HasToGive bytes (stood ++ rest)
    given_so None from behind = tt
    given_so (Some x) from behind =
        let whole = whole_file head digest a b walked.mid begins walked.records walked.piece walked.each walked.gone in
        let front = has_front head digest a b walked.mid begins walked.records walked.piece walked.each walked.gone in
        let more : List ℕ = walked.piece ++ whole.rest in
        let known : whole.file ≡ x = subst (λ (o : Option (List ℕ)). HasToGive o whole.file) from whole.is in
        let spelled : x ≡ stood ++ more = sym known ∙ front.spelled in
        let back : rest ≡ more = behind ∙ ap (drop last.end) spelled
        ∙ drop_at stood more last.end (sym walked.has.end_is) in
        ap (λ (l : List ℕ). stood ++ l) back ∙ sym spelled

    pub is_cut_at : (bytes : Option (List ℕ)) (stop : NoRecord) → GivesFrom 0 bytes a → IsRestOf last.end bytes rest
        → StopsSo stop version last.digest rest → IsCutAt bytes stop rest
    is_cut_at bytes stop from behind stops = record {
      file = stood ++ rest;
      given = given_so bytes from behind;
      records = walked.records;
      front = front_of (stood ++ rest) head walked.records rest stop
          (record { is = begins.is; each = walked.each; spelled = refl })
          (subst (λ (d : List ℕ). StopsSo stop (version_of head) d rest) walked.has.digest_is
          (subst (λ (v : Version). StopsSo stop v last.digest rest) is stops));
      has = walked.has;
    }

  -- why a file is not cut by a fault of its records; one of a new file is told otherwise
  abbrev IsUncutBy : Fault → List ℕ → Type 0
  IsUncutBy fault file = (fault ≡ Unsent) ⊎ IsUncut (Store fault) file at

  unread_so : (fault : Fault) (file : List ℕ) (records : List Entry) (tail : List ℕ)
      → IsUnreadAt fault (version_of head) (digest_behind head records) (length records) tail
      → ((place : ℕ) → fault ≢ Damaged place) → IsUncutBy fault file
  unread_so (Damaged place) file records tail why other = absurd (other place refl)
  unread_so NoMemory file records tail why other = inr tt
  unread_so Failed file records tail why other = inr tt
  unread_so Missing file records tail why other = absurd why
  unread_so (HasNoHead fault) file records tail why other = absurd why
  unread_so (NoBundle place) file records tail why other = absurd why
  unread_so (Refused place) file records tail why other = absurd why
  unread_so (NoPlace count) file records tail why other = absurd why
  unread_so (TornAt count) file records tail why other = absurd why
  unread_so Upgraded file records tail why other = absurd why
  unread_so Held file records tail why other = absurd why
  unread_so Exists file records tail why other = absurd why
  unread_so Unsent file records tail why other = absurd why

  unsent_so : (fault : Fault) (file : List ℕ) → (fault ≡ Unsent) ⊎ (fault ≡ NoMemory) → IsUncutBy fault file
  unsent_so fault file why = elim why [
    | inl is ↦ inl is
    | inr is ↦ inr (subst (λ (f : Fault). IsUncut (Store f) file at) (sym is) tt)
  ]

  pub not_cut : (fault : Fault) → ((place : ℕ) → fault ≢ Damaged place)
      → StopsVisiting step fails head digest b c fault first last
      → AreUnplaced last × (file : List ℕ) × HasToGive a file × IsUncutBy fault file
  not_cut fault other stops = elim stops [
    | unread records tail mid each gone why visited ↦
        let whole = whole_file head digest a b mid begins records tail each gone in (
          unplaced_all version head at is records last
              (cuts_all version head at is [] records 0 first last refl begun visited),
          whole.file,
          whole.is,
          unread_so fault whole.file records (tail ++ whole.rest)
              (is_unread_at head digest a b mid begins records tail each gone fault why) other,
        )
    | failed records entry mid each gone visited why ↦
        let end = any_file a in (
          why.1 (unplaced_all version head at is records mid
              (cuts_all version head at is [] records 0 first mid refl begun visited)),
          end.0,
          end.1,
          unsent_so fault end.0 why.0,
        )
  ]

  -- as the cut tells it
  told_so : (fault : Fault) (told : CutFault) (file : List ℕ) → IsToldAs fault told → IsUncutBy fault file
      → IsUncut told file at
  told_so fault told file said why = elim said [
    | inl new ↦ elim new.1 [
      | inl is ↦ subst (λ (t : CutFault). IsUncut t file at) (sym is) tt
      | inr is ↦ subst (λ (t : CutFault). IsUncut t file at) (sym is) tt
    ]
    | inr other ↦ elim why [
      | inl is ↦ absurd (other.0 is)
      | inr so ↦ subst (λ (t : CutFault). IsUncut t file at) (sym other.1) so
    ]
  ]

  pub not_cut_so : (fault : Fault) (told : CutFault) → IsToldAs fault told
      → ((place : ℕ) → fault ≢ Damaged place) → StopsVisiting step fails head digest b c fault first last
      → AreUnplaced last × (file : List ℕ) × HasToGive a file × IsUncut told file at
  not_cut_so fault told said other stops =
      let not = not_cut fault other stops in
      (not.0, not.1, not.2, told_so fault told not.1 said not.3)

  pub not_cut_told : (told : Result StoreEnd Fault)
      → IfErr told (λ fault. StopsVisiting step fails head digest b c fault first last) → (fault : Fault) → told ≡ Err fault
      → ((place : ℕ) → fault ≢ Damaged place) → (by : CutFault) → IsToldAs fault by
      → AreUnplaced last × (file : List ℕ) × HasToGive a file × IsUncut by file at
  not_cut_told told err fault same other by said =
      not_cut_so fault by said other
      (subst
      (λ (t : Result StoreEnd Fault). IfErr t (λ fault. StopsVisiting step fails head digest b c fault first last)) same
      err)

  module _ (bytes : Option (List ℕ)) (stop : NoRecord) (rest seen : List ℕ) (seen_is : seen ≡ rest) (count : ℕ)
      (same : count ≡ last.count) (cut : IsCutAt bytes stop rest) where
    -- the place is there
    pub cut_ok : HasPlace at count stop seen
        → (file : List ℕ) × HasToGive bytes file × (found : Head) × (records : List Entry)
        × IsFront file found records stop rest × HasPlace at (length records) stop rest × HasCut found at records last
    cut_ok place = (
      cut.file,
      cut.given,
      head,
      cut.records,
      cut.front,
      subst (λ (n : ℕ). HasPlace at n stop rest) (same ∙ cut.has.count_is)
          (subst (HasPlace at count stop) seen_is place),
      cut.has,
    )

    -- it is not
    pub no_place : (count < at) ⊎ ((at ≡ count) × (stop ≡ at_end) × (is_blank seen ≡ true))
        → AreUnplaced last × (file : List ℕ) × HasToGive bytes file × IsUncut (Store (NoPlace count)) file at
    no_place behind = (
      unplaced_all version head at is cut.records last cut.has,
      cut.file,
      cut.given,
      record {
        head = head;
        records = cut.records;
        stop = stop;
        tail = rest;
        front = cut.front;
        count_is = same ∙ cut.has.count_is;
        behind = subst
            (λ (l : List ℕ). (count < at) ⊎ ((at ≡ count) × (stop ≡ at_end) × (is_blank l ≡ true))) seen_is behind;
      },
    )

-- a reader from the front of a file gives the file
pub from_front : (a bytes : Option (List ℕ)) → GivesFrom 0 bytes a → (file : List ℕ) → HasToGive a file
    → HasToGive bytes file
from_front a None from file is = tt
from_front a (Some x) from file is = subst (λ (o : Option (List ℕ)). HasToGive o file) from is

-- a fault of the files themselves
pub of_files : (fault : CutFault) (file : List ℕ) (at : ℕ) → IsOfFiles fault → IsUncut fault file at
of_files (Tail whole fault) file at is = absurd is
of_files (Kept fault) file at is = tt
of_files New file at is = tt
of_files (Store NoMemory) file at is = tt
of_files (Store Missing) file at is = absurd is
of_files (Store (HasNoHead fault)) file at is = absurd is
of_files (Store (Damaged place)) file at is = absurd is
of_files (Store (NoBundle place)) file at is = absurd is
of_files (Store (Refused place)) file at is = absurd is
of_files (Store (NoPlace count)) file at is = absurd is
of_files (Store (TornAt count)) file at is = absurd is
of_files (Store Upgraded) file at is = absurd is
of_files (Store Held) file at is = absurd is
of_files (Store Exists) file at is = absurd is
of_files (Store Failed) file at is = absurd is
of_files (Store Unsent) file at is = absurd is

-- a file without a head
pub headless_so : (fault : Fault) (file : List ℕ) (at : ℕ) → IsUnread fault file → ((place : ℕ) → fault ≢ Damaged place)
    → IsUncut (Store fault) file at
headless_so (HasNoHead fault) file at why other = why
headless_so NoMemory file at why other = tt
headless_so Failed file at why other = tt
headless_so (Damaged place) file at why other = absurd (other place refl)
headless_so Missing file at why other = absurd why
headless_so (NoBundle place) file at why other = absurd why
headless_so (Refused place) file at why other = absurd why
headless_so (NoPlace count) file at why other = absurd why
headless_so (TornAt count) file at why other = absurd why
headless_so Upgraded file at why other = absurd why
headless_so Held file at why other = absurd why
headless_so Exists file at why other = absurd why
headless_so Unsent file at why other = absurd why

not_damaged : (fault : Fault) (a b : Option (List ℕ)) → has_no_begin fault a b → (place : ℕ) → fault ≢ Damaged place
not_damaged fault a b none place is = subst (λ (f : Fault). has_no_begin f a b) is none

pub not_begun : (fault : Fault) (a b : Option (List ℕ)) (at : ℕ) → has_no_begin fault a b
    → (file : List ℕ) × HasToGive a file × IsUncut (Store fault) file at
not_begun fault a b at none =
    let end = headless fault a b none in
    (end.0, end.1, headless_so fault end.0 at end.2 (not_damaged fault a b none))

pub not_made : (fault : CutFault) (a : Option (List ℕ)) (at : ℕ) → IsOfFiles fault
    → (file : List ℕ) × HasToGive a file × IsUncut fault file at
not_made fault a at is =
    let end = any_file a in
    (end.0, end.1, of_files fault end.0 at is)

-- two files on which no call was made have no names
pub none_unplaced : (files : CutSoFar) → AreNew files → AreUnplaced files
none_unplaced files none = (subst IsUnplaced (sym none.0) tt, subst IsUnplaced (sym none.1) tt)

-- a store of which no reader was had
pub unread_device : (fault : Fault) (bytes : Option (List ℕ)) (at : ℕ) → (fault ≡ Failed) ⊎ (fault ≡ NoMemory)
    → (file : List ℕ) × HasToGive bytes file × IsUncut (Store fault) file at
unread_device fault bytes at why =
    let end = any_file bytes in (
      end.0,
      end.1,
      elim why [
        | inl is ↦ subst (λ (f : Fault). IsUncut (Store f) end.0 at) (sym is) tt
        | inr is ↦ subst (λ (f : Fault). IsUncut (Store f) end.0 at) (sym is) tt
      ],
    )

-- what stands where no record was read
pub stops_so : (stop : NoRecord) (version : Version) (digest rest : List ℕ) → (stop ≡ at_end → IsEnd rest)
    → (stop ≡ torn → IsTorn version rest) → (stop ≡ damaged → IsDamaged version digest rest)
    → StopsSo stop version digest rest
stops_so at_end version digest rest end is_torn is_damaged = end refl
stops_so torn version digest rest end is_torn is_damaged = is_torn refl
stops_so damaged version digest rest end is_torn is_damaged = is_damaged refl

-- the rest of a file, where it is known
pub rest_of : (place : ℕ) (bytes given : Option (List ℕ)) (none rest : List ℕ) → none ≡ [] → GivesFrom place bytes given
    → IfSome given (λ (x : List ℕ). rest ≡ none ++ x) → IsRestOf place bytes rest
rest_of place None given none rest empty from read = tt
rest_of place (Some x) given none rest empty from read =
    subst (λ (o : Option (List ℕ)). IfSome o (λ (y : List ℕ). rest ≡ none ++ y)) from read
    ∙ ap (λ (l : List ℕ). l ++ drop place x) empty
