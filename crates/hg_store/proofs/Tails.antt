-- What stands after the last whole record, and what is lost of it.
use Rattle.std.proofs.Common.{◌≡◌, ◌≢◌, ◌⊎◌, inl, inr, ℕ, zero, suc, ◌+◌, ◌-◌, ◌<◌, ◌≤◌, ◌^◌, List, [], ◌∷◌, length}
use Rattle.std.proofs.Common.{true}
use Rattle.std.proofs.Common.{refl, sym, ap, ◌∙◌, subst, arith, length-append}
use Rattle.hg_store.specs.Calls.{Continue, Event, LeftSince, MayLeave, began, state_of, tail_kept}
use Rattle.hg_store.specs.Device.{LeavesOnly, Only}
use Rattle.hg_store.specs.Entries.{Entry}
use Rattle.hg_store.specs.Files.{IsStore, digest_behind}
use Rattle.hg_store.specs.Head.{version_of}
use Rattle.hg_store.specs.Records.{IsDamaged, IsEnd, IsNext, IsRecord, IsTorn, digest_of, frame, open_gate}
use Rattle.hg_store.specs.Tails.{HidesRecords, IsFull, IsHidingStore, IsKept, IsKeptAtMost, IsTailRefused}
use Rattle.hg_store.specs.Tails.{LosesNothing, PassesBatch, beyond_with, is_blank}
use Rattle.hg_store.specs.declared.head.Head.{Head}
use Rattle.hg_store.specs.declared.head.Version.{Version}
use Rattle.hg_store.specs.declared.head.Version.TheVariants.{First, Second}
use Rattle.std.specs.Prelude.{Result, Ok, Err}
use Rattle.hg_store.specs.declared.record.NoRecord.{NoRecord}
use Rattle.hg_store.specs.declared.record.NoRecord.TheVariants.{Damaged, End, Torn}
use Rattle.hg_store.specs.declared.head.Setup.{Setup}
use Rattle.hg_store.specs.declared.start.StoreFault.{StoreFault}
use Rattle.hg_store.specs.declared.tail.TailFault.{TailFault}
use Rattle.hg_store.specs.Openings.{IsUnopened}
use Rattle.hg_store.specs.declared.tail.TailFault.TheVariants.{Hidden, Unkept, NoMemory}
use Rattle.hg_store.proofs.Frames.{frame_is, length-frame}
use Rattle.std.proofs.Common.{drop}
use Rattle.std.proofs.lemmas.Bool.{cases_lt}
use Rattle.hg_store.proofs.Opens.{only_first}
use Rattle.hg_store.proofs.OneReading.{one_reading_lem, record_or_none}

-- what a walk over records behind gates has found so far: one of them is too many where one of those that are left is
pub record Walks (version : Version) (start tail digest : List ℕ) (count beyond : ℕ) (rest : List ℕ) : Type 0 where
  pub into : (hidden : List Entry) → PassesBatch version digest count beyond hidden rest → HidesRecords version start tail
  pub out : HidesRecords version start tail
      → (hidden : List Entry) × PassesBatch version digest count beyond hidden rest
  pub few : count ≤ 64
  pub small : beyond < 2 ^ 40

pub begun : (version : Version) (start tail : List ℕ) → Walks version start tail start 0 0 tail
begun version start tail = record {
  into = λ hidden passes. (hidden, passes);
  out = λ hides. hides;
  few = omega arith;
  small = omega arith;
}

behind_is : (gate other : ℕ) (behind more rest : List ℕ) → rest ≡ gate ∷ behind → rest ≡ other ∷ more → more ≡ behind
behind_is gate other behind more rest p q =
    let both : other ∷ more ≡ gate ∷ behind = sym q ∙ p in ap (drop 1) both

-- the next record, whatever digest is written for its own
as_digest : (version : Version) (digest bytes : List ℕ) (found : Entry) (after next : List ℕ)
    → IsNext version digest bytes found after next
    → IsNext version digest bytes found after (digest_of version digest found)
as_digest version digest bytes found after next is = record { spelled = is.spelled; is = is.is; digest = refl }

-- a frame is not longer than its numbers can say
pub fits : (version : Version) (digest : List ℕ) (r : Entry) → IsRecord version r
    → length (frame version digest r) < 2 ^ 33
fits First digest r is =
    let size : length r.bundle < 2 ^ 32 = is.0 in
    let named : length r.stamp.name ≡ 0 = is.2 in
    omega (arith, length-frame First digest r, size, named)
fits Second digest r is =
    let size : length r.bundle < 2 ^ 32 = is.0 in
    let named : length r.stamp.name < 2 ^ 8 = is.2 in
    omega (arith, length-frame Second digest r, size, named)

-- how many bytes stand after the first, with one record more
pub grown_first : (count beyond size : ℕ) → count ≡ 0 → beyond ≡ beyond_with count beyond size
grown_first zero beyond size none = refl
grown_first (suc count) beyond size none = absurd (omega (arith, none))

pub grown_later : (count beyond size : ℕ) → count ≢ 0 → beyond + size ≡ beyond_with count beyond size
grown_later zero beyond size some = absurd (some refl)
grown_later (suc count) beyond size some = refl

-- a batch that is not full has few records, with few bytes after its first
pub not_full : (count beyond : ℕ) → (IsFull count beyond → ⊥) → (count < 64) × (beyond ≤ 2 ^ 24)
not_full count beyond room = (few, small)
  where
    few : count < 64
    few = elim (cases_lt count 64) [ inl less ↦ less | inr more ↦ absurd (room (inl more)) ]

    small : beyond ≤ 2 ^ 24
    small = elim (cases_lt (2 ^ 24) beyond) [ inl less ↦ absurd (room (inr less)) | inr more ↦ more ]

-- it stays small
grown_small : (count beyond size : ℕ) → beyond ≤ 2 ^ 24 → size < 2 ^ 33 → beyond_with count beyond size < 2 ^ 40
grown_small zero beyond size few less = omega (arith, few)
grown_small (suc count) beyond size few less = omega (arith, few, less)

-- where no record stands, for whatever reason
pub none_of : {T : Type 0} (r : Result T NoRecord) (version : Version) (digest bytes : List ℕ) → (r ≡ Err End → ⊥)
    → (r ≡ Err Torn → IsTorn version bytes) → (r ≡ Err Damaged → IsDamaged version digest bytes)
    → ((found : T) → r ≡ Ok found → ⊥) → (IsEnd bytes ⊎ IsTorn version bytes) ⊎ IsDamaged version digest bytes
none_of (Ok found) version digest bytes at_end torn damaged none = absurd (none found refl)
none_of (Err End) version digest bytes at_end torn damaged none = absurd (at_end refl)
none_of (Err Torn) version digest bytes at_end torn damaged none = inl (inr (torn refl))
none_of (Err Damaged) version digest bytes at_end torn damaged none = inr (damaged refl)

module _ (version : Version) (start tail digest : List ℕ) (count beyond : ℕ) (rest : List ℕ)
    (has : Walks version start tail digest count beyond rest) where
  -- where no bytes are left
  pub over : length rest ≡ 0 → HidesRecords version start tail → ⊥
  over none hides = let left = has.out hides in at_end left.0 left.1
    where
      at_end : (hidden : List Entry) → PassesBatch version digest count beyond hidden rest → ⊥
      at_end [] passes = absurd passes
      at_end (first ∷ others) passes =
          let spelled : rest ≡ passes.0 ∷ passes.1 = passes.3 in
          absurd (omega (arith, ap length spelled, none))

  module _ (gate : ℕ) (behind : List ℕ) (spelled : rest ≡ gate ∷ behind) where
    -- where no record fits
    pub stopped : (IsEnd (open_gate version ∷ behind) ⊎ IsTorn version (open_gate version ∷ behind))
        ⊎ IsDamaged version digest (open_gate version ∷ behind) → HidesRecords version start tail → ⊥
    stopped none hides = let left = has.out hides in at_stop left.0 left.1
      where
        at_stop : (hidden : List Entry) → PassesBatch version digest count beyond hidden rest → ⊥
        at_stop [] passes = absurd passes
        at_stop (first ∷ others) passes =
            let same : passes.1 ≡ behind = behind_is gate passes.0 behind passes.1 rest spelled passes.3 in
            record_or_none version digest (open_gate version ∷ behind) first passes.2
            (digest_of version digest first)
            (subst (λ (l : List ℕ). IsNext version digest (open_gate version ∷ l) first passes.2
            (digest_of version digest first)) same passes.4) none

    module _ (found : Entry) (after next : List ℕ)
        (is : IsNext version digest (open_gate version ∷ behind) found after next) where
      -- one more, where the batch is full
      pub one_too_many : IsFull count beyond → HidesRecords version start tail
      one_too_many full = has.into (found ∷ [])
          (gate, behind, after, spelled, as_digest version digest (open_gate version ∷ behind) found after next is, inl full)

      pub size_is : length rest - length after ≡ length (frame version digest found)
      size_is = omega (
        arith,
        ap length spelled,
        ap length is.spelled,
        length-append (frame version digest found) after,
      )

      pub shorter : length after < length rest
      shorter = omega (
        arith,
        ap length spelled,
        ap length is.spelled,
        length-append (frame version digest found) after,
        length-frame version digest found,
      )

      -- one more, where it is not
      pub one_more : (IsFull count beyond → ⊥) → (grown : ℕ)
          → grown ≡ beyond_with count beyond (length (frame version digest found)) → count + 1 ≤ 64 → grown < 2 ^ 40
          → Walks version start tail next (count + 1) grown after
      one_more room grown grown_is few small = record {
        into = λ hidden passes. has.into (found ∷ hidden) (
          gate,
          behind,
          after,
          spelled,
          as_digest version digest (open_gate version ∷ behind) found after next is,
          inr (subst (λ (b : ℕ). PassesBatch version (digest_of version digest found) (count + 1) b hidden after) grown_is
              (subst (λ (d : List ℕ). PassesBatch version d (count + 1) grown hidden after) is.digest passes)),
        );
        out = λ hides. let left = has.out hides in rest_of left.0 left.1;
        few = few;
        small = small;
      }
        where
          rest_of : (hidden : List Entry) → PassesBatch version digest count beyond hidden rest
              → (others : List Entry) × PassesBatch version next (count + 1) grown others after
          rest_of [] passes = absurd passes
          rest_of (first ∷ others) passes =
              let same : passes.1 ≡ behind = behind_is gate passes.0 behind passes.1 rest spelled passes.3 in
              let its : IsNext version digest (open_gate version ∷ behind) first passes.2 (digest_of version digest first) =
              subst (λ (l : List ℕ). IsNext version digest (open_gate version ∷ l) first passes.2
              (digest_of version digest first)) same passes.4 in
              let one = frame_is version digest first found passes.2 after its.is is.is (sym its.spelled ∙ is.spelled) in
              elim passes.5 [
                | inl full ↦ absurd (room full)
                | inr more ↦ (
                  others,
                  subst (λ (d : List ℕ). PassesBatch version d (count + 1) grown others after) (sym is.digest)
                      (subst (λ (b : ℕ). PassesBatch version (digest_of version digest found) (count + 1) b others after)
                      (sym grown_is)
                      (subst (λ (l : List ℕ). PassesBatch version (digest_of version digest found) (count + 1)
                      (beyond_with count beyond (length (frame version digest found))) others l) one.1
                      (subst (λ (r : Entry). PassesBatch version (digest_of version digest r) (count + 1)
                      (beyond_with count beyond (length (frame version digest r))) others passes.2) one.0 more))),
                )
              ]

      -- the same by how many bytes are left
      pub next_walk : (IsFull count beyond → ⊥) → (grown : ℕ)
          → grown ≡ beyond_with count beyond (length rest - length after)
          → Walks version start tail next (count + 1) grown after
      next_walk room grown grown_is =
          let size : ℕ = length (frame version digest found) in
          let is_size : grown ≡ beyond_with count beyond size = grown_is ∙ ap (beyond_with count beyond) size_is in
          let bounds = not_full count beyond room in
          let few : count + 1 ≤ 64 = omega (arith, bounds.0) in
          let small : grown < 2 ^ 40 =
          omega (arith, is_size, grown_small count beyond size bounds.1 (fits version digest found is.is)) in
          one_more room grown is_size few small

-- what was kept of the one reading of a file
pub tail_is : (file bytes : List ℕ) (head other : Head) (records others : List Entry) (tail found : List ℕ) (place : ℕ)
    (done : List Event) → bytes ≡ file → IsStore bytes other others found → IsStore file head records tail
    → place ≡ length others → (is_blank found ≡ true) ⊎ IsKept place found done
    → (is_blank tail ≡ true) ⊎ IsKept (length records) tail done
tail_is file bytes head other records others tail found place done is store its at kept =
    let one = one_reading_lem file other head others records found tail
    (subst (λ (f : List ℕ). IsStore f other others found) is store) its in
    subst (λ (l : List ℕ). (is_blank l ≡ true) ⊎ IsKept (length records) l done) one.2
    (subst (λ (n : ℕ). (is_blank found ≡ true) ⊎ IsKept n found done) (at ∙ ap length one.1) kept)

-- it is one of three
pub safe_of : (tail : List ℕ) (place : ℕ) (done : List Event) (C : Type 0)
    → (is_blank tail ≡ true) ⊎ IsKept place tail done → (is_blank tail ≡ true) ⊎ (IsKept place tail done ⊎ C)
safe_of tail place done C (inl blank) = inl blank
safe_of tail place done C (inr kept) = inr (inl kept)

-- what was done in a folder where a tail was kept, or had not to be
pub kept_of : (tail : List ℕ) (place : ℕ) (before done : List Event)
    → ((is_blank tail ≡ true) × (done ≡ before)) ⊎ (done ≡ tail_kept place tail ∷ before)
    → (is_blank tail ≡ true) ⊎ IsKept place tail done
kept_of tail place before done (inl blank) = inl blank.0
kept_of tail place before done (inr kept) = inr (before, kept)

pub at_most : (tail : List ℕ) (place : ℕ) (before done : List Event)
    → ((is_blank tail ≡ true) × (done ≡ before)) ⊎ (done ≡ tail_kept place tail ∷ before) → IsKeptAtMost before done
at_most tail place before done (inl blank) = inl blank.1
at_most tail place before done (inr kept) = inr (place, tail, kept)

-- more records than one batch holds stand in what was read
pub hiding_is : (head : Head) (records : List Entry) (version : Version) (file bytes behind digest : List ℕ)
    (end whole place : ℕ) → bytes ≡ file → IsStore bytes head records (drop end bytes) → behind ≡ drop end bytes
    → version ≡ version_of head → digest ≡ digest_behind head records → place ≡ length records → whole ≡ place
    → HidesRecords version digest behind → IsHidingStore file whole
hiding_is head records version file bytes behind digest end whole place is store back its chained at count hides =
    let found : IsHidingStore bytes whole = record {
      head = head;
      records = records;
      tail = behind;
      store = subst (IsStore bytes head records) (sym back) store;
      count = count ∙ at;
      hides = subst (λ (d : List ℕ). HidesRecords (version_of head) d behind) chained
          (subst (λ (v : Version). HidesRecords v digest behind) its hides);
    } in
    subst (λ (f : List ℕ). IsHidingStore f whole) is found

-- a store is refused for its tail, where that is so
pub refused_as : (fault : TailFault) (file : List ℕ)
    → ((whole : ℕ) → fault ≡ Hidden whole → IsHidingStore file whole) → IsTailRefused fault file
refused_as (Hidden whole) file hides = hides whole refl
refused_as Unkept file hides = tt
refused_as NoMemory file hides = tt

-- what stood after the records is not lost, by what was done with it
pub tail_safe : (file bytes behind : List ℕ) (head other : Head) (records others : List Entry) (tail : List ℕ)
    (end place : ℕ) (before done : List Event) (C : Type 0) → bytes ≡ file → IsStore bytes other others (drop end bytes)
    → behind ≡ drop end bytes → place ≡ length others
    → ((is_blank behind ≡ true) × (done ≡ before)) ⊎ (done ≡ tail_kept place behind ∷ before)
    → IsStore file head records tail → (is_blank tail ≡ true) ⊎ (IsKept (length records) tail done ⊎ C)
tail_safe file bytes behind head other records others tail end place before done C is store back at kept its =
    safe_of tail (length records) done C (tail_is file bytes head other records others tail behind place done is
    (subst (IsStore bytes other others) (sym back) store) its at (kept_of behind place before done kept))

-- and does not hide more records than one batch holds
pub shown_is : (file bytes behind digest : List ℕ) (head : Head) (records : List Entry) (version : Version) (end : ℕ)
    → bytes ≡ file → behind ≡ drop end bytes → version ≡ version_of head → digest ≡ digest_behind head records
    → (HidesRecords version digest behind → ⊥)
    → HidesRecords (version_of head) (digest_behind head records) (drop end file) → ⊥
shown_is file bytes behind digest head records version end is back its chained none hides =
    none (subst (λ (v : Version). HidesRecords v digest behind) (sym its)
    (subst (λ (d : List ℕ). HidesRecords (version_of head) d behind) (sym chained)
    (subst (HidesRecords (version_of head) (digest_behind head records)) (ap (drop end) (sym is) ∙ sym back) hides)))

-- a file that was read, by the calls on it since
module _ (bytes : List ℕ) (before at_first now done : List Event) (read : at_first ≡ began bytes ∷ before)
    (more : Continue at_first now) where
  since : Continue (began bytes ∷ before) now
  since = subst (λ calls. Continue calls now) read more

  moment_is : length before + 1 ≡ length at_first
  moment_is = omega (arith, ap length read)

  -- each byte of it is there, or what it had after its records is 0 or was kept
  pub lost_none : ((head : Head) (records : List Entry) (tail : List ℕ) → IsStore bytes head records tail
      → (is_blank tail ≡ true) ⊎ (IsKept (length records) tail done
      ⊎ ((left : List ℕ) → LeftSince now (length at_first) left → left ≡ bytes)))
      → LosesNothing before now done
  lost_none safe = inr (
    bytes,
    since,
    λ head records tail store. in_calls (length records) tail
        (safe head records tail store),
  )
    where
      in_calls : (place : ℕ) (tail : List ℕ) → (is_blank tail ≡ true) ⊎ (IsKept place tail done
          ⊎ ((left : List ℕ) → LeftSince now (length at_first) left → left ≡ bytes))
          → (is_blank tail ≡ true) ⊎ (IsKept place tail done
          ⊎ ((left : List ℕ) → LeftSince now (length before + 1) left → left ≡ bytes))
      in_calls place tail (inl blank) = inl blank
      in_calls place tail (inr (inl kept)) = inr (inl kept)
      in_calls place tail (inr (inr same)) =
          inr (inr (λ left may. same left (subst (λ n. LeftSince now n left) moment_is may)))

  -- the same, where the file was on the disk when it was read
  pub kept_since : ((head : Head) (records : List Entry) (tail : List ℕ)
      → IsStore (state_of at_first).seen head records tail
      → Only (state_of at_first).seen (MayLeave (state_of at_first))
      → (is_blank tail ≡ true) ⊎ (IsKept (length records) tail done
      ⊎ ((left : List ℕ) → LeftSince now (length at_first) left → left ≡ (state_of at_first).seen)))
      → LosesNothing before now done
  kept_since safe = lost_none (λ head records tail store.
      as_bytes (length records) tail (safe head records tail (subst (λ (f : List ℕ). IsStore f head records tail)
      (sym seen_is) store) (only_first bytes before at_first read)))
    where
      seen_is : (state_of at_first).seen ≡ bytes
      seen_is = ap (λ calls. (state_of calls).seen) read

      as_bytes : (place : ℕ) (tail : List ℕ) → (is_blank tail ≡ true) ⊎ (IsKept place tail done
          ⊎ ((left : List ℕ) → LeftSince now (length at_first) left → left ≡ (state_of at_first).seen))
          → (is_blank tail ≡ true) ⊎ (IsKept place tail done
          ⊎ ((left : List ℕ) → LeftSince now (length at_first) left → left ≡ bytes))
      as_bytes place tail (inl blank) = inl blank
      as_bytes place tail (inr (inl kept)) = inr (inl kept)
      as_bytes place tail (inr (inr same)) = inr (inr (λ left may. same left may ∙ seen_is))

-- all that a crash may have left
pub each_of : {D A B : Type 0} (moment : D → ℕ) (left_since : D → ℕ → List ℕ → Type 0) (old new : D) (P : List ℕ → Type 0)
    → A ⊎ (B ⊎ LeavesOnly moment left_since old new P)
    → A ⊎ (B ⊎ ((left : List ℕ) → left_since new (moment old) left → P left))
each_of moment left_since old new P (inl a) = inl a
each_of moment left_since old new P (inr (inl b)) = inr (inl b)
each_of moment left_since old new P (inr (inr leaves)) = inr (inr leaves.each)

pub later_of : {A B C D : Type 0} → (C → D) → A ⊎ (B ⊎ C) → A ⊎ (B ⊎ D)
later_of f (inl a) = inl a
later_of f (inr (inl b)) = inr (inl b)
later_of f (inr (inr c)) = inr (inr (f c))

-- no byte is lost of a file that was read, and of which the one tail is 0 or was kept
pub lost_is : (bytes : List ℕ) (before now done : List Event) (head : Head) (records : List Entry) (tail : List ℕ)
    (place : ℕ) → Continue (began bytes ∷ before) now → IsStore bytes head records tail → place ≡ length records
    → (is_blank tail ≡ true) ⊎ IsKept place tail done → LosesNothing before now done
lost_is bytes before now done head records tail place more store count kept = inr (
  bytes,
  more,
  λ its others other its_store. safe_of other (length others) done
      ((left : List ℕ) → LeftSince now (length before + 1) left → left ≡ bytes)
      (tail_is bytes bytes its head others records other tail place done refl store its_store count kept),
)

-- the same of a file on which no call was made before
pub lost_of_none : (before now done : List Event) → before ≡ [] → LosesNothing before now done
    → LosesNothing [] now done
lost_of_none before now done none lost = subst (λ (l : List Event). LosesNothing l now done) none lost

pub unopened_of_none : (fault : StoreFault) (setup : Setup) (bytes : List ℕ) (before now : List Event) → before ≡ []
    → IsUnopened fault setup bytes before now → IsUnopened fault setup bytes [] now
unopened_of_none fault setup bytes before now none why =
    subst (λ (l : List Event). IsUnopened fault setup bytes l now) none why
