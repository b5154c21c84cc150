-- A store all of which was read, while its end is brought in order.
use Rattle.std.proofs.Common.{◌≡◌, ◌∙◌, ℕ, List, ◌∷◌, ◌++◌, ap, inl, length, refl, subst, sym}
use Rattle.std.specs.List.{AllByRecursion}
use Rattle.hg_store.specs.Again.{HasGates}
use Rattle.hg_store.specs.Calls.{Event, began, state_of}
use Rattle.hg_store.specs.Device.{Only}
use Rattle.hg_store.specs.Entries.{Entry}
use Rattle.hg_store.specs.Files.{IsStore, StandsFor, digest_behind, stored}
use Rattle.hg_store.specs.Head.{IsHead, head_for, version_of}
use Rattle.hg_store.specs.Log.{IsSettledAt, at_rest}
use Rattle.hg_store.specs.Records.{IsEnd, IsRecord}
use Rattle.hg_store.specs.Tails.{HidesRecords, IsHidingStore}
use Rattle.hg_store.specs.code.Batches.{EndsAt, IsWhole}
use Rattle.hg_store.specs.declared.head.Head.{Head}
use Rattle.hg_store.specs.declared.head.Setup.{Setup}
use Rattle.hg_store.specs.declared.head.Version.TheVariants.{Second}
use Rattle.hg_store.proofs.OneByOne.{spelled_more, store_of}
use Rattle.hg_store.proofs.Repair.{ends_as}

module _ (bytes : List ℕ) (before at_first : List Event) (read : at_first ≡ began bytes ∷ before) (head : Head)
    (records : List Entry) (end : ℕ) (gates : List ℕ) (whole : IsWhole head records end gates bytes) where
  seen_is : bytes ≡ (state_of at_first).seen
  seen_is = sym (ap (λ calls. (state_of calls).seen) read)

  -- the records end there
  pub ends_here : EndsAt head records end (state_of at_first).seen
  ends_here = subst (EndsAt head records end) seen_is whole.ends

  -- and so do all that it stands for
  pub ends_for : (its : Head) (others : List Entry) → StandsFor its others (state_of at_first).seen
      → EndsAt its others end (state_of at_first).seen
  ends_for its others stands =
      ends_as its head others records (state_of at_first).seen (state_of at_first).seen (state_of at_first).seen
      ends_here.stands.0 end stands refl ends_here.stands.1 ends_here.place refl

  -- once a shut gate stands there, and all is on the disk
  pub settled_is : {D : Type 0} (seen : D → List ℕ) (may_leave : D → List ℕ → Type 0) (device : D)
      → seen device ≡ at_rest head records → Only (seen device) (may_leave device)
      → IsSettledAt seen may_leave head records device end (digest_behind head records)
  settled_is seen may_leave device rests durable = record {
    allowed = whole.ends.stands.1.begins.allowed;
    version = whole.version;
    each = whole.ends.stands.1.reads.each;
    file = rests;
    place = whole.ends.place;
    chained = refl;
    durable = durable;
  }

-- a store of version 2 that was read to its end is whole
pub whole_of : (setup : Setup) (identity : List ℕ) (records : List Entry) (bytes old more tail grown : List ℕ) (end : ℕ)
    (places gates : List ℕ) → IsHead (head_for setup identity) → AllByRecursion (IsRecord Second) records
    → bytes ≡ stored (head_for setup identity) records ++ old → tail ≡ old ++ more → grown ≡ bytes ++ more → IsEnd tail
    → end ≡ length (stored (head_for setup identity) records) → gates ≡ places
    → HasGates (head_for setup identity) records places
    → IsWhole (head_for setup identity) records end gates grown
whole_of setup identity records bytes old more tail grown end places gates allowed each is tail_is grown_is ends place
    same kept =
    let head : Head = head_for setup identity in
    record {
      version = refl;
      ends = record {
        stands = (
          tail,
          store_of head records grown tail allowed each
              (spelled_more (stored head records) bytes old more tail grown is tail_is grown_is) (inl ends),
          ends,
        );
        place = place;
      };
      kept = subst (HasGates head records) (sym same) kept;
    }

-- more records than one batch holds stand behind those that were read
pub hiding_of : (head : Head) (records : List Entry) (bytes tail shown digest : List ℕ) (count place : ℕ)
    → IsStore bytes head records tail → shown ≡ tail → digest ≡ digest_behind head records → place ≡ length records
    → count ≡ place → HidesRecords (version_of head) digest shown → IsHidingStore bytes count
hiding_of head records bytes tail shown digest count place store same chained all is hides = record {
  head = head;
  records = records;
  tail = tail;
  store = store;
  count = is ∙ all;
  hides = subst (HidesRecords (version_of head) (digest_behind head records)) same
      (subst (λ (d : List ℕ). HidesRecords (version_of head) d shown) chained hides);
}
