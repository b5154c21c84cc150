-- A new file that is written, a piece at a time.
use Rattle.std.proofs.Common.{◌≡◌, inl, inr, ℕ, zero, suc, ◌+◌, ◌<◌, Bool, true, false, List, [], ◌∷◌, ◌++◌}
use Rattle.std.proofs.Common.{length, take, drop, sym, ap, ◌∙◌, subst, arith, append_assoc, length-append}
use Rattle.std.proofs.lemmas.List.{append-nil, drop_all, take_all}
use Rattle.hg_store.specs.Calls.{Event, FileState, IsPlacedFrom, IsPlacedWhole, IsWholeAt, MayLeave}
use Rattle.hg_store.specs.Calls.{after_sync, placed, shortened, state_from, synced, wrote}
use Rattle.hg_store.specs.declared.head.Head.{Head}
use Rattle.hg_store.specs.declared.head.Version.{Version}
use Rattle.hg_store.specs.Entries.{Entry}
use Rattle.hg_store.specs.Files.{digest_behind, stored}
use Rattle.hg_store.specs.Head.{first_digest, head_bytes, version_of}
use Rattle.hg_store.specs.Records.{digest_of, frame, frames}
use Rattle.hg_store_tools.specs.Filling.{AddsRecord, Filled, FillsMore, HasRecords, IsFilled, IsUnplaced, StoreFilled}
use Rattle.hg_store_tools.proofs.Frames.{frames-push, last_digest-push}

whole_before : (n : ℕ) (bytes : List ℕ) (file : FileState) → n < 5 → IsWholeAt n bytes file
whole_before zero bytes file less = tt
whole_before (suc zero) bytes file less = tt
whole_before (suc (suc zero)) bytes file less = tt
whole_before (suc (suc (suc zero))) bytes file less = tt
whole_before (suc (suc (suc (suc zero)))) bytes file less = tt
whole_before (suc (suc (suc (suc (suc n))))) bytes file less = absurd (omega (arith, less))

unplaced_from : (held bytes : List ℕ) (calls : List Event) → IsUnplaced calls → IsPlacedFrom held bytes calls
unplaced_from held bytes [] none = tt
unplaced_from held bytes (call ∷ earlier) none = (
  whole_before call.0 bytes (state_from held earlier) none.0,
  unplaced_from held bytes earlier none.1,
)

-- a file without a name has not got it too early
pub unplaced_whole : (bytes : List ℕ) (calls : List Event) → IsUnplaced calls → IsPlacedWhole bytes calls
unplaced_whole bytes calls none held = unplaced_from held bytes calls none

pub cleared : (file : Filled) (none : List Event) → none ≡ [] → file.calls ≡ shortened 0 true ∷ none → file.end ≡ 0
    → IsFilled [] file
cleared file none empty calls end =
    let is : file.calls ≡ shortened 0 true ∷ [] = calls ∙ ap (λ (l : List Event). shortened 0 true ∷ l) empty in
    record {
      sound = λ held. ap (λ (l : List Event). (state_from held l).failed) is;
      seen = λ held. ap (λ (l : List Event). (state_from held l).seen) is;
      unplaced = subst IsUnplaced (sym is) (omega arith, tt);
      end_is = end;
    }

pub one_more : (after before : List Event) (call : Event) → after ≡ call ∷ before → call.0 < 5 → IsUnplaced before
    → IsUnplaced after
one_more after before call is less none = subst IsUnplaced (sym is) (less, none)

module _ (before after : Filled) (bytes : List ℕ) (calls : after.calls ≡ wrote before.end bytes true ∷ before.calls)
    (end : after.end ≡ before.end + length bytes) where
  written : (so_far seen : List ℕ) → seen ≡ so_far → before.end ≡ length so_far
      → (take before.end seen ++ bytes) ++ drop (before.end + length bytes) seen ≡ so_far ++ bytes
  written so_far seen is long =
      ap (λ (l : List ℕ). (take before.end l ++ bytes) ++ drop (before.end + length bytes) l) is
      ∙ ap (λ (l : List ℕ). (l ++ bytes) ++ drop (before.end + length bytes) so_far)
      (take_all before.end so_far (omega (arith, long)))
      ∙ ap (λ (l : List ℕ). (so_far ++ bytes) ++ l) (drop_all (before.end + length bytes) so_far (omega (arith, long)))
      ∙ append-nil (so_far ++ bytes)

  pub filled_more : FillsMore before after bytes
  filled_more so_far is = record {
    sound = λ held. ap (λ (l : List Event). (state_from held l).failed) calls ∙ is.sound held;
    seen = λ held. ap (λ (l : List Event). (state_from held l).seen) calls
        ∙ written so_far (state_from held before.calls).seen (is.seen held) is.end_is;
    unplaced = subst IsUnplaced (sym calls) (omega arith, is.unplaced);
    end_is = omega (arith, end, is.end_is, length-append so_far bytes);
  }

after_synced : (failed : Bool) (file : FileState) → failed ≡ false → (left : List ℕ)
    → MayLeave (after_sync failed file) left → left ≡ file.seen
after_synced false file sound left may = elim may [
  | inl is ↦ is
  | inr is ↦ is
]
after_synced true file sound left may = absurd (cc sound)

-- the file is synced, and then gets its name
pub placed_whole : (bytes : List ℕ) (file : Filled) (calls : List Event) (ok : Bool) → IsFilled bytes file
    → calls ≡ placed ok ∷ synced true ∷ file.calls → IsPlacedWhole bytes calls
placed_whole bytes file calls ok is calls_are =
    subst (IsPlacedWhole bytes) (sym calls_are) (λ held. (
      λ left may. after_synced (state_from held file.calls).failed (state_from held file.calls) (is.sound held) left may
          ∙ is.seen held,
      (tt, unplaced_from held bytes file.calls is.unplaced),
    ))

pub unsynced_whole : (bytes : List ℕ) (file : Filled) (calls : List Event) → IsFilled bytes file
    → calls ≡ synced false ∷ file.calls → IsPlacedWhole bytes calls
unsynced_whole bytes file calls is calls_are =
    unplaced_whole bytes calls (one_more calls file.calls (synced false) calls_are (omega arith) is.unplaced)

-- ---- a store

pub has_head : (head : Head) (file : Filled) (digest bytes : List ℕ) → bytes ≡ head_bytes head
    → digest ≡ first_digest head → IsFilled bytes file → HasRecords head [] (record { file = file; digest = digest })
has_head head file digest bytes is first filled = record {
  filled = subst (λ (l : List ℕ). IsFilled l file) (is ∙ sym (append-nil (head_bytes head))) filled;
  digest_is = first;
}

pub stored-push : (head : Head) (records : List Entry) (entry : Entry)
    → stored head (records ++ entry ∷ [])
    ≡ stored head records ++ frame (version_of head) (digest_behind head records) entry
stored-push head records entry =
    ap (λ (l : List ℕ). head_bytes head ++ l) (frames-push (version_of head) (first_digest head) records entry)
    ∙ sym (append_assoc (head_bytes head) (frames (version_of head) (first_digest head) records)
    (frame (version_of head) (digest_behind head records) entry))

pub adds_record : (version : Version) (entry : Entry) (before after : StoreFilled) (bytes : List ℕ)
    → FillsMore before.file after.file bytes → bytes ≡ frame version before.digest entry
    → after.digest ≡ digest_of version before.digest entry → AddsRecord version entry before after
adds_record version entry before after bytes more is next head records same has = record {
  filled = subst (λ (l : List ℕ). IsFilled l after.file)
      (ap (λ (l : List ℕ). stored head records ++ l)
      (is ∙ ap (λ (v : Version). frame v before.digest entry) same
      ∙ ap (λ (d : List ℕ). frame (version_of head) d entry) has.digest_is)
      ∙ sym (stored-push head records entry))
      (more (stored head records) has.filled);
  digest_is = next ∙ ap (λ (v : Version). digest_of v before.digest entry) same
      ∙ ap (λ (d : List ℕ). digest_of (version_of head) d entry) has.digest_is
      ∙ sym (last_digest-push (version_of head) (first_digest head) records entry);
}
