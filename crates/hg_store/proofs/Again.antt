-- Gates that are written once more.
use Rattle.std.proofs.Common.{◌≡◌, ◌⊎◌, inl, inr, ℕ, zero, suc, ◌+◌, ◌-◌, ◌<◌, ◌≤◌, ◌^◌, Bool, true, false, List, []}
use Rattle.std.proofs.Common.{◌∷◌, ◌++◌, length, take, drop, get_or}
use Rattle.std.proofs.Common.{refl, sym, ap, ◌∙◌, subst, arith, append_assoc, length-append, take-append-drop}
use Rattle.std.proofs.Common.{length-drop}
use Rattle.std.proofs.lemmas.List.{take_at, drop_at, take-append-le, get_or_append_left, get_or_default, get_or_push}
use Rattle.std.proofs.lemmas.Grind.{get_or_after_one}
use Rattle.std.proofs.lemmas.Bool.{cases_lt}
use Rattle.std.specs.Prelude.{Result, Ok, Err, MatchResult, OnOk}
use Rattle.hg_store.specs.Calls.{Continue, Event, FileState, LeftSince, MayLeave, after_sync, gave_up, state_of}
use Rattle.hg_store.specs.Calls.{synced, wrote}
use Rattle.hg_store.specs.Device.{Only}
use Rattle.hg_store.specs.Entries.{Entry}
use Rattle.hg_store.specs.Files.{digest_behind, stored}
use Rattle.hg_store.specs.Again.{AreOpenedAgain, HasGates, IsAmong, IsStill}
use Rattle.hg_store.specs.FileLaws.{more_continue}
use Rattle.hg_store.specs.Head.{version_of}
use Rattle.hg_store.specs.Log.{at_rest}
use Rattle.hg_store.specs.Records.{frames, open_gate}
use Rattle.hg_store.specs.declared.head.Head.{Head}
use Rattle.hg_store.specs.declared.head.Version.{Version}
use Rattle.hg_store.specs.declared.head.Version.TheVariants.{Second}
use Rattle.hg_store.proofs.FileSteps.{write_leaves}
use Rattle.hg_store.proofs.Frames.{stored-append}

-- at first
pub still_first : (calls : List Event) → Only (state_of calls).seen (MayLeave (state_of calls)) → IsStill calls calls
still_first calls only = record {
  more = ([], refl);
  same = refl;
  durable = only;
  any_moment = λ t left le may. inl may;
}

-- one call more
still_more : (before now : List Event) (call : Event) → IsStill before now
    → (state_of (call ∷ now)).seen ≡ (state_of before).seen
    → ((left : List ℕ) → MayLeave (state_of (call ∷ now)) left → left ≡ (state_of before).seen)
    → IsStill before (call ∷ now)
still_more before now call still same only = record {
  more = (call ∷ still.more.0, ap (λ (l : List Event). call ∷ l) still.more.1);
  same = same;
  durable = only;
  any_moment = moments;
}
  where
    moments : (t : ℕ) (left : List ℕ) → t ≤ length before → LeftSince (call ∷ now) t left
        → LeftSince before t left ⊎ (left ≡ (state_of before).seen)
    moments t left le (inl may) = inr (only left may)
    moments t left le (inr past) = still.any_moment t left le past.1

-- a sync leaves nothing else either
only_synced : (failed : Bool) (state : FileState) (file : List ℕ) → state.seen ≡ file
    → ((left : List ℕ) → MayLeave state left → left ≡ file) → (left : List ℕ)
    → MayLeave (after_sync failed state) left → left ≡ file
only_synced false state file same only left (inl is) = is ∙ same
only_synced false state file same only left (inr is) = is ∙ same
only_synced true state file same only left may = only left may

seen_synced : (failed : Bool) (state : FileState) → (after_sync failed state).seen ≡ state.seen
seen_synced false state = refl
seen_synced true state = refl

-- a byte that stands in a file, written there again
stands_again : (front rest file : List ℕ) (at byte : ℕ) → file ≡ front ++ byte ∷ rest → at ≡ length front
    → take at file ++ (byte ∷ []) ++ drop (at + 1) file ≡ file
stands_again front rest file at byte is place =
    let both : file ≡ (front ++ byte ∷ []) ++ rest = is ∙ sym (append_assoc front (byte ∷ []) rest) in
    let size : length (front ++ byte ∷ []) ≡ at + 1 = omega (arith, length-append front (byte ∷ []), place) in
    let before : take at file ≡ front = ap (take at) is ∙ take_at front (byte ∷ rest) at (sym place) in
    let behind : drop (at + 1) file ≡ rest = ap (drop (at + 1)) both ∙ drop_at (front ++ byte ∷ []) rest (at + 1) size in
    ap (λ (l : List ℕ). l ++ (byte ∷ []) ++ drop (at + 1) file) before
    ∙ ap (λ (l : List ℕ). (front ++ byte ∷ []) ++ l) behind ∙ sym both

-- an open gate stands at a place
abbrev pub IsGateAt : List ℕ → ℕ → Type 0
IsGateAt file at = (front : List ℕ) × (rest : List ℕ) × (file ≡ front ++ 255 ∷ rest) × (at ≡ length front)

module _ (before now : List Event) (still : IsStill before now) where
  file : List ℕ
  file = (state_of before).seen

  module _ (at : ℕ) (gate : IsGateAt (state_of before).seen at) where
    written : (seen : List ℕ) → seen ≡ (state_of before).seen
        → take at seen ++ (255 ∷ []) ++ drop (at + 1) seen ≡ (state_of before).seen
    written seen same =
        ap (λ (l : List ℕ). take at l ++ (255 ∷ []) ++ drop (at + 1) l) same
        ∙ stands_again gate.0 gate.1 (state_of before).seen at 255 gate.2 gate.3

    within : at ≤ length (state_of now).seen
    within = omega (
      arith,
      ap length still.same,
      ap length gate.2,
      gate.3,
      length-append gate.0 (255 ∷ gate.1),
    )

    left_of : (ok : Bool) (left : List ℕ) → MayLeave (state_of (wrote at (255 ∷ []) ok ∷ now)) left
        → left ≡ (state_of before).seen
    left_of ok left may =
        let step = write_leaves now at (255 ∷ []) ok within left may in
        let old : step.0 ≡ (state_of before).seen = still.durable step.0 step.1 in
        elim (step.2.one_byte refl) [
          | inl same ↦ same ∙ old
          | inr held ↦ held ∙ written step.0 old
        ]

    seen_of : (ok : Bool) → (state_of (wrote at (255 ∷ []) ok ∷ now)).seen ≡ (state_of before).seen
    seen_of true = written (state_of now).seen still.same
    seen_of false = still.same

    pub wrote_again : (ok : Bool) → IsStill before (wrote at (255 ∷ []) ok ∷ now)
    wrote_again ok = still_more before now (wrote at (255 ∷ []) ok) still (seen_of ok) (left_of ok)

  pub gave_up_again : IsStill before (gave_up ∷ now)
  gave_up_again = still_more before now gave_up still still.same still.durable

  pub synced_again : (ok : Bool) → IsStill before (synced ok ∷ now)
  synced_again true =
      still_more before now (synced true) still (seen_synced (state_of now).failed (state_of now) ∙ still.same)
      (only_synced (state_of now).failed (state_of now) (state_of before).seen still.same still.durable)
  synced_again false = still_more before now (synced false) still still.same still.durable

-- the first of some records has an open gate
first_gate : (version : Version) (digest : List ℕ) (rs : List Entry) → 0 < length rs
    → (rest : List ℕ) × (frames version digest rs ≡ open_gate version ∷ rest)
first_gate version digest [] some = absurd (omega (arith, some))
first_gate version digest (r ∷ rs) some = (drop 1 (frames version digest (r ∷ rs)), refl)

module _ (head : Head) (records : List Entry) (version : version_of head ≡ Second) where
  -- the record at a place has an open gate
  pub gate_at : (file : List ℕ) (k : ℕ) → file ≡ at_rest head records → k < length records
      → IsGateAt file (length (stored head (take k records)))
  gate_at file k is less =
      let front : List ℕ = stored head (take k records) in
      let some : 0 < length (drop k records) = omega (arith, less, length-drop {A = Entry} k records) in
      let first = first_gate (version_of head) (digest_behind head (take k records)) (drop k records) some in
      let split : stored head records ≡ front ++ open_gate (version_of head) ∷ first.0 =
      ap (stored head) (sym (take-append-drop {A = Entry} k records))
      ∙ stored-append head (take k records) (drop k records)
      ∙ ap (λ (l : List ℕ). front ++ l) first.1 in (
        front,
        first.0 ++ 0 ∷ [],
        is ∙ ap (λ (l : List ℕ). l ++ 0 ∷ []) (split ∙ ap (λ (v : Version). front ++ open_gate v ∷ first.0) version)
            ∙ append_assoc front (255 ∷ first.0) (0 ∷ []),
        refl,
      )

-- ---- where the gates of the last records stand

pub no_gates : (head : Head) → HasGates head [] []
no_gates head = record {
  skipped = 0;
  all = refl;
  enough = inl refl;
  each = λ k place few is. absurd (omega (arith, few));
}

-- the place of one, behind that of another
place_more : (head : Head) (records : List Entry) (more : Entry) (places : List ℕ) (at skipped : ℕ)
    → skipped + length places ≡ length records
    → ((k place : ℕ) → k < length places → place ≡ get_or places k place
    → place ≡ length (stored head (take (skipped + k) records)))
    → at ≡ length (stored head records) → (k place : ℕ) → k < length (places ++ at ∷ [])
    → place ≡ get_or (places ++ at ∷ []) k place
    → place ≡ length (stored head (take (skipped + k) (records ++ more ∷ [])))
place_more head records more places at skipped all each at_is k place less is = elim (cases_lt k (length places)) [
  | inl few ↦
      each k place few (is ∙ get_or_append_left places (at ∷ []) place k few)
      ∙ ap (λ (rs : List Entry). length (stored head rs))
      (sym (take-append-le (skipped + k) records (more ∷ []) (omega (arith, few, all))))
  | inr past ↦
      let last : k ≡ length places = omega (arith, past, less, length-append places (at ∷ [])) in
      let whole : skipped + k ≡ length records = omega (arith, last, all) in
      let value : place ≡ at = is ∙ ap (λ (n : ℕ). get_or (places ++ at ∷ []) n place) last
      ∙ get_or_push places at place (length places) refl in
      value ∙ at_is ∙ ap (λ (rs : List Entry). length (stored head rs))
      (sym (take_at records (more ∷ []) (skipped + k) (sym whole)))
]

module _ (head : Head) (records : List Entry) (more : Entry) (places : List ℕ) (at : ℕ)
    (has : HasGates head records places) (at_is : at ≡ length (stored head records)) where
  -- one more, where there are fewer than a batch has
  pub gates_more : length places < 64 → HasGates head (records ++ more ∷ []) (places ++ at ∷ [])
  gates_more few = record {
    skipped = has.skipped;
    all = omega (arith, has.all, length-append places (at ∷ []), length-append records (more ∷ []));
    enough = elim has.enough [
      | inl none ↦ inl none
      | inr many ↦ absurd (omega (arith, few, many))
    ];
    each = place_more head records more places at has.skipped has.all has.each at_is;
  }

  -- one more in the place of the first
  pub gates_moved : 64 ≤ length places → (rest : List ℕ) → rest ≡ drop 1 places
      → HasGates head (records ++ more ∷ []) (rest ++ at ∷ [])
  gates_moved many rest is =
      let size : length rest + 1 ≡ length places = omega (arith, ap length is, length-drop 1 places, many) in
      let all : has.skipped + 1 + length rest ≡ length records = omega (arith, has.all, size) in
      record {
        skipped = has.skipped + 1;
        all = omega (arith, all, length-append rest (at ∷ []), length-append records (more ∷ []));
        enough = inr (omega (arith, many, size, length-append rest (at ∷ [])));
        each = place_more head records more rest at (has.skipped + 1) all
            (λ k place less at_k.
            let further : has.skipped + (1 + k) ≡ has.skipped + 1 + k = omega arith in
            has.each (1 + k) place (omega (arith, less, size))
            (at_k ∙ ap (λ (l : List ℕ). get_or l k place) is ∙ get_or_after_one places k place)
            ∙ ap (λ (n : ℕ). length (stored head (take n records))) further) at_is;
      }

-- where one of them stands
pub place_of : (head : Head) (records : List Entry) (places : List ℕ) (has : HasGates head records places) (k : ℕ)
    → k < length places → get_or places k 0 ≡ length (stored head (take (has.skipped + k) records))
place_of head records places has k less =
    has.each k (get_or places k 0) less (get_or_default places k 0 (get_or places k 0) less)

-- ---- they are written again

-- the gates that were written again so far, but so many of those that are known
pub record Progress (head : Head) (records : List Entry) (skipped : ℕ) (before now : List Event) (left : ℕ) : Type 0
  where
    pub made : List Event
    pub calls : now ≡ made ++ before
    pub still : IsStill before now
    pub each : (k : ℕ) → skipped + left ≤ k → k < length records
        → IsAmong (wrote (length (stored head (take k records))) (255 ∷ []) true) made

pub begun : (head : Head) (records : List Entry) (skipped : ℕ) (calls : List Event) (left : ℕ)
    → Only (state_of calls).seen (MayLeave (state_of calls)) → skipped + left ≡ length records
    → Progress head records skipped calls calls left
begun head records skipped calls left only all = record {
  made = [];
  calls = refl;
  still = still_first calls only;
  each = λ k from less. absurd (omega (arith, from, less, all));
}

module _ (head : Head) (records : List Entry) (skipped : ℕ) (before now : List Event) (left : ℕ)
    (so_far : Progress head records skipped before now left) (version : version_of head ≡ Second)
    (file : (state_of before).seen ≡ at_rest head records) (k : ℕ) (last : left ≡ k + 1)
    (less : skipped + k < length records) (next : ℕ)
    (place_is : next ≡ length (stored head (take (skipped + k) records))) where
  gate : IsGateAt (state_of before).seen next
  gate = subst (IsGateAt (state_of before).seen) (sym place_is)
      (gate_at head records version (state_of before).seen (skipped + k) file less)

  -- one more was written again
  pub one_more : (grown : List Event) → grown ≡ wrote next (255 ∷ []) true ∷ now
      → Progress head records skipped before grown k
  one_more grown grown_is =
      let call : Event = wrote next (255 ∷ []) true in
      let here : wrote (length (stored head (take (skipped + k) records))) (255 ∷ []) true ≡ call =
      ap (λ (n : ℕ). wrote n (255 ∷ []) true) (sym place_is) in
      record {
        made = call ∷ so_far.made;
        calls = grown_is ∙ ap (λ (l : List Event). call ∷ l) so_far.calls;
        still = subst (IsStill before) (sym grown_is) (wrote_again before now so_far.still next gate true);
        each = λ j from under. elim (cases_lt (skipped + k) j) [
          | inl later ↦ inr (so_far.each j (omega (arith, later, last)) under)
          | inr same ↦
              let one : j ≡ skipped + k = omega (arith, from, same) in
              inl (subst (λ (n : ℕ). wrote (length (stored head (take n records))) (255 ∷ []) true ≡ call) (sym one) here)
        ];
      }

  -- the write failed
  pub stopped : (later : List Event) → (later ≡ wrote next (255 ∷ []) false ∷ now) ⊎ (later ≡ gave_up ∷ now)
      → IsStill before later
  stopped later (inl is) = subst (IsStill before) (sym is) (wrote_again before now so_far.still next gate false)
  stopped later (inr is) = subst (IsStill before) (sym is) (gave_up_again before now so_far.still)

-- after a sync, whatever it answered
pub synced_still : {T E : Type 0} (r : Result T E) (before now later : List Event) → IsStill before now
    → MatchResult r (λ _. later ≡ synced true ∷ now)
    (λ _. (later ≡ synced false ∷ now) ⊎ (later ≡ gave_up ∷ now)) → IsStill before later
synced_still (Ok done) before now later still is = subst (IsStill before) (sym is) (synced_again before now still true)
synced_still (Err why) before now later still (inl is) =
    subst (IsStill before) (sym is) (synced_again before now still false)
synced_still (Err why) before now later still (inr is) = subst (IsStill before) (sym is) (gave_up_again before now still)

-- all of them, and the file was synced
pub synced_all : {T E : Type 0} (r : Result T E) (head : Head) (records : List Entry) (places : List ℕ)
    (has : HasGates head records places) (before now later : List Event) (left : ℕ)
    → Progress head records has.skipped before now left → left ≡ 0
    → MatchResult r (λ _. later ≡ synced true ∷ now)
    (λ _. (later ≡ synced false ∷ now) ⊎ (later ≡ gave_up ∷ now)) → OnOk r (AreOpenedAgain head records before later)
synced_all (Ok done) head records places has before now later left so_far none calls = record {
  made = so_far.made;
  calls = calls ∙ ap (λ (l : List Event). synced true ∷ l) so_far.calls;
  each = λ k less near. so_far.each k (elim has.enough [
    | inl all ↦ omega (arith, all, none)
    | inr many ↦ omega (arith, has.all, many, near, none)
  ]) less;
}
synced_all (Err why) head records places has before now later left so_far none calls = tt

-- a file that more calls left as it was
module _ (at_first mid now : List Event) (still : IsStill mid now) (more : Continue at_first mid) where
  pub all_more : Continue at_first now
  all_more = more_continue at_first mid now more still.more

  before : length at_first ≤ length mid
  before = omega (arith, ap length more.1, length-append more.0 at_first)

  -- what holds of all that a crash may have left holds still
  pub after_still : (P : List ℕ → Type 0) → ((left : List ℕ) → LeftSince mid (length at_first) left → P left)
      → (left : List ℕ) → LeftSince now (length at_first) left → P left
  after_still P each left may = elim (still.any_moment (length at_first) left before may) [
    | inl past ↦ each left past
    | inr same ↦ subst P (sym same) (each (state_of mid).seen (inl (inl refl)))
  ]

-- the same of the head that was found
pub again_for : (head other : Head) (records : List Entry) (before now : List Event) → head ≡ other
    → AreOpenedAgain head records before now → AreOpenedAgain other records before now
again_for head other records before now is again =
    subst (λ (h : Head). AreOpenedAgain h records before now) is again
