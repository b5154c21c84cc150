-- Files that are brought in, one after the other.
use Rattle.std.proofs.Common.{ℕ, ◌≡◌, ◌+◌, ◌<◌, ◌≤◌, List, [], ◌∷◌, ◌++◌, refl, sym, ◌∙◌, ap, subst, arith}
use Rattle.std.proofs.Common.{Some, None}
use Rattle.std.proofs.Common.{length, map, take, drop, set, get_or, append_assoc, length-append, length-drop}
use Rattle.std.proofs.Common.{take-append-drop}
use Rattle.std.proofs.lemmas.List.{append-nil, drop-set-lt, drop_more, get_or-map, length-map, map-set}
use Rattle.std.proofs.lemmas.List.{take_all, take_more, take_more_set}
use Rattle.std.proofs.lemmas.Grind.{drop_more_same}
use Rattle.hg_types.specs.declared.limits.Limits.{Limits}
use Rattle.hg_push.specs.Run.{RepositoryOf}
use Rattle.hg_recovery.specs.Replays.{Replays, ReplaysOne}
use Rattle.hg_store.specs.Entries.{Entry}
use Rattle.hg_store.specs.Log.{IsSettled}
use Rattle.hg_store.specs.declared.head.Head.{Head}
use Rattle.hg_connection.specs.Devices.{Input}
use Rattle.hg_import.specs.Imports.{Imports, ImportsEach, ImportsFiles, Place, Stops}
use Rattle.hg_import.specs.declared.import.ImportStop.{ImportStop}

-- one record more is run
runs_more : {A : Type 0} (limits : Limits) (first mid last : RepositoryOf A) (entries : List Entry) (entry : Entry)
    → Replays limits first entries mid → ReplaysOne limits mid entry.bundle last
    → Replays limits first (entries ++ entry ∷ []) last
runs_more limits first mid last [] entry same one =
    (last, subst (λ (r : RepositoryOf _). ReplaysOne limits r entry.bundle last) (sym same) one, refl)
runs_more limits first mid last (e ∷ entries) entry all one =
    (all.0, all.1, runs_more limits all.0 mid last entries entry all.2 one)

-- equal lists have equal heads
heads_same : {X : Type 0} (x y : X) (xs ys : List X) → x ∷ xs ≡ y ∷ ys → x ≡ y
heads_same x y xs ys is = cc

module _ {A D : Type 0} (seen : D → List ℕ) (may_leave : D → List ℕ → Type 0) (moment : D → ℕ)
    (left_since : D → ℕ → List ℕ → Type 0) (faults : D → ℕ) (says : ℕ → Type 0) (limits : Limits) where
  -- one file more
  each_more : (head : Head) (records : List Entry) (files lefts : List Input) (entries : List Entry)
      (file left : Input) (entry : Entry) (old mid new : Place A D)
      → ImportsEach seen may_leave moment left_since faults says limits head records files lefts entries old mid
      → Imports seen may_leave moment left_since faults says limits head (records ++ entries) file left entry mid new
      → ImportsEach seen may_leave moment left_since faults says limits head records (files ++ file ∷ []) (lefts ++ left ∷ [])
      (entries ++ entry ∷ []) old new
  each_more head records [] [] [] file left entry old mid new same one =
      let here : Imports seen may_leave moment left_since faults says limits head records file left entry mid new =
      subst (λ (rs : List Entry). Imports seen may_leave moment left_since faults says limits head rs file left entry mid new)
      (append-nil records) one in (
        new,
        subst (λ (p : Place A D). Imports seen may_leave moment left_since faults says limits head records file left entry p new)
            same here,
        refl,
      )
  each_more head records (f ∷ files) (l ∷ lefts) (e ∷ entries) file left entry old mid new all one = (
    all.0,
    all.1,
    each_more head (records ++ e ∷ []) files lefts entries file left entry all.0 mid new all.2
        (subst (λ (rs : List Entry). Imports seen may_leave moment left_since faults says limits head rs file left entry mid new)
        (sym (append_assoc records (e ∷ []) entries)) one),
  )
  each_more head records [] [] (e ∷ entries) file left entry old mid new all one = absurd all
  each_more head records [] (l ∷ lefts) entries file left entry old mid new all one = absurd all
  each_more head records (f ∷ files) [] entries file left entry old mid new all one = absurd all
  each_more head records (f ∷ files) (l ∷ lefts) [] file left entry old mid new all one = absurd all

  -- The first files are brought into a store of these records.
  pub record Brought (head : Head) (records : List Entry) (files lefts : List Input) (place : ℕ)
      (old new : Place A D) : Type 0 where
    pub entries : List Entry
    pub each : ImportsEach seen may_leave moment left_since faults says limits head records files lefts entries old new
    pub ran : Replays limits old.repo entries new.repo
    pub settled : IsSettled seen may_leave head (records ++ entries) new.log
    pub place_is : place ≡ length records + length entries

  -- and one more
  one_brought : (head : Head) (records : List Entry) (files lefts : List Input) (file left : Input)
      (entry : Entry) (place next : ℕ) (old mid new : Place A D)
      → (b : Brought head records files lefts place old mid)
      → Imports seen may_leave moment left_since faults says limits head (records ++ b.entries) file left entry mid new
      → next ≡ place + 1
      → Brought head records (files ++ file ∷ []) (lefts ++ left ∷ []) next old new
  one_brought head records files lefts file left entry place next old mid new b one is = record {
    entries = b.entries ++ entry ∷ [];
    each = each_more head records files lefts b.entries file left entry old mid new b.each one;
    ran = runs_more limits old.repo mid.repo new.repo b.entries entry b.ran one.pushed.ran;
    settled = subst (λ (rs : List Entry). IsSettled seen may_leave head rs new.log)
        (append_assoc records b.entries (entry ∷ [])) one.added.settled;
    place_is = omega (arith, is, b.place_is, length-append b.entries (entry ∷ []));
  }

  -- The files before a place are brought in, and those from it on are as they were.
  pub record Brings (files now : List Input) (at stored place : ℕ) (old new : Place A D) : Type 0 where
    pub settings : new.repo.settings ≡ old.repo.settings
    pub rest : drop at now ≡ drop at files
    pub brought : (head : Head) (records : List Entry) → IsSettled seen may_leave head records old.log
        → stored ≡ length records → Brought head records (take at files) (take at now) place old new

  pub none_brought : (files : List Input) (stored : ℕ) (old : Place A D)
      → Brings files files 0 stored stored old old
  none_brought files stored old = record {
    settings = refl;
    rest = refl;
    brought = λ head records settled is. record {
      entries = [];
      each = refl;
      ran = refl;
      settled = subst (λ (rs : List Entry). IsSettled seen may_leave head rs old.log) (sym (append-nil records))
          settled;
      place_is = omega (arith, is);
    };
  }

  module _ (files now : List Input) (at stored place : ℕ) (file left : Input) (old mid : Place A D)
      (below : at < length now) (here : get_or now at file ≡ file)
      (p : Brings files now at stored place old mid) where
    within : at < length files
    within = omega (
      arith,
      ap (λ (l : List Input). length l) p.rest,
      below,
      length-drop at now,
      length-drop at files,
    )

    now_is : drop at now ≡ get_or now at file ∷ drop (at + 1) now
    now_is = drop_more now at file below

    files_are : drop at files ≡ get_or files at file ∷ drop (at + 1) files
    files_are = drop_more files at file within

    heads : get_or now at file ∷ drop (at + 1) now ≡ get_or files at file ∷ drop (at + 1) files
    heads = sym now_is ∙ p.rest ∙ files_are

    same : get_or files at file ≡ file
    same = sym (heads_same (get_or now at file) (get_or files at file) (drop (at + 1) now) (drop (at + 1) files)
        heads)
        ∙ here

    -- the file there is brought in too
    pub slot_brought : (next : ℕ) (new : Place A D) → new.repo.settings ≡ old.repo.settings
        → ((head : Head) (records : List Entry) → IsSettled seen may_leave head records mid.log
        → place ≡ length records → (entry : Entry)
        × Imports seen may_leave moment left_since faults says limits head records file left entry mid new)
        → next ≡ place + 1 → Brings files (set now at left) (at + 1) stored next old new
    slot_brought next new settings one is = record {
      settings = settings;
      rest = drop-set-lt (at + 1) now at left (omega arith) ∙ drop_more_same now files at p.rest;
      brought = λ head records settled stored_is.
          let b = p.brought head records settled stored_is in
          let o = one head (records ++ b.entries) b.settled
          (omega (arith, b.place_is, length-append records b.entries)) in
          let more = one_brought head records (take at files) (take at now) file left o.0 place next old mid new b o.1
          is in
          subst (λ (l : List Input). Brought head records (take (at + 1) files) l next old new)
          (sym (take_more_set now at left below))
          (subst (λ (l : List Input). Brought head records l (take at now ++ left ∷ []) next old new)
          (sym (take_more files at file within ∙ ap (λ (f : Input). take at files ++ f ∷ []) same)) more);
    }

    -- it ended at the file there
    pub stopped_at : (stop : ImportStop A) (new : Place A D)
        → ((head : Head) (records : List Entry) → IsSettled seen may_leave head records mid.log
        → place ≡ length records
        → Stops seen may_leave moment left_since faults says stop limits head records file left mid new)
        → (head : Head) (records : List Entry) → IsSettled seen may_leave head records old.log
        → stored ≡ length records
        → ImportsFiles seen may_leave moment left_since faults says limits head records files (set now at left) old new place
        (Some stop)
    stopped_at stop new stops head records settled stored_is =
        let b = p.brought head records settled stored_is in record {
          first_files = take at files;
          first_lefts = take at now;
          last_files = file ∷ drop (at + 1) files;
          last_lefts = left ∷ drop (at + 1) now;
          files_are = sym (take-append-drop at files)
              ∙ ap (λ (l : List Input). take at files ++ l)
              (files_are ∙ ap (λ (f : Input). f ∷ drop (at + 1) files) same);
          lefts_are = sym (take-append-drop (at + 1) (set now at left))
              ∙ ap (λ (l : List Input). l ++ drop (at + 1) (set now at left)) (take_more_set now at left below)
              ∙ ap (λ (l : List Input). (take at now ++ left ∷ []) ++ l)
              (drop-set-lt (at + 1) now at left (omega arith))
              ∙ append_assoc (take at now) (left ∷ []) (drop (at + 1) now);
          entries = b.entries;
          mid = mid;
          each = b.each;
          ran = b.ran;
          settled = b.settled;
          place_is = b.place_is;
          ends = (
            drop_more_same now files at p.rest,
            stops head (records ++ b.entries) b.settled
                (omega (arith, b.place_is, length-append records b.entries)),
          );
        }

  -- all files are brought in
  pub all_brought : (files now : List Input) (at stored place : ℕ) (old new : Place A D) → length now ≤ at
      → Brings files now at stored place old new → (head : Head) (records : List Entry)
      → IsSettled seen may_leave head records old.log → stored ≡ length records
      → ImportsFiles seen may_leave moment left_since faults says limits head records files now old new place None
  all_brought files now at stored place old new all p head records settled stored_is =
      let b = p.brought head records settled stored_is in
      let within : length files ≤ at = omega (
        arith,
        ap (λ (l : List Input). length l) p.rest,
        all,
        length-drop at now,
        length-drop at files,
      ) in
      record {
        first_files = take at files;
        first_lefts = take at now;
        last_files = [];
        last_lefts = [];
        files_are = sym (append-nil (take at files) ∙ take_all at files within);
        lefts_are = sym (append-nil (take at now) ∙ take_all at now all);
        entries = b.entries;
        mid = new;
        each = b.each;
        ran = b.ran;
        settled = b.settled;
        place_is = b.place_is;
        ends = (refl, refl, refl);
      }

module _ {A D T : Type 0} (seen : D → List ℕ) (may_leave : D → List ℕ → Type 0) (moment : D → ℕ)
    (left_since : D → ℕ → List ℕ → Type 0) (faults : D → ℕ) (says : ℕ → Type 0) (limits own : Limits) (told : T → Input) (files : List Input)
    (readers : List T) (at stored place : ℕ) (reader after : T) (old mid : Place A D) (below : at < length readers)
    (here : reader ≡ get_or readers at reader) (same : own ≡ limits)
    (p : Brings seen may_leave moment left_since faults says limits files (map told readers) at stored place old mid) where
  within_map : at < length (map told readers)
  within_map = omega (arith, below, length-map readers told)

  here_map : get_or (map told readers) at (told reader) ≡ told reader
  here_map = get_or-map told readers at reader (told reader) below ∙ ap told (sym here)

  -- the same of readers, which have these bytes to give
  pub file_brought : (next : ℕ) (new : Place A D) → new.repo.settings ≡ old.repo.settings
      → ((head : Head) (records : List Entry) → IsSettled seen may_leave head records mid.log
      → place ≡ length records → (entry : Entry)
      × Imports seen may_leave moment left_since faults says own head records (told reader) (told after) entry mid new)
      → next ≡ place + 1
      → Brings seen may_leave moment left_since faults says limits files (map told (set readers at after)) (at + 1) stored next
      old new
  file_brought next new settings one is =
      subst (λ (l : List Input). Brings seen may_leave moment left_since faults says limits files l (at + 1) stored next old
      new)
      (sym (map-set told readers at after))
      (slot_brought seen may_leave moment left_since faults says limits files (map told readers) at stored place (told reader)
      (told after) old mid within_map here_map p next new settings
      (λ head records settled is_here. subst (λ (l : Limits). (entry : Entry)
      × Imports seen may_leave moment left_since faults says l head records (told reader) (told after) entry mid new) same
      (one head records settled is_here)) is)

  pub file_stopped : (stop : ImportStop A) (new : Place A D)
      → ((head : Head) (records : List Entry) → IsSettled seen may_leave head records mid.log
      → place ≡ length records
      → Stops seen may_leave moment left_since faults says stop own head records (told reader) (told after) mid new)
      → (head : Head) (records : List Entry) → IsSettled seen may_leave head records old.log
      → stored ≡ length records
      → ImportsFiles seen may_leave moment left_since faults says limits head records files (map told (set readers at after))
      old new place (Some stop)
  file_stopped stop new stops head records settled stored_is =
      subst (λ (l : List Input). ImportsFiles seen may_leave moment left_since faults says limits head records files l old new
      place (Some stop)) (sym (map-set told readers at after))
      (stopped_at seen may_leave moment left_since faults says limits files (map told readers) at stored place (told reader)
      (told after) old mid within_map here_map p stop new
      (λ h rs at_rest is_here. subst (λ (l : Limits). Stops seen may_leave moment left_since faults says stop l h rs (told reader)
      (told after) mid new) same (stops h rs at_rest is_here)) head records settled stored_is)
