-- Entries of a changegroup that are added: what an answer leaves of the log, what follows for the store,
-- and how far a group has come.
use Rattle.std.proofs.Common.{◌≡◌, ◌⊎◌, ℕ, ◌+◌, ◌<◌, Bool, true, false, not, ◌||◌, List, [], ◌∷◌}
use Rattle.std.proofs.Common.{◌++◌, length, take, drop, get_or, Option, Some, None, is_some, nat_lt}
use Rattle.std.proofs.Common.{bytes_eq, cond, Result, Ok, Err, inl, inr, refl, sym, ap, ◌∙◌, subst, arith}
use Rattle.std.proofs.lemmas.Bool.{ltb-true, lt-ltb}
use Rattle.std.proofs.lemmas.List.{take-append-le, length-append, length_push, drop_more, drop-drop, drop-set-lt}
use Rattle.std.proofs.lemmas.List.{get_or-drop}
use Rattle.std.proofs.Math.ListN.{set}
use Rattle.std.proofs.Math.Seq.{drop-length, take-length}
use Rattle.std.specs.List.{prefix_len, position_or_len}
use Rattle.hg_types.specs.declared.entry.Entry.{Entry}
use Rattle.hg_types.specs.declared.limits.Limits.{Limits}
use Rattle.hg_types.specs.declared.limits.Settings.{Settings}
use Rattle.hg_types.specs.declared.node.Node.{Node}
use Rattle.hg_types.specs.declared.part.Part.{Part}
use Rattle.hg_types.specs.declared.phase.Phase.{Phase}
use Rattle.hg_log.specs.declared.add.Added.{Added}
use Rattle.hg_log.specs.declared.add.Added.TheVariants.{New, Known}
use Rattle.hg_log.specs.declared.add.AddFault.{AddFault}
use Rattle.hg_log.specs.declared.add.AddFault.TheVariants.{UnknownParent, UnknownBase, Delta, HashMismatch}
use Rattle.hg_log.specs.declared.add.AddFault.TheVariants.{TooMany, NoMemory}
use Rattle.hg_log.specs.Rows.{AreLawful}
use Rattle.hg_log.specs.Changeset.{Changeset, Log}
use Rattle.hg_log.specs.Answer.{answer_of}
use Rattle.hg_log.specs.Add.{row_of, AddLeaves, IsAppended}
use Rattle.hg_log.specs.Parents.{parents_of, rev_of}
use Rattle.hg_log.specs.HeadCount.{head_count}
use Rattle.hg_phases.specs.Phases.{AreFor, Saved, registered}
use Rattle.hg_phases.proofs.CallerLemmas.{for_more, length_registered}
use Rattle.hg_obs.specs.declared.marker.Marker.{Marker}
use Rattle.hg_keys.specs.Bookmarks.{Pairs}
use Rattle.hg_keys.specs.Known.{is_known, is_null}
use Rattle.hg_parts.specs.declared.source.Source.{Source}
use Rattle.hg_parts.specs.declared.refusal.Refusal.TheVariants.{BadChangeset, NoMemory as OutOfMemory}
use Rattle.hg_parts.specs.declared.store.Store.{Store}
use Rattle.hg_keys.specs.Known.{AreOnKnown}
use Rattle.hg_parts.specs.Repository.{Repository}
use Rattle.hg_parts.specs.Handled.{Handled}
use Rattle.hg_parts.specs.Store.{IsSound, IsGrown}
use Rattle.hg_parts.specs.parts.Changegroup.{Grown, grown_by, then_grow, add_each, phases_after}
use Rattle.hg_parts.specs.parts.Changegroup.{reply_to_group, handled_of, handled_by, handle_entries}
use Rattle.hg_parts.specs.code.Changegroup.{refusal_for}

-- ---- what is known stays known

found_more : {X : Type 0} (p : X → Bool) (xs ys : List X) → prefix_len p xs < length xs
    → prefix_len p (xs ++ ys) ≡ prefix_len p xs
found_more p [] ys low = absurd (omega (arith, low))
found_more p (x ∷ xs) ys low =
    elim (p x) as (λ b. cond b (1 + prefix_len p xs) 0 < length (x ∷ xs)
    → cond b (1 + prefix_len p (xs ++ ys)) 0 ≡ cond b (1 + prefix_len p xs) 0) [
      | true ↦ λ less. ap (λ (n : ℕ). 1 + n) (found_more p xs ys (omega (arith, less)))
      | false ↦ λ less. refl
    ] low

abbrev place_below : ℕ → ℕ → Option ℕ
place_below n m = cond (nat_lt n m) (Some n) None

low_place : (n m : ℕ) → is_some (place_below n m) ≡ true → n < m
low_place n m some =
    elim (nat_lt n m) as (λ b. nat_lt n m ≡ b → is_some (cond b (Some n) None) ≡ true → n < m) [
      | true ↦ λ is yes. ltb-true n m is
      | false ↦ λ is yes. absurd cc
    ] refl some

place_low : (n m : ℕ) → n < m → is_some (place_below n m) ≡ true
place_low n m less = ap (λ b. is_some (cond b (Some n) None)) (lt-ltb n m less)

rev_more : (rows more : List Changeset) (id : List ℕ) → is_some (rev_of rows id) ≡ true
    → is_some (rev_of (rows ++ more) id) ≡ true
unfolding rev_of
rev_more rows more id some =
    let test : Changeset → Bool = λ row. bytes_eq row.node id in
    let low : position_or_len test rows < length rows = low_place (position_or_len test rows)
    (length rows) some in
    let same : position_or_len test (rows ++ more) ≡ position_or_len test rows = found_more
    (λ row. not (test row)) rows more low in
    place_low (position_or_len test (rows ++ more)) (length (rows ++ more))
    (omega (arith, low, same, length-append rows more))

known_more : (rows more : List Changeset) (node : Node) → is_known rows node ≡ true
    → is_known (rows ++ more) node ≡ true
known_more rows more node known =
    elim (is_null node) as (λ b. (b || is_some (rev_of rows node.0)) ≡ true
    → (b || is_some (rev_of (rows ++ more) node.0)) ≡ true) [
      | true ↦ λ some. refl
      | false ↦ λ some. rev_more rows more node.0 some
    ] known

pub on_known_more : (rows more : List Changeset) (pairs : Pairs) → AreOnKnown rows pairs
    → AreOnKnown (rows ++ more) pairs
on_known_more rows more pairs all = λ k d low. known_more rows more (get_or pairs k d).1 (all k d low)

-- ---- one entry

-- the log has a row more, under that number
pub appended : {A : Type 0} (old new : Log) (entry : Entry A) (added : Added) (rev : ℕ) → added ≡ New rev
    → AddLeaves old entry added new → IsAppended old entry rev new
appended old new entry (New other) rev is left = let same : other ≡ rev = cc in
    subst (λ (r : ℕ). IsAppended old entry r new) same left
appended old new entry Known rev is left = absurd cc

-- the log is as it was
pub unchanged : {A : Type 0} (old new : Log) (entry : Entry A) (added : Added) → added ≡ Known
    → AddLeaves old entry added new → new ≡ old
unchanged old new entry (New other) is left = absurd cc
unchanged old new entry Known is left = left.1

module _ {A : Type 0} (settings : Settings) (old : Store A) (log : Log) (entry : Entry A) (rev : ℕ)
    (is : IsAppended old.log entry rev log) where
  rows : log.rows ≡ old.log.rows ++ row_of entry is.text ∷ []
  rows = ap (λ (l : Log). l.rows) is.appended

  front : take (length old.log.rows) log.rows ≡ old.log.rows
  front = ap (take (length old.log.rows)) rows
      ∙ take-append-le (length old.log.rows) old.log.rows (row_of entry is.text ∷ []) (omega arith)
      ∙ take-length old.log.rows

  longer : length log.rows ≡ length old.log.rows + 1
  longer = ap length rows ∙ length_push old.log.rows (row_of entry is.text)

  limits : log.limits ≡ old.log.limits
  limits = ap (λ (l : Log). l.limits) is.appended

  pub grown_new : (phases : Saved) → phases.saved ≡ old.phases.saved
      → IsGrown old (record old { log = log; phases = phases })
  grown_new phases same = record {
    rows_within = omega (arith, longer);
    rows_front = front;
    limits = limits;
    markers_within = omega arith;
    markers_front = take-length old.markers;
    phases_saved = same;
    bookmarks_saved = refl;
  }

  -- a new row leaves the phases of the others as they were
  pub fits_new : AreFor old.log.rows old.phases.current → AreLawful log.rows
      → AreFor log.rows old.phases.current
  fits_new fits lawful = for_more old.log.rows log.rows old.phases.current lawful
      (omega (arith, longer)) front fits

  pub sound_new : (t : Phase) (phases : Saved) → IsSound settings old → AreFor log.rows phases.current
      → phases.current.phases ≡ registered (parents_of log.rows) t old.phases.current.phases
      → IsSound settings (record old { log = log; phases = phases })
  sound_new t phases sound fits are = record {
    fits = fits;
    count = omega (
      arith,
      ap length are,
      length_registered (parents_of log.rows) t old.phases.current.phases,
      sound.count,
      longer,
    );
    limits = limits ∙ sound.limits;
    markers = sound.markers;
    bookmarks = subst (λ (rs : List Changeset). AreOnKnown rs old.bookmarks.current) (sym rows)
        (on_known_more old.log.rows (row_of entry is.text ∷ []) old.bookmarks.current sound.bookmarks);
  }

-- ---- all entries

-- where all from a place on are as they were, so is the one at that place
pub as_it_was : {X : Type 0} (old new : List X) (i : ℕ) (d : X) → drop i new ≡ drop i old
    → get_or new i d ≡ get_or old i d
as_it_was {X} old new i d same =
    sym (first new) ∙ ap (λ (l : List X). get_or l 0 d) same ∙ first old
  where
    first : (l : List X) → get_or (drop i l) 0 d ≡ get_or l i d
    first l = get_or-drop i l 0 d ∙ ap (λ (n : ℕ). get_or l n d) (omega arith)

-- and those behind it are, whatever is put in its place
pub behind_it : {X : Type 0} (old new : List X) (i : ℕ) (y : X) → drop i new ≡ drop i old
    → drop (i + 1) (set new i y) ≡ drop (i + 1) old
behind_it {X} old new i y same =
    drop-set-lt (i + 1) new i y (omega arith)
    ∙ sym (drop-drop 1 i new) ∙ ap (drop 1) same ∙ drop-drop 1 i old

-- the entry at that place decides what follows
add_next : {A : Type 0} (limits : Limits) (t : Phase) (entries : List (Entry A)) (i : ℕ) (entry : Entry A)
    (start now : Grown)
    → i < length entries → entry ≡ get_or entries i entry
    → add_each limits t entries start ≡ add_each limits t (drop i entries) now
    → add_each limits t entries start ≡ then_grow
    (grown_by t now.phases (answer_of (record { rows = now.rows; limits = limits }) entry))
    (add_each limits t (drop (i + 1) entries))
unfolding add_each
add_next limits t entries i entry start now within here reached =
    reached ∙ ap (λ es. add_each limits t es now) (drop_more entries i entry within
    ∙ ap (λ e. e ∷ drop (i + 1) entries) (sym here))

same_answer : {A : Type 0} (limits : Limits) (log : Log) (entry : Entry A) → log.limits ≡ limits
    → answer_of (record { rows = log.rows; limits = limits }) entry ≡ answer_of log entry
same_answer few log entry same =
    ap (λ (l : Limits). answer_of (record { rows = log.rows; limits = l }) entry) (sym same)

-- the entry at that place is added, and what it gave goes on
pub add_step : {A : Type 0} (limits : Limits) (t : Phase) (entries : List (Entry A)) (i : ℕ) (entry : Entry A)
    (start : Grown) (log : Log) (phases : List Phase) (next : Grown)
    → log.limits ≡ limits → i < length entries → entry ≡ get_or entries i entry
    → add_each limits t entries start ≡ add_each limits t (drop i entries)
    (record { rows = log.rows; phases = phases })
    → grown_by t phases (answer_of log entry) ≡ Ok next
    → add_each limits t entries start ≡ add_each limits t (drop (i + 1) entries) next
add_step limits t entries i entry start log phases next same within here reached gives =
    add_next limits t entries i entry start (record { rows = log.rows; phases = phases }) within here reached
    ∙ ap (λ answer. then_grow (grown_by t phases answer) (add_each limits t (drop (i + 1) entries)))
    (same_answer limits log entry same)
    ∙ ap (λ given. then_grow given (add_each limits t (drop (i + 1) entries))) gives

-- the entry at that place is not added, and its fault is the answer
pub add_fault : {A : Type 0} (limits : Limits) (t : Phase) (entries : List (Entry A)) (i : ℕ)
    (entry : Entry A) (start : Grown) (log : Log) (phases : List Phase) (fault : AddFault)
    → log.limits ≡ limits → i < length entries → entry ≡ get_or entries i entry
    → add_each limits t entries start ≡ add_each limits t (drop i entries)
    (record { rows = log.rows; phases = phases })
    → grown_by t phases (answer_of log entry) ≡ Err fault → add_each limits t entries start ≡ Err fault
add_fault limits t entries i entry start log phases fault same within here reached gives =
    add_next limits t entries i entry start (record { rows = log.rows; phases = phases }) within here reached
    ∙ ap (λ answer. then_grow (grown_by t phases answer) (add_each limits t (drop (i + 1) entries)))
    (same_answer limits log entry same)
    ∙ ap (λ given. then_grow given (add_each limits t (drop (i + 1) entries))) gives

-- all entries
pub add_all : {A : Type 0} (limits : Limits) (t : Phase) (entries : List (Entry A)) (i : ℕ)
    (start now : Grown)
    → i ≡ length entries
    → add_each limits t entries start ≡ add_each limits t (drop i entries) now
    → add_each limits t entries start ≡ Ok now
unfolding add_each
add_all {A} limits t entries i start now all reached =
    reached ∙ ap (λ (es : List (Entry A)). add_each limits t es now) (ap (λ (n : ℕ). drop n entries) all
    ∙ drop-length entries)

-- ---- the part

kinds : {A : Type 0} (place : ℕ) (fault : AddFault)
    → (fault ≡ NoMemory) ⊎ (refusal_for {A = A} place fault ≡ BadChangeset place fault)
kinds place NoMemory = inl refl
kinds place UnknownParent = inr refl
kinds place UnknownBase = inr refl
kinds place (Delta fault) = inr refl
kinds place HashMismatch = inr refl
kinds place TooMany = inr refl

told_as : {A : Type 0} (done : Grown → Handled A) (place : ℕ) (given : Result Grown AddFault)
    (fault : AddFault)
    → (fault ≡ NoMemory) ⊎ (given ≡ Err fault)
    → (refusal_for {A = A} place fault ≡ OutOfMemory)
    ⊎ (handled_by done place given ≡ Err (refusal_for place fault))
told_as {A} done place given fault told = elim (kinds {A = A} place fault) [
  | inl none ↦ inl (ap (refusal_for place) none)
  | inr is ↦ elim told [
    | inl none ↦ inl (ap (refusal_for place) none)
    | inr refused ↦ inr (ap (handled_by done place) refused ∙ ap Err (sym is))
  ]
]

-- the entries are added, and then the phases follow and the reply is made
pub entries_done : {A : Type 0} (source : Source) (repo : Repository A) (replying : Bool) (place : ℕ)
    (part : Part A) (t : Phase) (entries : List (Entry A)) (grown : Grown) (phases : List Phase)
    (markers : List (Marker A)) (bookmarks : Pairs) (before after : ℕ) (reply : Option (Part A))
    → add_each repo.settings.limits t entries (record { rows = repo.rows; phases = repo.phases }) ≡ Ok grown
    → phases ≡ phases_after source t entries grown → markers ≡ repo.markers → bookmarks ≡ repo.bookmarks
    → before ≡ head_count repo.rows → after ≡ head_count grown.rows
    → reply ≡ reply_to_group replying part.id before after
    → handle_entries source repo replying place part t entries ≡ Ok
    (record {
      repo = record {
        settings = repo.settings;
        rows = grown.rows;
        phases = phases;
        markers = markers;
        bookmarks = bookmarks;
      };
      reply = reply;
    })
unfolding handle_entries
entries_done {A} source repo replying place part t entries grown phases markers bookmarks before after reply
    added are_after same_markers same_bookmarks is_before is_after is_reply =
    ap (handled_by (handled_of source repo replying part t entries) place) added ∙ ap Ok same
  where
    told : reply_to_group replying part.id (head_count repo.rows) (head_count grown.rows) ≡ reply
    told = cc

    same : handled_of source repo replying part t entries
        grown ≡ record {
          repo = record {
            settings = repo.settings;
            rows = grown.rows;
            phases = phases;
            markers = markers;
            bookmarks = bookmarks;
          };
          reply = reply;
        }
    same = cc

-- an entry is not added
pub entries_refused : {A : Type 0} (source : Source) (repo : Repository A) (replying : Bool) (place : ℕ)
    (part : Part A) (t : Phase) (entries : List (Entry A)) (fault : AddFault)
    → (fault ≡ NoMemory) ⊎ (add_each repo.settings.limits t entries
    (record { rows = repo.rows; phases = repo.phases }) ≡ Err fault)
    → (refusal_for {A = A} place fault ≡ OutOfMemory)
    ⊎ (handle_entries source repo replying place part t entries ≡ Err (refusal_for place fault))
unfolding handle_entries
entries_refused source repo replying place part t entries fault told =
    told_as (handled_of source repo replying part t entries) place
    (add_each repo.settings.limits t entries (record { rows = repo.rows; phases = repo.phases })) fault
    told
