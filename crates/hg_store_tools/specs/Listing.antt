-- The pushes of a store, a line for each.
use Rattle.std.specs.Prelude.{ℕ, ◌≡◌, ◌≢◌, ◌⊎◌, ◌<◌, ◌≤◌, ◌+◌, ◌-◌, ◌*◌, ◌/◌, ◌==◌, List, [], ◌∷◌, ◌++◌, Option, codes}
use Rattle.std.specs.Prelude.{decimal, drop, length, ⊤, if◌then◌else◌}
use Rattle.std.specs.List.{concat}
use Rattle.std.specs.Io.KnownBytes.{Appends}
use Rattle.hg_types.specs.declared.limits.Limits.{Limits}
use Rattle.hg_repo.specs.Report.{escaped}
use Rattle.hg_store.specs.declared.head.Head.{Head}
use Rattle.hg_store.specs.Entries.{Entry}
use Rattle.hg_store.specs.Files.{digest_behind}
use Rattle.hg_store.specs.Head.{version_of}
use Rattle.hg_store_tools.specs.declared.date.Date.{Date}
use Rattle.hg_store_tools.specs.declared.fault.StoreEnd.{StoreEnd}
use Rattle.hg_store_tools.specs.declared.fault.Fault.{Fault}
use Rattle.hg_store_tools.specs.declared.fault.Fault.TheVariants.{NoMemory, Unsent}
use Rattle.hg_store_tools.specs.ChangesetCount.{Brings}
use Rattle.hg_store_tools.specs.Canonical.{IsUncanonical}
use Rattle.hg_store_tools.specs.Date.{IsDateOf, day_text, days_of_years, time_text}
use Rattle.hg_store_tools.specs.Reading.{HasFront, IsRead, IsUnread}
use Rattle.hg_store_tools.specs.Visiting.{IsUnreadAt}
use Rattle.hg_store_tools.specs.declared.marks.Mark.{Mark}
use Rattle.hg_store_tools.specs.Places.{IsReadOn}

-- The text of a time in milliseconds since 1970: the date of its second. It is `-` where the time is 0, and not known,
-- or after the year 9999.
pub data IsWhen (time : ℕ) (text : List ℕ) : Type 0 where
  unknown : time ≡ 0 → text ≡ codes "-" → IsWhen time text
  late : days_of_years 8030 * 86400 ≤ time / 1000 → text ≡ codes "-" → IsWhen time text
  dated : (date : Date) → time ≢ 0 → IsDateOf (time / 1000) date → text ≡ day_text date ++ time_text date →
      IsWhen time text

-- a name, with each byte escaped that is no ASCII letter or digit; `-` where there is none
abbrev pub who_text : List ℕ → List ℕ
who_text name = if length name == 0 then codes "-" else escaped name

-- the place, when, who, how many changesets, and how many bytes
unfoldable pub line_text : ℕ → List ℕ → List ℕ → ℕ → ℕ → List ℕ
line_text place when who count bytes = decimal place ++ (codes " " ++ (when ++ (codes " " ++ (who ++ (codes " "
    ++ (decimal count ++ (codes " " ++ (decimal bytes ++ codes "\n"))))))))

-- The line of the record at a place.
pub record IsLine (A : Type 0) (limits : Limits) (place : ℕ) (entry : Entry) (line : List ℕ) : Type 0 where
  pub when : List ℕ
  pub count : ℕ
  pub is_when : IsWhen entry.stamp.time when
  pub brings : Brings A limits entry.bundle count
  pub spelled : line ≡ line_text place when (who_text entry.stamp.name) count (length entry.bundle)

-- one line for each record, in order, the first of which is at this place
abbrev pub AreLines : Type 0 → Limits → ℕ → List Entry → List (List ℕ) → Type 0
AreLines A limits place [] [] = ⊤
AreLines A limits place (entry ∷ records) (line ∷ lines) =
    IsLine A limits place entry line × AreLines A limits (place + 1) records lines
AreLines A limits place records lines = ⊥

-- Which pushes of a store have a line.
pub record ListForm : Type 0 where
  pub limits : Limits
  pub from : ℕ

-- the record at a place is passed over; or its line was written
abbrev pub ListsRecord : Type 0 → ListForm → ℕ → Entry → Option (List ℕ) → Option (List ℕ) → Type 0
ListsRecord A list place entry before after = ((place < list.from) × (after ≡ before)) ⊎ ((list.from ≤ place)
    × (line : List ℕ) × IsLine A list.limits place entry line × Appends before after line)

-- Why the line of the record at a place was not written, of which this much was: its bundle is none, or the writer took
-- a front of it.
pub data IsLineStop (A : Type 0) (limits : Limits) (place : ℕ) (entry : Entry) (gone : List ℕ) (fault : Fault) :
    Type 0 where
  no_line : gone ≡ [] → IsUncanonical A fault place limits entry.bundle → IsLineStop A limits place entry gone fault
  unsent : (line rest : List ℕ) → IsLine A limits place entry line → line ≡ gone ++ rest →
      (fault ≡ Unsent) ⊎ (fault ≡ NoMemory) → IsLineStop A limits place entry gone fault

-- the line of the record at a place was not written, or a front of it alone
abbrev pub ListsNoRecord : Type 0 → ListForm → ℕ → Entry → Fault → Option (List ℕ) → Option (List ℕ) → Type 0
ListsNoRecord A list place entry fault before after =
    (list.from ≤ place) × (gone : List ℕ) × Appends before after gone × IsLineStop A list.limits place entry gone fault

-- The file is a store, and the lines of its records from a place on were written, one after the other.
pub record IsListed (A : Type 0) (file : List ℕ) (from : ℕ) (ending : StoreEnd) (before after : Option (List ℕ)) :
    Type 0 where
  pub head : Head
  pub records : List Entry
  pub read : IsRead file head records ending
  pub lines : List (List ℕ)
  pub are : AreLines A head.limits from (drop from records) lines
  pub sent : Appends before after (concat lines)

-- The rest of a store behind a mark is records, and the lines of those from a place on were written, one after the
-- other.
pub record IsListedOn (A : Type 0) (head : Head) (mark : Mark) (rest : List ℕ) (from : ℕ) (ending : StoreEnd)
    (before after : Option (List ℕ)) : Type 0 where
  pub records : List Entry
  pub read : IsReadOn head mark rest records ending
  pub lines : List (List ℕ)
  pub are : AreLines A head.limits from (drop (from - mark.place) records) lines
  pub sent : Appends before after (concat lines)

-- The lines of the pushes of a store from a place on were written: of those that stand behind some mark, which is not
-- behind that place.
abbrev pub ListsFrom : Type 0 → ℕ → StoreEnd → Option (List ℕ) → Option (List ℕ) → Type 0
ListsFrom A from ending before after = (head : Head) × (mark : Mark) × (rest : List ℕ) × (mark.place ≤ from)
    × IsListedOn A head mark rest from ending before after

-- Why not all lines were written. The file has no head, and nothing was written. Or the lines of its first records
-- were, from a place on: then it is damaged, or was not read on; or the next record's was not written, or a front of
-- it alone.
pub data IsUnlisted (A : Type 0) (file : List ℕ) (from : ℕ) (before after : Option (List ℕ)) (fault : Fault) :
    Type 0 where
  headless : IsUnread fault file → after ≡ before → IsUnlisted A file from before after fault
  unread : (head : Head) (records : List Entry) (tail : List ℕ) (lines : List (List ℕ)) →
      HasFront file head records tail → IsUnreadAt fault (version_of head) (digest_behind head records) (length records) tail →
      AreLines A head.limits from (drop from records) lines → Appends before after (concat lines) →
      IsUnlisted A file from before after fault
  stopped : (head : Head) (records : List Entry) (entry : Entry) (tail : List ℕ) (lines : List (List ℕ)) (gone : List ℕ) →
      HasFront file head (records ++ entry ∷ []) tail → from ≤ length records →
      AreLines A head.limits from (drop from records) lines → Appends before after (concat lines ++ gone) →
      IsLineStop A head.limits (length records) entry gone fault →
      IsUnlisted A file from before after fault
