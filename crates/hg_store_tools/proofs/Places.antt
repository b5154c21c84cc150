-- A store that is read from a mark on.
use Rattle.std.proofs.Common.{◌≡◌, ◌≢◌, ◌⊎◌, inl, inr, ℕ, ◌+◌, List, [], ◌++◌, length}
use Rattle.std.proofs.Common.{sym, ap, ◌∙◌, subst, append_assoc, Option}
use Rattle.std.proofs.lemmas.List.{append-nil}
use Rattle.std.specs.Io.KnownBytes.{Consumes, IsAtEnd}
use Rattle.std.specs.List.{AllByRecursion}
use Rattle.hg_store.specs.Entries.{Entry}
use Rattle.hg_store.specs.Head.{version_of}
use Rattle.hg_store.specs.Pieces.{HasToGive}
use Rattle.hg_store.specs.Records.{IsRecord, IsTorn, frames, last_digest}
use Rattle.hg_store.specs.declared.head.Head.{Head}
use Rattle.hg_store.specs.declared.head.Version.{Version}
use Rattle.hg_store_tools.specs.Places.{IsReadOn, IsUnreadOn}
use Rattle.hg_store_tools.specs.Reading.{EndsSo}
use Rattle.hg_store_tools.specs.Visiting.{IsUnreadAt, StopsVisitingFrom, VisitsFrom, failed, unread}
use Rattle.hg_store_tools.specs.declared.fault.Fault.{Fault}
use Rattle.hg_store_tools.specs.declared.fault.Fault.TheVariants.{Damaged, Exists, Failed, Head as HasNoHead, Held}
use Rattle.hg_store_tools.specs.declared.fault.Fault.TheVariants.{Missing, NoBundle, NoMemory, NoPlace, Refused}
use Rattle.hg_store_tools.specs.declared.fault.Fault.TheVariants.{Torn as TornAt, Unsent, Upgraded}
use Rattle.hg_store_tools.specs.declared.fault.StoreEnd.{StoreEnd}
use Rattle.hg_store_tools.specs.declared.fault.StoreEnd.TheVariants.{Whole, Torn}
use Rattle.hg_store_tools.specs.declared.marks.Mark.{Mark}
use Rattle.hg_store_tools.proofs.Files.{IsFileOf, damaged_more, end_more, file_of}

-- what follows the bytes that were read changes nothing
ends_more : (ending : StoreEnd) (version : Version) (count : ℕ) (tail more : List ℕ) → (tail ≡ [] → more ≡ [])
    → (ending ≢ Whole → more ≡ []) → EndsSo ending version count tail → EndsSo ending version count (tail ++ more)
ends_more Whole version count tail more none over ends = end_more tail more none ends
ends_more (Torn whole) version count tail more none over ends = (
  ends.0,
  subst (IsTorn version)
      (sym (append-nil tail) ∙ ap (λ (l : List ℕ). tail ++ l) (sym (over (λ same. absurd (cc same)))))
      ends.1,
)

unread_more : (fault : Fault) (version : Version) (digest : List ℕ) (count : ℕ) (tail more : List ℕ)
    → IsUnreadAt fault version digest count tail → IsUnreadAt fault version digest count (tail ++ more)
unread_more (Damaged at) version digest count tail more why = (why.0, damaged_more version digest tail more why.1)
unread_more NoMemory version digest count tail more why = tt
unread_more Failed version digest count tail more why = tt
unread_more Missing version digest count tail more why = absurd why
unread_more (HasNoHead fault) version digest count tail more why = absurd why
unread_more (NoBundle at) version digest count tail more why = absurd why
unread_more (Refused at) version digest count tail more why = absurd why
unread_more (NoPlace whole) version digest count tail more why = absurd why
unread_more (TornAt whole) version digest count tail more why = absurd why
unread_more Upgraded version digest count tail more why = absurd why
unread_more Held version digest count tail more why = absurd why
unread_more Exists version digest count tail more why = absurd why
unread_more Unsent version digest count tail more why = absurd why

module _ (head : Head) (mark : Mark) (b c : Option (List ℕ)) (records : List Entry) (tail : List ℕ)
    (each : AllByRecursion (IsRecord (version_of head)) records)
    (gone : Consumes b c (frames (version_of head) mark.digest records ++ tail)) where
  -- what the reader has to give from the mark on
  pub rest_of : IsFileOf b c (frames (version_of head) mark.digest records ++ tail)
  rest_of = file_of b c (frames (version_of head) mark.digest records ++ tail) gone

  spelled_on : rest_of.file ≡ frames (version_of head) mark.digest records ++ (tail ++ rest_of.rest)
  spelled_on =
      rest_of.spelled ∙ append_assoc (frames (version_of head) mark.digest records) tail rest_of.rest

  pub read_on : (ending : StoreEnd) → ((tail ≡ []) ⊎ (ending ≢ Whole) → IsAtEnd c)
      → EndsSo ending (version_of head) (mark.place + length records) tail
      → IsReadOn head mark rest_of.file records ending
  read_on ending over ends = record {
    tail = tail ++ rest_of.rest;
    each = each;
    spelled = spelled_on;
    ends = ends_more ending (version_of head) (mark.place + length records) tail rest_of.rest
        (λ none. rest_of.over (over (inl none))) (λ other. rest_of.over (over (inr other))) ends;
  }

  pub unread_on : (fault : Fault)
      → IsUnreadAt fault (version_of head) (last_digest (version_of head) mark.digest records)
      (mark.place + length records) tail → IsUnreadOn head mark rest_of.file fault
  unread_on fault why = record {
    records = records;
    tail = tail ++ rest_of.rest;
    each = each;
    spelled = spelled_on;
    why = unread_more fault (version_of head) (last_digest (version_of head) mark.digest records)
        (mark.place + length records) tail rest_of.rest why;
  }

module _ {T : Type 0} (head : Head) (mark : Mark) (b c : Option (List ℕ)) (step : ℕ → Entry → T → T → Type 0)
    (first last : T) where
  pub checked_on : (ending : StoreEnd) → VisitsFrom step head mark.place mark.digest b c ending first last
      → (rest : List ℕ) × HasToGive b rest × (records : List Entry) × IsReadOn head mark rest records ending
  checked_on ending visits =
      let at = rest_of head mark b c visits.records visits.tail visits.each visits.gone in (
        at.file,
        at.is,
        visits.records,
        read_on head mark b c visits.records visits.tail visits.each visits.gone ending visits.over visits.ends,
      )

  pub not_checked_on : (fails : ℕ → Entry → Fault → T → T → Type 0) (fault : Fault)
      → StopsVisitingFrom step fails head mark.place mark.digest b c fault first last
      → ((place : ℕ) (entry : Entry) (before after : T) → fails place entry fault before after → ⊥)
      → (rest : List ℕ) × HasToGive b rest × IsUnreadOn head mark rest fault
  not_checked_on fails fault stops never = elim stops [
    | unread records tail mid each gone why visited ↦
        let at = rest_of head mark b mid records tail each gone in
        (at.file, at.is, unread_on head mark b mid records tail each gone fault why)
    | failed records entry mid each gone visited why ↦
        absurd (never (mark.place + length records) entry mid last why)
  ]
