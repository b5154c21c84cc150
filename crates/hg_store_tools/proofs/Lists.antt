-- Lines that are written of the records of a store, from a place on.
use Rattle.std.proofs.Common.{◌≡◌, ◌⊎◌, inl, inr, ℕ, zero, suc, ◌+◌, ◌-◌, ◌<◌, ◌≤◌, List, [], ◌∷◌, ◌++◌, length, drop}
use Rattle.std.proofs.Common.{refl, sym, ◌∙◌, subst, arith, Option}
use Rattle.std.proofs.lemmas.List.{append-nil}
use Rattle.std.proofs.KnownBytes.{Appends-nil, Appends-trans}
use Rattle.std.specs.Io.KnownBytes.{Appends, Consumes}
use Rattle.std.specs.List.{concat}
use Rattle.hg_store.specs.Entries.{Entry}
use Rattle.hg_store.specs.Head.{version_of}
use Rattle.hg_store.specs.Pieces.{HasToGive}
use Rattle.hg_store.specs.Records.{frames}
use Rattle.hg_store.specs.declared.head.Head.{Head}
use Rattle.hg_connection.specs.Devices.{Output}
use Rattle.hg_connection.specs.Sent.{Sends}
use Rattle.hg_connection.specs.declared.sending.Sending.{Sending}
use Rattle.hg_connection.specs.declared.sending.Sending.TheVariants.{Whole as sent_whole}
use Rattle.hg_store_tools.specs.Canonical.{IsUncanonical}
use Rattle.hg_store_tools.specs.Listing.{AreLines, IsLine, IsListed, IsListedOn, IsUnlisted, ListForm}
use Rattle.hg_store_tools.specs.Listing.{ListsNoRecord, ListsRecord}
use Rattle.hg_store_tools.specs.Listing.{headless, no_line, stopped, unread, unsent}
use Rattle.hg_store_tools.specs.Reporting.{sending_fault}
use Rattle.hg_store_tools.specs.Visiting.{Begins, StopsVisiting, Visits, VisitsEach, VisitsFrom, has_no_begin}
use Rattle.hg_store_tools.specs.Visiting.{failed as not_done, unread as not_read}
use Rattle.hg_store_tools.specs.declared.fault.Fault.{Fault}
use Rattle.hg_store_tools.specs.declared.fault.Fault.TheVariants.{NoMemory, Unsent}
use Rattle.hg_store_tools.specs.declared.fault.StoreEnd.{StoreEnd}
use Rattle.hg_store_tools.proofs.Files.{from_front, has_front, headless as has_no_head, is_read, is_unread_at, whole_file}
use Rattle.hg_store_tools.specs.declared.marks.Mark.{Mark}
use Rattle.hg_store_tools.proofs.Places.{read_on, rest_of}
use Rattle.hg_store_tools.proofs.Written.{fault_told, whole_sent}

drop-none : (n : ℕ) → drop {A = Entry} n [] ≡ []
drop-none zero = refl
drop-none (suc n) = refl

-- how many records are passed over, the first of which is at this place
passed : (from place : ℕ) → place < from → from - place ≡ suc (from - (place + 1))
passed from place before = omega (arith, before)

-- where the next record is the first that is not passed over, or is behind that
first_after : (from place : ℕ) → place < from → place + (from - place) ≡ place + 1 + (from - (place + 1))
first_after from place before = omega (arith, before)

reached : (from place : ℕ) → from ≤ place → from - place ≡ 0
reached from place here = omega (arith, here)

reached_next : (from place : ℕ) → from ≤ place → from - (place + 1) ≡ 0
reached_next from place here = omega (arith, here)

first_here : (from place : ℕ) → from ≤ place → place + (from - place) ≡ place
first_here from place here = omega (arith, here)

first_next : (from place : ℕ) → from ≤ place → place + 1 + (from - (place + 1)) ≡ place + 1
first_next from place here = omega (arith, here)

module _ (A : Type 0) (list : ListForm) where
  -- the lines of these records, the first of which is at this place
  abbrev pub AreListed : ℕ → List Entry → List (List ℕ) → Type 0
  AreListed place records lines =
      AreLines A list.limits (place + (list.from - place)) (drop (list.from - place) records) lines

  pass_over : (place : ℕ) (entry : Entry) (records : List Entry) (lines : List (List ℕ)) → place < list.from
      → AreListed (place + 1) records lines → AreListed place (entry ∷ records) lines
  pass_over place entry records lines before are =
      let at = subst (λ (n : ℕ). AreLines A list.limits n (drop (list.from - (place + 1)) records) lines)
      (sym (first_after list.from place before)) are in
      subst (λ (n : ℕ). AreLines A list.limits (place + (list.from - place)) (drop n (entry ∷ records)) lines)
      (sym (passed list.from place before)) at

  list_one : (place : ℕ) (entry : Entry) (records : List Entry) (line : List ℕ) (lines : List (List ℕ))
      → list.from ≤ place → IsLine A list.limits place entry line → AreListed (place + 1) records lines
      → AreListed place (entry ∷ records) (line ∷ lines)
  list_one place entry records line lines here is are =
      let others = subst (λ (n : ℕ). AreLines A list.limits (place + 1) (drop n records) lines)
      (reached_next list.from place here)
      (subst (λ (n : ℕ). AreLines A list.limits n (drop (list.from - (place + 1)) records) lines)
      (first_next list.from place here) are) in
      let all : AreLines A list.limits place (entry ∷ records) (line ∷ lines) = (is, others) in
      subst (λ (n : ℕ). AreLines A list.limits n (drop (list.from - place) (entry ∷ records)) (line ∷ lines))
      (sym (first_here list.from place here))
      (subst (λ (n : ℕ). AreLines A list.limits place (drop n (entry ∷ records)) (line ∷ lines))
      (sym (reached list.from place here)) all)

  none_listed : (place : ℕ) → AreListed place [] []
  none_listed place =
      subst (λ (rs : List Entry). AreLines A list.limits (place + (list.from - place)) rs [])
      (sym (drop-none (list.from - place))) tt

  from_first : (records : List Entry) (lines : List (List ℕ)) → AreListed 0 records lines
      → AreLines A list.limits list.from (drop list.from records) lines
  from_first records lines are =
      let all : list.from - 0 ≡ list.from = omega arith in
      let first : 0 + (list.from - 0) ≡ list.from = omega arith in
      subst (λ (n : ℕ). AreLines A list.limits n (drop list.from records) lines) first
      (subst (λ (n : ℕ). AreLines A list.limits (0 + (list.from - 0)) (drop n records) lines) all are)

  module _ {W : Type 0} (taken : W → Option (List ℕ)) where
    abbrev pub Listing_step : ℕ → Entry → W → W → Type 0
    Listing_step place entry before after = ListsRecord A list place entry (taken before) (taken after)

    pub all_listed : (place : ℕ) (records : List Entry) (first last : W) → VisitsEach Listing_step place records first last
        → (lines : List (List ℕ)) × AreListed place records lines
        × Appends (taken first) (taken last) (concat lines)
    all_listed place [] first last same = (
      [],
      none_listed place,
      subst (λ (w : W). Appends (taken first) (taken w) []) (sym same) (Appends-nil (taken first)),
    )
    all_listed place (entry ∷ records) first last visited =
        let others = all_listed (place + 1) records visited.0 last visited.2 in
        elim visited.1 [
          | inl before ↦ (
            others.0,
            pass_over place entry records others.0 before.0 others.1,
            subst (λ (t : Option (List ℕ)). Appends t (taken last) (concat others.0)) before.1 others.2,
          )
          | inr here ↦ (
            here.1 ∷ others.0,
            list_one place entry records here.1 others.0 here.0 here.2 others.1,
            Appends-trans (taken first) (taken visited.0) (taken last) here.1 (concat others.0) here.3 others.2,
          )
        ]

-- a record's line was written, whole
pub lists_record : (A : Type 0) (list : ListForm) (place : ℕ) (entry : Entry) (line shown : List ℕ) (before after : Output)
    (count : ℕ) → list.from ≤ place → IsLine A list.limits place entry line → shown ≡ line
    → Sends sent_whole count before after shown → ListsRecord A list place entry before.taken after.taken
lists_record A list place entry line shown before after count here is same sends = inr (
  here,
  line,
  is,
  subst (λ (l : List ℕ). Appends before.taken after.taken l) same (whole_sent count before after shown sends),
)

-- it has none
pub lists_none : (A : Type 0) (list : ListForm) (place : ℕ) (entry : Entry) (fault : Fault) (taken : Option (List ℕ))
    → list.from ≤ place → IsUncanonical A fault place list.limits entry.bundle
    → ListsNoRecord A list place entry fault taken taken
lists_none A list place entry fault taken here why = (here, [], Appends-nil taken, no_line refl why)

-- a front of it was written
pub lists_front : (A : Type 0) (list : ListForm) (place : ℕ) (entry : Entry) (fault : Fault) (line shown : List ℕ)
    (before after : Output) (sending : Sending) (count : ℕ) → list.from ≤ place
    → IsLine A list.limits place entry line → shown ≡ line → fault ≡ sending_fault sending
    → Sends sending count before after shown → ListsNoRecord A list place entry fault before.taken after.taken
lists_front A list place entry fault line shown before after sending count here is same fault_is sends = (
  here,
  sends.gone,
  sends.bytes,
  unsent line sends.sent.rest is (sym same ∙ sends.sent.reply_is)
      (subst (λ (f : Fault). (f ≡ Unsent) ⊎ (f ≡ NoMemory)) (sym fault_is) (fault_told sending)),
)

abbrev pub list_form : Head → ℕ → ListForm
list_form head from = record { limits = head.limits; from = from }

module _ (A : Type 0) (from : ℕ) (head : Head) (digest : List ℕ) (a b c : Option (List ℕ))
    (begins : Begins a b head digest) {W : Type 0} (taken : W → Option (List ℕ)) (first last : W) where
  pub listed : (ending : StoreEnd)
      → Visits (Listing_step A (list_form head from) taken) head digest b c ending first last
      → (file : List ℕ) × HasToGive a file × IsListed A file from ending (taken first) (taken last)
  listed ending visits =
      let at = whole_file head digest a b c begins visits.records visits.tail visits.each visits.gone in
      let sent = all_listed A (list_form head from) taken 0 visits.records first last visits.visited in (
        at.file,
        at.is,
        record {
          head = head;
          records = visits.records;
          read = is_read head digest a b c begins visits.records visits.tail visits.each visits.gone ending visits.over
              visits.ends;
          lines = sent.0;
          are = from_first A (list_form head from) visits.records sent.0 sent.1;
          sent = sent.2;
        },
      )

  pub unlisted : (fault : Fault)
      → StopsVisiting (Listing_step A (list_form head from) taken)
      (λ place entry fault before after. ListsNoRecord A (list_form head from) place entry fault (taken before)
      (taken after)) head digest b c fault first last
      → (file : List ℕ) × HasToGive a file × IsUnlisted A file from (taken first) (taken last) fault
  unlisted fault stops = elim stops [
    | not_read records tail mid each gone why visited ↦
        let at = whole_file head digest a b mid begins records tail each gone in
        let sent = all_listed A (list_form head from) taken 0 records first last visited in (
          at.file,
          at.is,
          unread head records (tail ++ at.rest) sent.0
              (has_front head digest a b mid begins records tail each gone)
              (is_unread_at head digest a b mid begins records tail each gone fault why)
              (from_first A (list_form head from) records sent.0 sent.1) sent.2,
        )
    | not_done records entry mid each gone visited here ↦
        let why = subst (λ (n : ℕ). ListsNoRecord A (list_form head from) n entry fault (taken mid) (taken last))
        (from_front (length records)) here in
        let all : Consumes b c (frames (version_of head) digest (records ++ entry ∷ []) ++ []) =
        subst (Consumes b c) (sym (append-nil (frames (version_of head) digest (records ++ entry ∷ [])))) gone in
        let at = whole_file head digest a b c begins (records ++ entry ∷ []) [] each all in
        let sent = all_listed A (list_form head from) taken 0 records first mid visited in (
          at.file,
          at.is,
          stopped head records entry ([] ++ at.rest) sent.0 why.1
              (has_front head digest a b c begins (records ++ entry ∷ []) [] each all) why.0
              (from_first A (list_form head from) records sent.0 sent.1)
              (Appends-trans (taken first) (taken mid) (taken last) (concat sent.0) why.1 sent.2 why.2) why.3,
        )
  ]

-- nothing was read at all
pub unlisted_headless : (A : Type 0) (from : ℕ) (fault : Fault) (a b : Option (List ℕ)) (taken : Option (List ℕ))
    → has_no_begin fault a b → (file : List ℕ) × HasToGive a file × IsUnlisted A file from taken taken fault
unlisted_headless A from fault a b taken none =
    let at = has_no_head fault a b none in
    (at.0, at.1, headless at.2 refl)

-- ---- from a mark on

pub listed_on : (A : Type 0) (from : ℕ) (head : Head) (mark : Mark) (b c : Option (List ℕ)) {W : Type 0}
    (taken : W → Option (List ℕ)) (first last : W) (ending : StoreEnd) → mark.place ≤ from
    → VisitsFrom (Listing_step A (list_form head from) taken) head mark.place mark.digest b c ending first last
    → (rest : List ℕ) × HasToGive b rest × IsListedOn A head mark rest from ending (taken first) (taken last)
listed_on A from head mark b c taken first last ending within visits =
    let at = rest_of head mark b c visits.records visits.tail visits.each visits.gone in
    let sent = all_listed A (list_form head from) taken mark.place visits.records first last visits.visited in
    let first_is : mark.place + (from - mark.place) ≡ from = omega (arith, within) in (
      at.file,
      at.is,
      record {
        records = visits.records;
        read = read_on head mark b c visits.records visits.tail visits.each visits.gone ending visits.over visits.ends;
        lines = sent.0;
        are = subst (λ (n : ℕ). AreLines A head.limits n (drop (from - mark.place) visits.records) sent.0) first_is
            sent.1;
        sent = sent.2;
      },
    )
