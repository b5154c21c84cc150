-- Bundles that are written, or put on a shelf, from a place on.
use Rattle.std.proofs.Common.{◌≡◌, ◌⊎◌, inl, inr, ℕ, zero, suc, ◌+◌, ◌-◌, ◌<◌, ◌≤◌, List, [], ◌∷◌, ◌++◌, length, drop}
use Rattle.std.proofs.Common.{refl, sym, ◌∙◌, subst, arith, Option}
use Rattle.std.proofs.lemmas.List.{append-nil}
use Rattle.std.proofs.KnownBytes.{Appends-nil, Appends-trans}
use Rattle.std.specs.Io.KnownBytes.{Appends, Consumes}
use Rattle.std.specs.List.{concat}
use Rattle.hg_types.specs.declared.limits.Limits.{Limits}
use Rattle.hg_store.specs.Entries.{Entry}
use Rattle.hg_store.specs.Head.{version_of}
use Rattle.hg_store.specs.Pieces.{HasToGive}
use Rattle.hg_store.specs.Records.{frames}
use Rattle.hg_store.specs.declared.head.Head.{Head}
use Rattle.hg_connection.specs.Devices.{Output, TellsMore}
use Rattle.hg_connection.specs.Sent.{Sends}
use Rattle.hg_connection.specs.declared.sending.Sending.{Sending}
use Rattle.hg_connection.specs.declared.sending.Sending.TheVariants.{Whole as sent_whole}
use Rattle.hg_connection.proofs.DeviceLemmas.{Adds-nil, Adds-trans}
use Rattle.hg_store_tools.specs.Canonical.{IsUncanonical}
use Rattle.hg_store_tools.specs.Logging.{AreInForm, IsInForm, IsLogged, IsLoggedOn, IsShelved, IsShelvedOn}
use Rattle.hg_store_tools.specs.Logging.{IsUnlogged, LogForm}
use Rattle.hg_store_tools.specs.Logging.{PutsRecord, SendsNoRecord, SendsRecord, numbered}
use Rattle.hg_store_tools.specs.Logging.{headless, stopped, uncanonical, unread, unsent}
use Rattle.hg_store_tools.specs.Reporting.{sending_fault}
use Rattle.hg_store_tools.specs.Visiting.{Begins, StopsVisiting, Visits, VisitsEach, VisitsFrom, has_no_begin}
use Rattle.hg_store_tools.specs.Visiting.{failed as not_done, unread as not_read}
use Rattle.hg_store_tools.specs.declared.fault.Fault.{Fault}
use Rattle.hg_store_tools.specs.declared.fault.Fault.TheVariants.{NoMemory, Unsent}
use Rattle.hg_store_tools.specs.declared.fault.StoreEnd.{StoreEnd}
use Rattle.hg_store_tools.specs.declared.form.BundleForm.{BundleForm}
use Rattle.hg_store_tools.specs.declared.form.BundleForm.TheVariants.{Stored, Canonical}
use Rattle.hg_store_tools.proofs.Files.{from_front, has_front, headless as has_no_head, is_read, is_unread_at, whole_file}
use Rattle.hg_store_tools.specs.declared.marks.Mark.{Mark}
use Rattle.hg_store_tools.proofs.Places.{read_on, rest_of}
use Rattle.hg_store_tools.proofs.Written.{fault_told, whole_sent}

none_in_form : (form : BundleForm) (A : Type 0) (limits : Limits) → AreInForm form A limits [] []
none_in_form Stored A limits = refl
none_in_form Canonical A limits = tt

one_in_form : (form : BundleForm) (A : Type 0) (limits : Limits) (entry : Entry) (records : List Entry)
    (bundle : List ℕ) (bundles : List (List ℕ)) → IsInForm form A limits entry.bundle bundle
    → AreInForm form A limits records bundles → AreInForm form A limits (entry ∷ records) (bundle ∷ bundles)
one_in_form Stored A limits entry records bundle bundles is are = λ i. is i ∷ are i
one_in_form Canonical A limits entry records bundle bundles is are = (is, are)

drop-none : (n : ℕ) → drop {A = Entry} n [] ≡ []
drop-none zero = refl
drop-none (suc n) = refl

-- how many records are passed over, the first of which is at this place
passed : (from place : ℕ) → place < from → from - place ≡ suc (from - (place + 1))
passed from place before = omega (arith, before)

reached : (from place : ℕ) → from ≤ place → from - place ≡ 0
reached from place here = omega (arith, here)

reached_next : (from place : ℕ) → from ≤ place → from - (place + 1) ≡ 0
reached_next from place here = omega (arith, here)

module _ (A : Type 0) (log : LogForm) where
  -- the bundles of these records, the first of which is at this place
  abbrev pub AreWritten : ℕ → List Entry → List (List ℕ) → Type 0
  AreWritten place records bundles = AreInForm log.form A log.limits (drop (log.from - place) records) bundles

  pass_over : (place : ℕ) (entry : Entry) (records : List Entry) (bundles : List (List ℕ)) → place < log.from
      → AreWritten (place + 1) records bundles → AreWritten place (entry ∷ records) bundles
  pass_over place entry records bundles before are =
      subst (λ (n : ℕ). AreInForm log.form A log.limits (drop n (entry ∷ records)) bundles)
      (sym (passed log.from place before)) are

  write_one : (place : ℕ) (entry : Entry) (records : List Entry) (bundle : List ℕ) (bundles : List (List ℕ))
      → log.from ≤ place → IsInForm log.form A log.limits entry.bundle bundle → AreWritten (place + 1) records bundles
      → AreWritten place (entry ∷ records) (bundle ∷ bundles)
  write_one place entry records bundle bundles here is are =
      let others = subst (λ (n : ℕ). AreInForm log.form A log.limits (drop n records) bundles)
      (reached_next log.from place here) are in
      subst (λ (n : ℕ). AreInForm log.form A log.limits (drop n (entry ∷ records)) (bundle ∷ bundles))
      (sym (reached log.from place here))
      (one_in_form log.form A log.limits entry records bundle bundles is others)

  none_written : (place : ℕ) → AreWritten place [] []
  none_written place =
      subst (λ (rs : List Entry). AreInForm log.form A log.limits rs []) (sym (drop-none (log.from - place)))
      (none_in_form log.form A log.limits)

  from_first : (records : List Entry) (bundles : List (List ℕ)) → AreWritten 0 records bundles
      → AreInForm log.form A log.limits (drop log.from records) bundles
  from_first records bundles are =
      let all : log.from - 0 ≡ log.from = omega arith in
      subst (λ (n : ℕ). AreInForm log.form A log.limits (drop n records) bundles) all are

  module _ {W : Type 0} (taken : W → Option (List ℕ)) where
    abbrev pub Sending_step : ℕ → Entry → W → W → Type 0
    Sending_step place entry before after = SendsRecord A log place entry (taken before) (taken after)

    pub all_sent : (place : ℕ) (records : List Entry) (first last : W) → VisitsEach Sending_step place records first last
        → (bundles : List (List ℕ)) × AreWritten place records bundles
        × Appends (taken first) (taken last) (concat bundles)
    all_sent place [] first last same = (
      [],
      none_written place,
      subst (λ (w : W). Appends (taken first) (taken w) []) (sym same) (Appends-nil (taken first)),
    )
    all_sent place (entry ∷ records) first last visited =
        let others = all_sent (place + 1) records visited.0 last visited.2 in
        elim visited.1 [
          | inl before ↦ (
            others.0,
            pass_over place entry records others.0 before.0 others.1,
            subst (λ (t : Option (List ℕ)). Appends t (taken last) (concat others.0)) before.1 others.2,
          )
          | inr here ↦ (
            here.1 ∷ others.0,
            write_one place entry records here.1 others.0 here.0 here.2 others.1,
            Appends-trans (taken first) (taken visited.0) (taken last) here.1 (concat others.0) here.3 others.2,
          )
        ]

  module _ {S : Type 0} (has : S → Option (List (ℕ × List ℕ))) where
    abbrev pub Putting_step : ℕ → Entry → S → S → Type 0
    Putting_step place entry before after = PutsRecord A log place entry (has before) (has after)

    -- they begin at the place, or where the log does
    abbrev start_at : ℕ → ℕ
    start_at place = place + (log.from - place)

    pub all_put : (place : ℕ) (records : List Entry) (first last : S) → VisitsEach Putting_step place records first last
        → (bundles : List (List ℕ)) × AreWritten place records bundles
        × TellsMore (has first) (has last) (numbered (start_at place) bundles)
    all_put place [] first last same = (
      [],
      none_written place,
      subst (λ (s : S). TellsMore (has first) (has s) []) (sym same) (Adds-nil (has first)),
    )
    all_put place (entry ∷ records) first last visited =
        let others = all_put (place + 1) records visited.0 last visited.2 in
        elim visited.1 [
          | inl before ↦
              let same : start_at (place + 1) ≡ start_at place = omega (arith, before.0) in (
                others.0,
                pass_over place entry records others.0 before.0 others.1,
                subst (λ (t : Option (List (ℕ × List ℕ))). TellsMore t (has last) (numbered (start_at place) others.0))
                    before.1
                    (subst (λ (n : ℕ). TellsMore (has visited.0) (has last) (numbered n others.0)) same others.2),
              )
          | inr here ↦
              let now : start_at place ≡ place = omega (arith, here.0) in
              let next : start_at (place + 1) ≡ place + 1 = omega (arith, here.0) in (
                here.1 ∷ others.0,
                write_one place entry records here.1 others.0 here.0 here.2 others.1,
                subst (λ (n : ℕ). TellsMore (has first) (has last) (numbered n (here.1 ∷ others.0))) (sym now)
                    (Adds-trans (has first) (has visited.0) (has last) ((place, here.1) ∷ [])
                    (numbered (place + 1) others.0) here.3
                    (subst (λ (n : ℕ). TellsMore (has visited.0) (has last) (numbered n others.0)) next others.2)),
              )
        ]

-- a record's bundle was written, whole
pub sends_record : (A : Type 0) (log : LogForm) (place : ℕ) (entry : Entry) (bundle shown : List ℕ) (before after : Output)
    (count : ℕ) → log.from ≤ place → IsInForm log.form A log.limits entry.bundle bundle → shown ≡ bundle
    → Sends sent_whole count before after shown → SendsRecord A log place entry before.taken after.taken
sends_record A log place entry bundle shown before after count here is same sends = inr (
  here,
  bundle,
  is,
  subst (λ (l : List ℕ). Appends before.taken after.taken l) same (whole_sent count before after shown sends),
)

-- it has none in that form
pub sends_none : (A : Type 0) (log : LogForm) (place : ℕ) (entry : Entry) (fault : Fault) (taken : Option (List ℕ))
    → log.from ≤ place → IsUncanonical A fault place log.limits entry.bundle
    → SendsNoRecord A log place entry fault taken taken
sends_none A log place entry fault taken here why = (here, [], Appends-nil taken, uncanonical refl why)

-- a front of it was written
pub sends_front : (A : Type 0) (log : LogForm) (place : ℕ) (entry : Entry) (fault : Fault) (bundle shown : List ℕ)
    (before after : Output) (sending : Sending) (count : ℕ) → log.from ≤ place
    → IsInForm log.form A log.limits entry.bundle bundle → shown ≡ bundle → fault ≡ sending_fault sending
    → Sends sending count before after shown → SendsNoRecord A log place entry fault before.taken after.taken
sends_front A log place entry fault bundle shown before after sending count here is same fault_is sends = (
  here,
  sends.gone,
  sends.bytes,
  unsent bundle sends.sent.rest is (sym same ∙ sends.sent.reply_is)
      (subst (λ (f : Fault). (f ≡ Unsent) ⊎ (f ≡ NoMemory)) (sym fault_is) (fault_told sending)),
)

abbrev pub log_form : BundleForm → Head → ℕ → LogForm
log_form form head from = record { limits = head.limits; from = from; form = form }

module _ (form : BundleForm) (A : Type 0) (from : ℕ) (head : Head) (digest : List ℕ) (a b c : Option (List ℕ))
    (begins : Begins a b head digest) where
  module _ {W : Type 0} (taken : W → Option (List ℕ)) (first last : W) where
    pub logged : (ending : StoreEnd)
        → Visits (Sending_step A (log_form form head from) taken) head digest b c ending first last
        → (file : List ℕ) × HasToGive a file × IsLogged form A file from ending (taken first) (taken last)
    logged ending visits =
        let at = whole_file head digest a b c begins visits.records visits.tail visits.each visits.gone in
        let sent = all_sent A (log_form form head from) taken 0 visits.records first last visits.visited in (
          at.file,
          at.is,
          record {
            head = head;
            records = visits.records;
            read = is_read head digest a b c begins visits.records visits.tail visits.each visits.gone ending visits.over
                visits.ends;
            bundles = sent.0;
            are = from_first A (log_form form head from) visits.records sent.0 sent.1;
            sent = sent.2;
          },
        )

    pub unlogged : (fault : Fault)
        → StopsVisiting (Sending_step A (log_form form head from) taken)
        (λ place entry fault before after. SendsNoRecord A (log_form form head from) place entry fault (taken before)
        (taken after)) head digest b c fault first last
        → (file : List ℕ) × HasToGive a file × IsUnlogged form A file from (taken first) (taken last) fault
    unlogged fault stops = elim stops [
      | not_read records tail mid each gone why visited ↦
          let at = whole_file head digest a b mid begins records tail each gone in
          let sent = all_sent A (log_form form head from) taken 0 records first last visited in (
            at.file,
            at.is,
            unread head records (tail ++ at.rest) sent.0
                (has_front head digest a b mid begins records tail each gone)
                (is_unread_at head digest a b mid begins records tail each gone fault why)
                (from_first A (log_form form head from) records sent.0 sent.1) sent.2,
          )
      | not_done records entry mid each gone visited here ↦
          let why = subst (λ (n : ℕ). SendsNoRecord A (log_form form head from) n entry fault (taken mid) (taken last))
          (from_front (length records)) here in
          let all : Consumes b c (frames (version_of head) digest (records ++ entry ∷ []) ++ []) =
          subst (Consumes b c) (sym (append-nil (frames (version_of head) digest (records ++ entry ∷ [])))) gone in
          let at = whole_file head digest a b c begins (records ++ entry ∷ []) [] each all in
          let sent = all_sent A (log_form form head from) taken 0 records first mid visited in (
            at.file,
            at.is,
            stopped head records entry ([] ++ at.rest) sent.0 why.1
                (has_front head digest a b c begins (records ++ entry ∷ []) [] each all) why.0
                (from_first A (log_form form head from) records sent.0 sent.1)
                (Appends-trans (taken first) (taken mid) (taken last) (concat sent.0) why.1 sent.2 why.2) why.3,
          )
    ]

  pub shelved : {S : Type 0} (has : S → Option (List (ℕ × List ℕ))) (first last : S) (ending : StoreEnd)
      → Visits (Putting_step A (log_form form head from) has) head digest b c ending first last
      → (file : List ℕ) × HasToGive a file × IsShelved form A file from ending (has first) (has last)
  shelved {S} has first last ending visits =
      let at = whole_file head digest a b c begins visits.records visits.tail visits.each visits.gone in
      let put = all_put A (log_form form head from) has 0 visits.records first last visits.visited in
      let first_is : 0 + (from - 0) ≡ from = omega arith in (
        at.file,
        at.is,
        record {
          head = head;
          records = visits.records;
          read = is_read head digest a b c begins visits.records visits.tail visits.each visits.gone ending visits.over
              visits.ends;
          bundles = put.0;
          are = from_first A (log_form form head from) visits.records put.0 put.1;
          put = subst (λ (n : ℕ). TellsMore (has first) (has last) (numbered n put.0)) first_is put.2;
        },
      )

-- nothing was read at all
pub unlogged_headless : (form : BundleForm) (A : Type 0) (from : ℕ) (fault : Fault) (a b : Option (List ℕ))
    (taken : Option (List ℕ)) → has_no_begin fault a b
    → (file : List ℕ) × HasToGive a file × IsUnlogged form A file from taken taken fault
unlogged_headless form A from fault a b taken none =
    let at = has_no_head fault a b none in
    (at.0, at.1, headless at.2 refl)

-- ---- from a mark on

module _ (form : BundleForm) (A : Type 0) (from : ℕ) (head : Head) (mark : Mark) (b c : Option (List ℕ)) where
  pub logged_on : {W : Type 0} (taken : W → Option (List ℕ)) (first last : W) (ending : StoreEnd)
      → VisitsFrom (Sending_step A (log_form form head from) taken) head mark.place mark.digest b c ending first last
      → (rest : List ℕ) × HasToGive b rest
      × IsLoggedOn form A head mark rest from ending (taken first) (taken last)
  logged_on taken first last ending visits =
      let at = rest_of head mark b c visits.records visits.tail visits.each visits.gone in
      let sent = all_sent A (log_form form head from) taken mark.place visits.records first last visits.visited in (
        at.file,
        at.is,
        record {
          records = visits.records;
          read = read_on head mark b c visits.records visits.tail visits.each visits.gone ending visits.over visits.ends;
          bundles = sent.0;
          are = sent.1;
          sent = sent.2;
        },
      )

  pub shelved_on : {S : Type 0} (has : S → Option (List (ℕ × List ℕ))) (first last : S) (ending : StoreEnd)
      → mark.place ≤ from
      → VisitsFrom (Putting_step A (log_form form head from) has) head mark.place mark.digest b c ending first last
      → (rest : List ℕ) × HasToGive b rest
      × IsShelvedOn form A head mark rest from ending (has first) (has last)
  shelved_on has first last ending within visits =
      let at = rest_of head mark b c visits.records visits.tail visits.each visits.gone in
      let put = all_put A (log_form form head from) has mark.place visits.records first last visits.visited in
      let first_is : mark.place + (from - mark.place) ≡ from = omega (arith, within) in (
        at.file,
        at.is,
        record {
          records = visits.records;
          read = read_on head mark b c visits.records visits.tail visits.each visits.gone ending visits.over visits.ends;
          bundles = put.0;
          are = put.1;
          put = subst (λ (n : ℕ). TellsMore (has first) (has last) (numbered n put.0)) first_is put.2;
        },
      )
