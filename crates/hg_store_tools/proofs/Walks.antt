-- Marks of a store that is read from one of them on.
use Rattle.std.proofs.Common.{◌≡◌, ◌⊎◌, inl, inr, ℕ, ◌+◌, ◌<◌, ◌≤◌, List, [], ◌∷◌, ◌++◌, length, drop}
use Rattle.std.proofs.Common.{get_or, take, take-append-drop, Result, Ok, Err}
use Rattle.std.proofs.lemmas.List.{drop_more}
use Rattle.std.specs.Prelude.{IfOk}
use Rattle.std.proofs.Common.{refl, sym, ap, ◌∙◌, subst, arith, append_assoc, length-append, Option, Some, None}
use Rattle.std.proofs.KnownBytes.{Consumes-nil, Consumes-trans}
use Rattle.std.specs.Io.KnownBytes.{Consumes}
use Rattle.std.specs.List.{AllByRecursion}
use Rattle.sha1.specs.Sha1.{sha1, digest_bytes}
use Rattle.hg_store.specs.Entries.{Entry}
use Rattle.hg_store.specs.Head.{HasHead, head_bytes, version_of}
use Rattle.hg_store.specs.Pieces.{GivesRecord}
use Rattle.hg_store.specs.Records.{IsRecord, chained_label, digest_of, frame, frames, label, last_digest, numbers_bytes}
use Rattle.hg_store.specs.Records.{numbers_of, numbers_size}
use Rattle.hg_store.specs.declared.head.Head.{Head}
use Rattle.hg_store.specs.declared.head.Version.{Version}
use Rattle.hg_store.specs.declared.head.Version.TheVariants.{First, Second}
use Rattle.hg_store.specs.declared.numbers.Numbers.{Numbers}
use Rattle.hg_store_tools.specs.Places.{BeginsAt, IsAmong, IsBehind, IsIndexOf, IsReached, LeadsTo, Says, front_mark}
use Rattle.hg_store_tools.specs.Places.{index_bytes}
use Rattle.hg_store_tools.specs.Reading.{GivesFrom}
use Rattle.hg_store_tools.specs.Visiting.{Begins}
use Rattle.hg_store_tools.specs.declared.marks.Mark.{Mark}
use Rattle.hg_store_tools.specs.declared.marks.StoreStart.{StoreStart}
use Rattle.hg_store_tools.proofs.Frames.{each-push, frames-push, last_digest-push}

-- ---- how long a record is

length-sha1 : (m : List ℕ) → length (sha1 m) ≡ 20
unfolding sha1 digest_bytes
length-sha1 m = refl

length-numbers : (version : Version) (numbers : Numbers)
    → length (numbers_bytes version numbers) ≡ numbers_size version
length-numbers First numbers = refl
length-numbers Second numbers = refl

pub frame_long : (version : Version) (before : List ℕ) (r : Entry)
    → length (frame version before r) ≡ 21 + numbers_size version + length r.stamp.name + length r.bundle
frame_long version before r =
    let digest : List ℕ = digest_of version before r in
    omega (
      arith,
      length-append (label version r) (digest ++ r.bundle),
      length-append digest r.bundle,
      length-sha1 (before ++ (chained_label version (label version r) ++ sha1 r.bundle)),
      length-append (numbers_bytes version (numbers_of r)) r.stamp.name,
      length-numbers version (numbers_of r),
    )

pub size_so : (version : Version) (entry : Entry) (size beside : ℕ) (name bundle : List ℕ)
    → size ≡ beside + length name + length bundle → beside ≡ 21 + numbers_size version → name ≡ entry.stamp.name
    → bundle ≡ entry.bundle → (before : List ℕ) → size ≡ length (frame version before entry)
size_so version entry size beside name bundle sum beside_is name_is bundle_is before =
    omega (arith, sum, beside_is, ap length name_is, ap length bundle_is, frame_long version before entry)

-- ---- lists of marks

all_push : (P : Mark → Type 0) (marks : List Mark) (mark : Mark) → AllByRecursion P marks → P mark
    → AllByRecursion P (marks ++ mark ∷ [])
all_push P [] mark each is = (is, tt)
all_push P (other ∷ marks) mark each is = (each.0, all_push P marks mark each.1 is)

all_append : (P : Mark → Type 0) (marks more : List Mark) → AllByRecursion P marks → AllByRecursion P more
    → AllByRecursion P (marks ++ more)
all_append P [] more each others = others
all_append P (mark ∷ marks) more each others = (each.0, all_append P marks more each.1 others)

all_then : (P Q : Mark → Type 0) (marks : List Mark) → ((mark : Mark) → P mark → Q mark) → AllByRecursion P marks
    → AllByRecursion Q marks
all_then P Q [] step each = tt
all_then P Q (mark ∷ marks) step each = (step mark each.0, all_then P Q marks step each.1)

all_middle : (P : Mark → Type 0) (before after : List Mark) (mark : Mark) → AllByRecursion P (before ++ mark ∷ after)
    → P mark
all_middle P [] after mark each = each.0
all_middle P (other ∷ before) after mark each = all_middle P before after mark each.1

pub all_among : (P : Mark → Type 0) (marks : List Mark) (mark : Mark) → IsAmong mark marks → AllByRecursion P marks
    → P mark
all_among P marks mark among each = all_middle P among.0 among.1 mark (subst (AllByRecursion P) among.2 each)

-- a mark of a list, with those before it and those behind it
pub split_at : (marks : List Mark) (n : ℕ) (none : Mark) → n < length marks
    → (after : List Mark) × (marks ≡ take n marks ++ get_or marks n none ∷ after)
split_at marks n none less = (
  drop (n + 1) marks,
  sym (take-append-drop n marks) ∙ ap (λ (ms : List Mark). take n marks ++ ms) (drop_more marks n none less),
)

-- ---- records from a mark on

-- The reader gave records from the first mark on, and is at this one; those that were noted are reached.
pub record Walking (version : Version) (first : Mark) (until : ℕ) (a b : Option (List ℕ)) (mark : Mark)
    (marks : List Mark) : Type 0 where
  pub records : List Entry
  pub each : AllByRecursion (IsRecord version) records
  pub gone : Consumes a b (frames version first.digest records)
  pub place_is : mark.place ≡ first.place + length records
  pub offset_is : mark.offset ≡ first.offset + length (frames version first.digest records)
  pub digest_is : mark.digest ≡ last_digest version first.digest records
  pub within : mark.place ≤ until
  pub places : AllByRecursion (λ (m : Mark). m.place ≤ until) marks
  pub lead : (bytes : List ℕ) → a ≡ Some bytes → AllByRecursion (LeadsTo version bytes first) marks

pub walking_none : (version : Version) (first : Mark) (until : ℕ) (a : Option (List ℕ)) (marks : List Mark)
    → first.place ≤ until → marks ≡ [] → Walking version first until a a first marks
walking_none version first until a marks within none = record {
  records = [];
  each = tt;
  gone = Consumes-nil a;
  place_is = omega arith;
  offset_is = omega arith;
  digest_is = refl;
  within = within;
  places = subst (AllByRecursion (λ (m : Mark). m.place ≤ until)) (sym none) tt;
  lead = λ bytes _. subst (AllByRecursion (LeadsTo version bytes first)) (sym none) tt;
}

given_by : (bytes x : List ℕ) (c : Option (List ℕ)) → Consumes (Some bytes) c x → (rest : List ℕ) × (bytes ≡ x ++ rest)
given_by bytes x None gone = absurd gone
given_by bytes x (Some rest) gone = (rest, gone)

module _ (version : Version) (first : Mark) (until : ℕ) (a b c : Option (List ℕ)) (mark : Mark) (marks then : List Mark)
    (entry : Entry) (digest : List ℕ) (walking : Walking version first until a b mark marks)
    (gives : GivesRecord version mark.digest b c entry digest)
    (noted : (then ≡ marks) ⊎ (then ≡ marks ++ mark ∷ [])) where
  all_gone : Consumes a c (frames version first.digest walking.records ++ frame version mark.digest entry)
  all_gone = Consumes-trans a b c (frames version first.digest walking.records) (frame version mark.digest entry)
      walking.gone gives.gone

  leads : (bytes : List ℕ) → a ≡ Some bytes → LeadsTo version bytes first mark
  leads bytes is =
      let at = given_by bytes (frames version first.digest walking.records ++ frame version mark.digest entry) c
      (subst (λ (o : Option (List ℕ)). Consumes o c
      (frames version first.digest walking.records ++ frame version mark.digest entry)) is all_gone) in
      record {
        records = walking.records;
        next = entry;
        behind = at.0;
        each = walking.each;
        is = gives.is;
        spelled = at.1
            ∙ append_assoc (frames version first.digest walking.records) (frame version mark.digest entry) at.0;
        place_is = walking.place_is;
        offset_is = walking.offset_is;
        digest_is = walking.digest_is;
      }

  pub places_then : AllByRecursion (λ (m : Mark). m.place ≤ until) then
  places_then = elim noted [
    | inl same ↦ subst (AllByRecursion (λ (m : Mark). m.place ≤ until)) (sym same) walking.places
    | inr more ↦ subst (AllByRecursion (λ (m : Mark). m.place ≤ until)) (sym more)
        (all_push (λ (m : Mark). m.place ≤ until) marks mark walking.places walking.within)
  ]

  pub lead_then : (bytes : List ℕ) → a ≡ Some bytes → AllByRecursion (LeadsTo version bytes first) then
  lead_then bytes is = elim noted [
    | inl same ↦ subst (AllByRecursion (LeadsTo version bytes first)) (sym same) (walking.lead bytes is)
    | inr more ↦ subst (AllByRecursion (LeadsTo version bytes first)) (sym more)
        (all_push (LeadsTo version bytes first) marks mark (walking.lead bytes is) (leads bytes is))
  ]

  pub walking_more : (next : Mark) → mark.place < until → IsBehind version mark entry digest next
      → Walking version first until a c next then
  walking_more next less behind =
      let frames_are = frames-push version first.digest walking.records entry in
      let size : length (frames version first.digest (walking.records ++ entry ∷ []))
      ≡ length (frames version first.digest walking.records)
      + length (frame version (last_digest version first.digest walking.records) entry) =
      ap length frames_are
      ∙ length-append (frames version first.digest walking.records)
      (frame version (last_digest version first.digest walking.records) entry) in
      let one : length (frame version mark.digest entry)
      ≡ length (frame version (last_digest version first.digest walking.records) entry) =
      ap (λ (d : List ℕ). length (frame version d entry)) walking.digest_is in
      record {
        records = walking.records ++ entry ∷ [];
        each = each-push version walking.records entry walking.each gives.is;
        gone = subst (Consumes a c)
            (ap (λ (d : List ℕ). frames version first.digest walking.records ++ frame version d entry) walking.digest_is
            ∙ sym frames_are)
            all_gone;
        place_is = omega (arith, behind.0, walking.place_is, length-append walking.records (entry ∷ []));
        offset_is = omega (arith, behind.1, walking.offset_is, size, one);
        digest_is = behind.2 ∙ gives.digest_is ∙ ap (λ (d : List ℕ). digest_of version d entry) walking.digest_is
            ∙ sym (last_digest-push version first.digest walking.records entry);
        within = omega (arith, behind.0, less);
        places = places_then;
        lead = lead_then;
      }

-- the same, where the version is that of a head
pub lead_of : (version : Version) (head : Head) (a : Option (List ℕ)) (first : Mark) (marks : List Mark)
    → version ≡ version_of head
    → ((bytes : List ℕ) → a ≡ Some bytes → AllByRecursion (LeadsTo version bytes first) marks)
    → (bytes : List ℕ) → a ≡ Some bytes → AllByRecursion (LeadsTo (version_of head) bytes first) marks
lead_of version head a first marks is lead bytes given =
    subst (λ (v : Version). AllByRecursion (LeadsTo v bytes first) marks) is (lead bytes given)

-- ---- where a log begins

has_head : (file : List ℕ) (b : Option (List ℕ)) (head : Head) (digest : List ℕ) → Begins (Some file) b head digest
    → HasHead file head
has_head file b head digest begins =
    let at = given_by file (head_bytes head) b begins.gone in
    (at.0, record { spelled = at.1; allowed = begins.is })

-- what a reader of a store gives from a place on
pub given_from : (place : ℕ) (file : List ℕ) (bytes a : Option (List ℕ)) → bytes ≡ Some file → GivesFrom place bytes a
    → a ≡ Some (drop place file)
given_from place file bytes a is gives = subst (λ (o : Option (List ℕ)). GivesFrom place o a) is gives

pub has_head_of : (file : List ℕ) (bytes a b : Option (List ℕ)) (head : Head) (digest : List ℕ) → bytes ≡ Some file
    → GivesFrom 0 bytes a → Begins a b head digest → HasHead file head
has_head_of file bytes a b head digest is gives begins =
    has_head file b head digest
    (subst (λ (o : Option (List ℕ)). Begins o b head digest) (given_from 0 file bytes a is gives) begins)

pub says_so : (index : List ℕ) (head : Head) (front : Mark) (known : List Mark) → front ≡ front_mark head
    → (known ≡ []) ⊎ (index ≡ index_bytes front.digest known) → Says index head known
says_so index head front known front_is said = elim said [
  | inl none ↦ inl none
  | inr is ↦ inr (is ∙ ap (λ (m : Mark). index_bytes m.digest known) front_is)
]

-- what holds of what a call gave, by two of its clauses
pub both_ok : {T E : Type 0} {P Q S : T → Type 0} (told : Result T E) → IfOk told P → IfOk told Q
    → ((value : T) → P value → Q value → S value) → IfOk told S
both_ok (Ok value) first second step = step value first second
both_ok (Err fault) first second step = tt

pub found_place : (head : Head) (front mark : Mark) (until from : ℕ) (found shown : List Mark) → front ≡ front_mark head
    → shown ≡ found → AllByRecursion (λ (m : Mark). m.place ≤ until) found → until ≤ from
    → (mark ≡ front) ⊎ IsAmong mark shown → mark.place ≤ from
found_place head front mark until from found shown front_is shown_is places within among = elim among [
  | inl same ↦ omega (arith, ap (λ (m : Mark). m.place) (same ∙ front_is))
  | inr one ↦
      let each = subst (AllByRecursion (λ (m : Mark). m.place ≤ until)) (sym shown_is) places in
      omega (arith, all_among (λ (m : Mark). m.place ≤ until) shown mark one each, within)
]

module _ (file index : List ℕ) (head : Head) (front : Mark) (found known : List Mark) (said : Mark)
    (front_is : front ≡ front_mark head) (says : Says index head known)
    (told : (said ≡ front_mark head) ⊎ IsAmong said known)
    (lead : AllByRecursion (LeadsTo (version_of head) (drop said.offset file) said) found) where
  reached : (mark : Mark) → LeadsTo (version_of head) (drop said.offset file) said mark
      → IsReached file head known mark
  reached mark leads = record { first = said; told = told; leads = leads }

  pub found_begins : (start : StoreStart) → start.head ≡ head → HasHead file head
      → (start.mark ≡ front) ⊎ IsAmong start.mark found
      → HasHead file start.head × BeginsAt file index start.head start.mark
  found_begins start is has among =
      subst (λ (h : Head). HasHead file h × BeginsAt file index h start.mark) (sym is) (
        has,
        elim among [
          | inl same ↦ inl (same ∙ front_is)
          | inr one ↦ inr (
            known,
            says,
            reached start.mark
                (all_among (LeadsTo (version_of head) (drop said.offset file) said) found start.mark one lead),
          )
        ],
      )

  earlier_good : (done left rest : List Mark) → known ≡ done ++ (left ++ rest)
      → AllByRecursion (λ mark. IsAmong mark known ⊎ IsReached file head known mark) left
  earlier_good done [] rest is = tt
  earlier_good done (mark ∷ left) rest is = (
    inl (done, left ++ rest, is),
    earlier_good (done ++ mark ∷ []) left rest (is ∙ sym (append_assoc done (mark ∷ []) (left ++ rest))),
  )

  pub found_index : (start : StoreStart) (earlier rest : List Mark) (bytes : List ℕ) → start.head ≡ head
      → known ≡ earlier ++ rest → bytes ≡ index_bytes front.digest (earlier ++ found)
      → IsIndexOf file index start.head bytes
  found_index start earlier rest bytes is split spelled =
      subst (λ (h : Head). IsIndexOf file index h bytes) (sym is) (record {
        known = known;
        says = says;
        marks = earlier ++ found;
        spelled = spelled ∙ ap (λ (m : Mark). index_bytes m.digest (earlier ++ found)) front_is;
        each = all_append (λ mark. IsAmong mark known ⊎ IsReached file head known mark) earlier found
            (earlier_good [] earlier rest split)
            (all_then (LeadsTo (version_of head) (drop said.offset file) said)
            (λ mark. IsAmong mark known ⊎ IsReached file head known mark) found
            (λ mark leads. inr (reached mark leads)) lead);
      })
