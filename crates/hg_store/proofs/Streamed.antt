-- A record, the bundle of which was read in pieces.
use Rattle.std.proofs.Common.{◌≡◌, ℕ, ◌+◌, ◌<◌, ◌≤◌, List, [], ◌∷◌, ◌++◌, Bool, drop, length, true, false}
use Rattle.std.proofs.Common.{zero, suc, refl, sym, ap, ◌∙◌, subst, arith, append_assoc, length-append}
use Rattle.std.proofs.Common.{length-drop, take, take-append-drop}
use Rattle.std.proofs.lemmas.List.{append-nil, length-take-le}
use Rattle.std.specs.Prelude.{IsTrue, ◌↔◌}
use Rattle.std.specs.List.{AllByRecursion}
use Rattle.sha1.specs.Sha1.{sha1}
use Rattle.hg_store.specs.Calls.{Event}
use Rattle.hg_store.specs.Entries.{Entry}
use Rattle.hg_store.specs.Files.{digest_behind, stored}
use Rattle.hg_store.specs.Head.{IsHead, version_of}
use Rattle.hg_store.specs.Openings.{HasEnded, HasNext, IsUnopened}
use Rattle.hg_store.specs.Records.{AreNumbers, IsDamaged, IsNext, IsRecord, IsTorn, chained_label, cut_off, digest_of}
use Rattle.hg_store.specs.Records.{numbers_bytes, numbers_of, open_gate, short}
use Rattle.hg_store.specs.code.Headings.{IsCutHeading, IsHeading, IsLabel, behind_numbers, entry_with, heading_bytes}
use Rattle.hg_store.specs.code.Headings.{in_numbers}
use Rattle.hg_store.specs.declared.front.Opening.{Opening}
use Rattle.hg_store.specs.declared.head.Head.{Head}
use Rattle.hg_store.specs.declared.head.Setup.{Setup}
use Rattle.hg_store.specs.declared.head.Version.TheVariants.{Second}
use Rattle.hg_store.specs.declared.numbers.Numbers.{Numbers}
use Rattle.hg_store.specs.declared.opening.RecoverFault.TheVariants.{Read, Torn}
use Rattle.hg_store.specs.declared.read.ReadFault.TheVariants.{Damaged}
use Rattle.hg_store.specs.declared.record.NoRecord.{NoRecord}
use Rattle.hg_store.specs.declared.record.NoRecord.TheVariants as no
use Rattle.hg_store.specs.declared.start.StoreFault.{StoreFault}
use Rattle.hg_store.specs.declared.start.StoreFault.TheVariants.{Recover}
use Rattle.hg_store.proofs.Frames.{fronts, length-numbers, numbers_are}
use Rattle.hg_store.proofs.OneByOne.{damaged_of, torn_of}
use Rattle.hg_store.proofs.Stepping.{Whole, damaged_is, next_is}

-- a heading that is cut is that of a torn record
pub torn_heading : (bytes : List ℕ) → IsCutHeading bytes → IsTorn Second bytes
torn_heading bytes (in_numbers part is less) = short part is less
torn_heading bytes (behind_numbers numbers part are is less) = cut_off numbers part are is (omega (arith, less))

-- it ended where the file did
pub over_heading : (bytes : List ℕ) (over : Type 0) → IsCutHeading bytes → (length bytes < 14 → over)
    → ((numbers : Numbers) (rest : List ℕ) → AreNumbers Second numbers
    → bytes ≡ open_gate Second ∷ (numbers_bytes Second numbers ++ rest)
    → (length rest ≤ numbers.named + 20) × (length rest < numbers.named + 20 → over)) → over
over_heading bytes over (in_numbers part is less) few whole = few (omega (arith, less, ap length is))
over_heading bytes over (behind_numbers numbers part are is less) few whole = (whole numbers part are is).1 less

-- the numbers that bytes begin with
module _ (front behind : List ℕ) (gate : ℕ) (begins : front ≡ gate ∷ behind) where
  pub named_is : (numbers told : Numbers) (rest others : List ℕ) → AreNumbers Second numbers → AreNumbers Second told
      → behind ≡ numbers_bytes Second told ++ others
      → front ≡ open_gate Second ∷ (numbers_bytes Second numbers ++ rest) → told.named ≡ numbers.named
  named_is numbers told rest others are told_are told_is is =
      let same : numbers_bytes Second told ++ others ≡ numbers_bytes Second numbers ++ rest =
      sym told_is ∙ ap (drop 1) (sym begins ∙ is) in
      ap (λ (n : Numbers). n.named) (numbers_are Second told numbers others rest told_are are same).0

  pub open_is : (others : List ℕ) → front ≡ open_gate Second ∷ others → gate ≡ 255
  open_is others is = let same = sym begins ∙ is in cc

  pub not_few : (numbers : Numbers) (rest : List ℕ) → length behind < 13
      → front ≡ open_gate Second ∷ (numbers_bytes Second numbers ++ rest) → ⊥
  not_few numbers rest few is = absurd (omega (
    arith,
    few,
    ap length begins,
    ap length is,
    length-append (numbers_bytes Second numbers) rest,
    length-numbers Second numbers,
  ))

  pub not_short : (told : Numbers) (others : List ℕ) → behind ≡ numbers_bytes Second told ++ others
      → length front < 14 → ⊥
  not_short told others told_is few = absurd (omega (
    arith,
    few,
    ap length begins,
    ap length told_is,
    length-append (numbers_bytes Second told) others,
    length-numbers Second told,
  ))

-- what is not less is as much
pub at_least : (a b : ℕ) → (a < b → ⊥) → b ≤ a
at_least a zero not = omega arith
at_least zero (suc b) not = absurd (not (omega arith))
at_least (suc a) (suc b) not =
    let less : b ≤ a = at_least a b (λ l. not (omega (arith, l))) in omega (arith, less)

-- a gate and numbers are all that was read first
pub front_whole : (numbers : Numbers) (rest front more grown : List ℕ) → length front ≤ 14 → 14 ≤ length front
    → grown ≡ front ++ more → grown ≡ open_gate Second ∷ (numbers_bytes Second numbers ++ rest)
    → (front ≡ open_gate Second ∷ (numbers_bytes Second numbers ++ [])) × (more ≡ rest)
front_whole numbers rest front more grown few enough is spelled_as =
    let both = fronts front (open_gate Second ∷ numbers_bytes Second numbers) more rest
    (omega (arith, few, enough, length-numbers Second numbers)) (sym is ∙ spelled_as) in (
      both.0 ∙ ap (λ (l : List ℕ). open_gate Second ∷ l) (sym (append-nil (numbers_bytes Second numbers))),
      both.1,
    )

-- the fields of a heading
pub heading_of : (numbers : Numbers) (behind rest name told : List ℕ) → behind ≡ numbers_bytes Second numbers ++ rest
    → AreNumbers Second numbers → numbers.named + 20 ≤ length rest → name ≡ take numbers.named rest
    → told ≡ drop numbers.named rest → IsHeading numbers name told (open_gate Second ∷ behind)
heading_of numbers behind rest name told is are enough name_is told_is = record {
  are = are;
  spelled = ap (λ (l : List ℕ). open_gate Second ∷ l) (is ∙ ap (λ (l : List ℕ). numbers_bytes Second numbers ++ l)
      (sym (take-append-drop numbers.named rest)
      ∙ ap (λ (l : List ℕ). l ++ drop numbers.named rest) (sym name_is)
      ∙ ap (λ (l : List ℕ). name ++ l) (sym told_is)));
  named = ap length name_is ∙ length-take-le numbers.named rest (omega (arith, enough));
  enough = omega (arith, ap length told_is, length-drop numbers.named rest, enough);
}

-- no more than a heading was read
pub label_of : (numbers : Numbers) (name told bytes : List ℕ) → IsHeading numbers name told bytes
    → (length (name ++ told) ≤ numbers.named + 20) → IsLabel numbers name told
label_of numbers name told bytes heading few = record {
  are = heading.are;
  named = heading.named;
  digest = omega (arith, few, heading.named, heading.enough, length-append name told);
}

module _ (numbers : Numbers) (name told bundle : List ℕ) (label : IsLabel numbers name told) where
  abbrev held : List ℕ
  held = heading_bytes numbers name told ++ bundle

  abbrev found : Entry
  found = entry_with numbers name bundle

  spelled : held ≡ open_gate Second ∷ (numbers_bytes Second numbers ++ ((name ++ told) ++ bundle))
  spelled = ap (λ (l : List ℕ). open_gate Second ∷ l) (append_assoc (numbers_bytes Second numbers) (name ++ told) bundle)

  -- the bundle is cut
  pub torn_bundle : length bundle < numbers.size → IsTorn Second held
  torn_bundle less = cut_off numbers ((name ++ told) ++ bundle) label.are spelled (omega (
    arith,
    less,
    label.named,
    label.digest,
    length-append (name ++ told) bundle,
    length-append name told,
  ))

  module _ (size : length bundle ≡ numbers.size) where
    numbers_so : numbers_of found ≡ numbers
    numbers_so = λ i. record { size = size i; time = numbers.time; named = label.named i }

    whole_so : Whole Second held told found []
    whole_so = record {
      spelled = spelled
          ∙ ap (λ (l : List ℕ). open_gate Second ∷ (numbers_bytes Second numbers ++ l)) (append_assoc name told bundle)
          ∙ ap (λ (l : List ℕ). open_gate Second ∷ (numbers_bytes Second numbers ++ (name ++ (told ++ l))))
          (sym (append-nil bundle))
          ∙ ap (λ (n : Numbers). open_gate Second ∷ (numbers_bytes Second n ++ (name ++ (told ++ (bundle ++ [])))))
          (sym numbers_so)
          ∙ ap (λ (l : List ℕ). open_gate Second ∷ l)
          (sym (append_assoc (numbers_bytes Second (numbers_of found)) name (told ++ (bundle ++ []))));
      is = subst (AreNumbers Second) (sym numbers_so) label.are;
      digest = label.digest;
    }

    module _ (before made inner shown : List ℕ) (equal : Bool) (inner_is : inner ≡ sha1 bundle)
        (made_is : made ≡ sha1 (before ++ (chained_label Second (numbers_bytes Second numbers ++ name) ++ inner)))
        (shown_is : shown ≡ made) (iff : IsTrue equal ↔ (told ≡ shown)) where
      digest_so : made ≡ digest_of Second before found
      digest_so =
          made_is
          ∙ ap (λ (i : List ℕ). sha1 (before ++ (chained_label Second (numbers_bytes Second numbers ++ name) ++ i)))
          inner_is
          ∙ ap (λ (n : Numbers). sha1 (before ++ (chained_label Second (numbers_bytes Second n ++ name)
          ++ sha1 bundle))) (sym numbers_so)

      pub other_is : equal ≡ false → IsDamaged Second before held
      other_is not = damaged_is Second before held told found [] made shown equal whole_so digest_so shown_is iff not

      pub its_own : equal ≡ true → IsNext Second before held found [] made
      its_own so = next_is Second before held told found [] made shown equal whole_so digest_so shown_is iff so

-- ---- why a store is not opened, by what stands behind its records

pub stopped : (stop : NoRecord) (fault : StoreFault) (setup : Setup) (head : Head) (records : List Entry)
    (bytes tail digest : List ℕ) (whole : ℕ) (before now : List Event) → IsHead head
    → AllByRecursion (IsRecord (version_of head)) records → bytes ≡ stored head records ++ tail
    → whole ≡ length records → digest ≡ digest_behind head records → now ≡ before
    → (stop ≡ no.End → ⊥) → (stop ≡ no.Torn → IsTorn (version_of head) tail)
    → (stop ≡ no.Damaged → IsDamaged (version_of head) digest tail)
    → (stop ≡ no.Torn → fault ≡ Recover (Torn whole)) → (stop ≡ no.Damaged → fault ≡ Recover (Read (Damaged whole)))
    → IsUnopened fault setup bytes before now
stopped no.End fault setup head records bytes tail digest whole before now allowed each is count chained same ends torn
    damaged torn_as damaged_as = absurd (ends refl)
stopped no.Torn fault setup head records bytes tail digest whole before now allowed each is count chained same ends torn
    damaged torn_as damaged_as =
    subst (λ (f : StoreFault). IsUnopened f setup bytes before now) (sym (torn_as refl))
    (same, torn_of head records bytes tail whole allowed each is count (torn refl))
stopped no.Damaged fault setup head records bytes tail digest whole before now allowed each is count chained same ends
    torn damaged torn_as damaged_as =
    subst (λ (f : StoreFault). IsUnopened f setup bytes before now) (sym (damaged_as refl))
    (same, damaged_of head records bytes tail whole digest allowed each is count chained (damaged refl))

-- a record is told as torn where the file ended in its bundle
pub over_bundle : (stop : NoRecord) (fault : StoreFault) (stored_at whole : ℕ) (over : Type 0) → (stop ≡ no.End → ⊥)
    → (stop ≡ no.Torn → over) → (stop ≡ no.Damaged → fault ≡ Recover (Read (Damaged stored_at)))
    → fault ≡ Recover (Torn whole) → over
over_bundle no.End fault stored_at whole over ends torn damaged is = absurd (ends refl)
over_bundle no.Torn fault stored_at whole over ends torn damaged is = torn refl
over_bundle no.Damaged fault stored_at whole over ends torn damaged is =
    let other : Recover (Read (Damaged stored_at)) ≡ Recover (Torn whole) = sym (damaged refl) ∙ is in absurd (cc other)

-- there is no record
pub none_read : {C A T : Type 0} (drawn : C → List ℕ) (took : T → List ℕ → T → Type 0) (before after : T)
    (setup : Setup) (more : Bool) (old new : Opening C A) → more ≡ false
    → HasNext drawn took before after setup more old new
    → HasEnded drawn setup new × (new.records.entries ≡ old.records.entries) × (after ≡ before)
none_read drawn took before after setup true old new is next = absurd (cc is)
none_read drawn took before after setup false old new is next = next
