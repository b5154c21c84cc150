-- What a reader gives of a store, piece by piece.
use Rattle.std.proofs.Common.{◌≡◌, ◌≢◌, inl, inr, ℕ, ◌+◌, List, [], ◌∷◌, ◌++◌, length, take, drop, refl, sym, ap, ◌∙◌}
use Rattle.std.proofs.Common.{subst, arith}
use Rattle.std.proofs.Common.{append_assoc, length-append, take-append-drop, length-drop, Bool, true, false, Option}
use Rattle.std.proofs.Common.{Result, Err}
use Rattle.std.specs.Prelude.{IsErrOf, IsTrue, ◌↔◌}
use Rattle.std.proofs.lemmas.List.{append-nil, length-take-le}
use Rattle.std.proofs.KnownBytes.{Consumes-trans}
use Rattle.std.specs.Io.KnownBytes.{Consumes}
use Rattle.sha1.specs.Sha1.{sha1}
use Rattle.hg_store.specs.Entries.{Entry, Stamp}
use Rattle.hg_store.specs.declared.head.Version.{Version}
use Rattle.hg_store.specs.declared.numbers.Numbers.{Numbers}
use Rattle.hg_store.specs.declared.pieces.RecordStop.{RecordStop}
use Rattle.hg_store.specs.declared.pieces.RecordStop.TheVariants.{NoRecord as no_record}
use Rattle.hg_store.specs.declared.record.NoRecord.{NoRecord}
use Rattle.hg_store.specs.declared.record.NoRecord.TheVariants.{Damaged, End, Torn}
use Rattle.hg_store.specs.Pieces.{GivesNoRecord, GivesRecord, IsCutShort, ReadsUpTo}
use Rattle.hg_store.specs.Records.{AreNumbers, chained_label, cut_off, digest_of, frame, no_gate, numbers_bytes}
use Rattle.hg_store.specs.Records.{numbers_of, numbers_size, open_gate, short, shut}
use Rattle.hg_store.proofs.Stepping.{Whole, damaged_is, entry_of, next_is}

-- ---- why none is read

pub stop_is : {T : Type 0} (found stop : NoRecord) → IsErrOf {T = T} (Err (no_record found)) (no_record stop) → found ≡ stop
stop_is found stop is = cc

-- the same error of another call
pub err_is : {T U : Type 0} (found stop : RecordStop) → IsErrOf {T = T} (Err found) stop → IsErrOf {T = U} (Err found) stop
err_is {T} {U} found stop is =
    let same : found ≡ stop = cc in
    let made : RecordStop → Result U RecordStop = λ e. Err e in ap made same

-- ---- reads

-- what was read so far, and how much is left to read
abbrev pub HasCome : List ℕ → List ℕ → Option (List ℕ) → Option (List ℕ) → ℕ → ℕ → Type 0
HasCome before bytes a b left count =
    (more : List ℕ) × (bytes ≡ before ++ more) × Consumes a b more × (length more + left ≡ count)

pub cut_in_second : (count more all : ℕ) (first : List ℕ) (a b c : Option (List ℕ)) → all ≡ count + more
    → length first ≡ count → Consumes a b first → IsCutShort more b c → IsCutShort all a c
cut_in_second count more all first a b c is size gone cut = record {
  part = first ++ cut.part;
  gone = Consumes-trans a b c first cut.part gone cut.gone;
  less = omega (arith, cut.less, is, size, length-append first cut.part);
  over = cut.over;
}

-- ---- a gate

module _ (version : Version) (bytes rest : List ℕ) (gate : ℕ) (a b : Option (List ℕ)) (read : ReadsUpTo 1 bytes a b)
    (is : bytes ≡ gate ∷ rest) where
  pub gate_shut : (before : List ℕ) → gate ≡ 0 → GivesNoRecord End version before a b
  gate_shut before none = record {
    tail = bytes;
    gone = read.gone;
    stops = shut rest (is ∙ ap (λ (g : ℕ). g ∷ rest) none);
    over = λ either. elim either [
      | inl empty ↦ absurd (omega (arith, ap length is, ap length empty))
      | inr torn ↦ absurd (cc torn)
    ];
  }

  pub gate_damaged : (before : List ℕ) → gate ≢ 0 → gate ≢ open_gate version → GivesNoRecord Damaged version before a b
  gate_damaged before some other = record {
    tail = bytes;
    gone = read.gone;
    stops = no_gate gate rest is some other;
    over = λ either. elim either [
      | inl empty ↦ absurd (omega (arith, ap length is, ap length empty))
      | inr torn ↦ absurd (cc torn)
    ];
  }

-- ---- a record

pub torn_numbers : (version : Version) (before : List ℕ) (a b c : Option (List ℕ)) → Consumes a b (open_gate version ∷ [])
    → IsCutShort (numbers_size version) b c → GivesNoRecord Torn version before a c
torn_numbers version before a b c gate cut = record {
  tail = open_gate version ∷ cut.part;
  gone = Consumes-trans a b c (open_gate version ∷ []) cut.part gate cut.gone;
  stops = short cut.part refl cut.less;
  over = λ _. cut.over;
}

module _ (version : Version) (before : List ℕ) (numbers : Numbers) (a b c d : Option (List ℕ))
    (are : AreNumbers version numbers) (gate : Consumes a b (open_gate version ∷ []))
    (told : Consumes b c (numbers_bytes version numbers)) where
  behind_numbers : (rest : List ℕ) → Consumes c d rest
      → Consumes a d (open_gate version ∷ (numbers_bytes version numbers ++ rest))
  behind_numbers rest gone =
      Consumes-trans a b d (open_gate version ∷ []) (numbers_bytes version numbers ++ rest) gate
      (Consumes-trans b c d (numbers_bytes version numbers) rest told gone)

  pub torn_fields : IsCutShort (numbers.named + 20 + numbers.size) c d → GivesNoRecord Torn version before a d
  torn_fields cut = record {
    tail = open_gate version ∷ (numbers_bytes version numbers ++ cut.part);
    gone = behind_numbers cut.part cut.gone;
    stops = cut_off numbers cut.part are refl cut.less;
    over = λ _. cut.over;
  }

  module _ (front bundle name digest : List ℕ) (gone : Consumes c d (front ++ bundle))
      (front_size : length front ≡ numbers.named + 20) (size : length bundle ≡ numbers.size)
      (name_is : name ≡ take numbers.named front) (digest_is : digest ≡ drop numbers.named front) where
    named : length name ≡ numbers.named
    named = ap length name_is ∙ length-take-le numbers.named front (omega (arith, front_size))

    same : numbers_of (entry_of numbers.time name bundle) ≡ numbers
    same = λ i. record { size = size i; time = numbers.time; named = named i }

    both : front ≡ name ++ digest
    both =
        sym (take-append-drop numbers.named front)
        ∙ ap (λ (l : List ℕ). l ++ drop numbers.named front) (sym name_is)
        ∙ ap (λ (l : List ℕ). name ++ l) (sym digest_is)

    abbrev bytes : List ℕ
    bytes = open_gate version ∷ (numbers_bytes version numbers ++ (front ++ bundle))

    whole : Whole version bytes digest (entry_of numbers.time name bundle) []
    whole = record {
      spelled =
          ap (λ (l : List ℕ). open_gate version ∷ (numbers_bytes version numbers ++ (l ++ bundle))) both
          ∙ ap (λ (l : List ℕ). open_gate version ∷ (numbers_bytes version numbers ++ l)) (append_assoc name digest bundle)
          ∙ ap (λ (l : List ℕ). open_gate version ∷ (numbers_bytes version numbers ++ (name ++ (digest ++ l))))
          (sym (append-nil bundle))
          ∙ ap (λ (n : Numbers). open_gate version ∷ (numbers_bytes version n ++ (name ++ (digest ++ (bundle ++ [])))))
          (sym same)
          ∙ ap (λ (l : List ℕ). open_gate version ∷ l)
          (sym (append_assoc (numbers_bytes version (numbers_of (entry_of numbers.time name bundle))) name
          (digest ++ (bundle ++ []))));
      is = subst (AreNumbers version) (sym same) are;
      digest = ap length digest_is ∙ length-drop numbers.named front ∙ omega (arith, front_size);
    }

    module _ (made inner shown : List ℕ) (equal : Bool) (inner_is : inner ≡ sha1 bundle)
        (made_is : made ≡ sha1 (before ++ (chained_label version (numbers_bytes version numbers ++ name) ++ inner)))
        (shown_is : shown ≡ made) (iff : IsTrue equal ↔ (digest ≡ shown)) where
      digest_so : made ≡ digest_of version before (entry_of numbers.time name bundle)
      digest_so =
          made_is
          ∙ ap (λ (i : List ℕ). sha1 (before ++ (chained_label version (numbers_bytes version numbers ++ name) ++ i)))
          inner_is
          ∙ ap (λ (n : Numbers). sha1 (before ++ (chained_label version (numbers_bytes version n ++ name)
          ++ sha1 bundle))) (sym same)

      pub record_damaged : equal ≡ false → GivesNoRecord Damaged version before a d
      record_damaged not = record {
        tail = bytes;
        gone = behind_numbers (front ++ bundle) gone;
        stops = damaged_is version before bytes digest (entry_of numbers.time name bundle) [] made shown equal whole
            digest_so shown_is iff not;
        over = λ either. elim either [
          | inl empty ↦ absurd (omega (arith, ap length empty))
          | inr torn ↦ absurd (cc torn)
        ];
      }

      pub record_given : equal ≡ true → GivesRecord version before a d (entry_of numbers.time name bundle) made
      record_given so =
          let next = next_is version before bytes digest (entry_of numbers.time name bundle) [] made shown equal whole
          digest_so shown_is iff so in
          record {
            is = next.is;
            gone = subst (Consumes a d)
                (next.spelled ∙ append-nil (frame version before (entry_of numbers.time name bundle)))
                (behind_numbers (front ++ bundle) gone);
            digest_is = next.digest;
          }

-- the record that was made of its parts
pub entry_is : (found : Entry) (stamp : Stamp) (time : ℕ) (name bundle : List ℕ) → found.stamp ≡ stamp
    → stamp.time ≡ time → stamp.name ≡ name → found.bundle ≡ bundle → entry_of time name bundle ≡ found
entry_is found stamp time name bundle stamp_is time_is name_is bundle_is =
    let time_so : found.stamp.time ≡ time = ap (λ (s : Stamp). s.time) stamp_is ∙ time_is in
    let name_so : found.stamp.name ≡ name = ap (λ (s : Stamp). s.name) stamp_is ∙ name_is in
    let back : found ≡ entry_of time name bundle =
    λ i. record { stamp = record { time = time_so i; name = name_so i }; bundle = bundle_is i } in sym back
