-- One record at the front of some bytes.
use Rattle.std.proofs.Common.{◌≡◌, ◌≢◌, ℕ, ◌+◌, ◌-◌, ◌<◌, ◌≤◌, List, ◌∷◌, ◌++◌, length, take, drop}
use Rattle.std.proofs.Common.{sym, ap, ◌∙◌, arith, append_assoc, subst, take-append-drop, length-drop, Bool, true}
use Rattle.std.proofs.Common.{false}
use Rattle.std.specs.Prelude.{IsTrue, ◌↔◌}
use Rattle.std.proofs.lemmas.List.{length-take-le}
use Rattle.hg_store.specs.Records.{AreNumbers, IsDamaged, IsNext, IsRecord, IsTorn, chained_label, cut_off, digest_of}
use Rattle.hg_store.specs.Records.{label, numbers_bytes, numbers_of, open_gate, other_digest}
use Rattle.sha1.specs.Sha1.{sha1}
use Rattle.hg_store.specs.declared.numbers.Numbers.{Numbers}
use Rattle.hg_store.specs.Entries.{Entry}
use Rattle.hg_store.specs.declared.head.Version.{Version}
use Rattle.hg_store.proofs.Frames.{frame_fields}

-- what a digest takes in, piece by piece
pub hashed_is : (before numbers name inner shown : List ℕ) → shown ≡ numbers
    → ((before ++ shown) ++ name) ++ inner ≡ before ++ ((numbers ++ name) ++ inner)
hashed_is before numbers name inner shown is =
    ap (λ (l : List ℕ). ((before ++ l) ++ name) ++ inner) is
    ∙ ap (λ (l : List ℕ). l ++ inner) (append_assoc before numbers name)
    ∙ append_assoc before (numbers ++ name) inner

pub cut_is : (version : Version) (behind : List ℕ) (numbers : Numbers) (rest : List ℕ)
    → behind ≡ numbers_bytes version numbers ++ rest → AreNumbers version numbers
    → length rest < numbers.named + 20 + numbers.size → IsTorn version (open_gate version ∷ behind)
cut_is version behind numbers rest spelled are less =
    cut_off numbers rest are (ap (λ (l : List ℕ). open_gate version ∷ l) spelled) less

-- a whole record, and the digest that is told of it
pub record Whole (version : Version) (bytes told : List ℕ) (found : Entry) (after : List ℕ) : Type 0 where
  pub spelled : bytes ≡ open_gate version ∷ label version found ++ (told ++ (found.bundle ++ after))
  pub is : IsRecord version found
  pub digest : length told ≡ 20

-- the record of these parts
abbrev pub entry_of : ℕ → List ℕ → List ℕ → Entry
entry_of time name bundle = record { stamp = record { time = time; name = name }; bundle = bundle }

-- its numbers
numbers_are_of : (numbers : Numbers) (name bundle : List ℕ) → length name ≡ numbers.named
    → length bundle ≡ numbers.size → numbers_of (entry_of numbers.time name bundle) ≡ numbers
numbers_are_of numbers name bundle named size =
    λ i. record { size = size i; time = numbers.time; named = named i }

module _ (version : Version) (behind : List ℕ) (numbers : Numbers) (rest name others told more bundle after : List ℕ)
    (spelled : behind ≡ numbers_bytes version numbers ++ rest) (are : AreNumbers version numbers)
    (enough : numbers.named + 20 + numbers.size ≤ length rest)
    (name_is : name ≡ take numbers.named rest) (others_is : others ≡ drop numbers.named rest)
    (told_is : told ≡ take 20 others) (more_is : more ≡ drop 20 others)
    (bundle_is : bundle ≡ take numbers.size more) (after_is : after ≡ drop numbers.size more) where
  named : length name ≡ numbers.named
  named = ap length name_is ∙ length-take-le numbers.named rest (omega (arith, enough))

  left : length others ≡ length rest - numbers.named
  left = ap length others_is ∙ length-drop numbers.named rest

  last : length more ≡ length others - 20
  last = ap length more_is ∙ length-drop 20 others

  size : length bundle ≡ numbers.size
  size = ap length bundle_is ∙ length-take-le numbers.size more (omega (arith, enough, left, last))

  same : numbers_of (entry_of numbers.time name bundle) ≡ numbers
  same = numbers_are_of numbers name bundle named size

  two : (n : ℕ) (xs ys zs : List ℕ) → ys ≡ take n xs → zs ≡ drop n xs → xs ≡ ys ++ zs
  two n xs ys zs front back =
      sym (take-append-drop n xs) ∙ ap (λ (l : List ℕ). l ++ drop n xs) (sym front)
      ∙ ap (λ (l : List ℕ). ys ++ l) (sym back)

  pub labelled : behind ≡ label version (entry_of numbers.time name bundle) ++ (told ++ (bundle ++ after))
  labelled =
      spelled
      ∙ ap (λ (l : List ℕ). numbers_bytes version numbers ++ l)
      (two numbers.named rest name others name_is others_is
      ∙ ap (λ (l : List ℕ). name ++ l) (two 20 others told more told_is more_is
      ∙ ap (λ (l : List ℕ). told ++ l) (two numbers.size more bundle after bundle_is after_is)))
      ∙ ap (λ (n : Numbers). numbers_bytes version n ++ (name ++ (told ++ (bundle ++ after)))) (sym same)
      ∙ sym (append_assoc (numbers_bytes version (numbers_of (entry_of numbers.time name bundle))) name
      (told ++ (bundle ++ after)))

  pub whole_is : Whole version (open_gate version ∷ behind) told (entry_of numbers.time name bundle) after
  whole_is = record {
    spelled = ap (λ (l : List ℕ). open_gate version ∷ l) labelled;
    is = subst (AreNumbers version) (sym same) are;
    digest = ap length told_is ∙ length-take-le 20 others (omega (arith, enough, left));
  }

  pub digest_is : (before digest inner : List ℕ) → inner ≡ sha1 bundle
      → digest ≡ sha1 (before ++ (chained_label version (numbers_bytes version numbers ++ name) ++ inner))
      → digest ≡ digest_of version before (entry_of numbers.time name bundle)
  digest_is before digest inner inner_is is =
      is
      ∙ ap (λ (d : List ℕ). sha1 (before ++ (chained_label version (numbers_bytes version numbers ++ name) ++ d))) inner_is
      ∙ ap (λ (n : Numbers). sha1 (before ++ (chained_label version (numbers_bytes version n ++ name)
      ++ sha1 bundle))) (sym same)

differs : (b : Bool) (x y : List ℕ) → (IsTrue b ↔ (x ≡ y)) → b ≡ false → x ≢ y
differs b x y iff is_not same = let is : b ≡ true = iff.1 same in absurd (cc (is_not, is))

-- the digest that was made is compared with the one that is told
pub damaged_is : (version : Version) (before bytes told : List ℕ) (found : Entry) (after digest shown : List ℕ)
    (same : Bool) → Whole version bytes told found after
    → digest ≡ digest_of version before found → shown ≡ digest → (IsTrue same ↔ (told ≡ shown)) → same ≡ false
    → IsDamaged version before bytes
damaged_is version before bytes told found after digest shown same whole digest_is shown_is iff is_not =
    other_digest told found after whole.spelled whole.is whole.digest
    (λ e. differs same told shown iff is_not (e ∙ sym (shown_is ∙ digest_is)))

pub next_is : (version : Version) (before bytes told : List ℕ) (found : Entry) (after digest shown : List ℕ)
    (same : Bool) → Whole version bytes told found after
    → digest ≡ digest_of version before found → shown ≡ digest → (IsTrue same ↔ (told ≡ shown)) → same ≡ true
    → IsNext version before bytes found after digest
next_is version before bytes told found after digest shown same whole digest_is shown_is iff is_so =
    let right : told ≡ digest_of version before found = iff.0 is_so ∙ shown_is ∙ digest_is in
    record {
      spelled = whole.spelled
          ∙ ap (λ (l : List ℕ). open_gate version ∷ label version found ++ (l ++ (found.bundle ++ after))) right
          ∙ sym (frame_fields version before found after);
      is = whole.is;
      digest = digest_is;
    }
