-- Sets of numbers, each a bit of one of eight words.
use Rattle.std.proofs.Common.{◌≡◌, ◌≢◌, ◌⊎◌, ◌↔◌, ℕ, ◌+◌, ◌*◌, ◌/◌, ◌%◌, ◌^◌, ◌<◌, ◌≤◌, List, [], ◌∷◌, ◌++◌, length}
use Rattle.std.proofs.Common.{zero, suc, get_or, set, map, refl, sym, ap, ◌∙◌, subst, inl, inr, arith}
use Rattle.std.proofs.Common.{get_or-set_same, get_or-set_other}
use Rattle.std.specs.Int.{bit_at, w64}
use Rattle.std.specs.Int.RustNames.{bit_or}
use Rattle.std.proofs.lemmas.Bool.{cases_eq, cases_lt}
use Rattle.std.proofs.lemmas.List.{get_or-map, get_or_past, length-map, length-set, map-append}
use Rattle.std.proofs.lemmas.Nat.Bits.{bit_at_set_same, bit_at_set_other, bit_at-zero}
use Rattle.hg_wireproto.specs.code.Sets.{AreEmpty, HasNumber, IsAt}
use Rattle.hg_wireproto.specs.declared.set.NumberSet.{NumberSet}
use Rattle.hg_wireproto.proofs.Gathering.{both, either}

-- ---- one set

zero_bit : (x i : ℕ) → x ≡ 0 → bit_at x i ≡ 1 → ⊥
zero_bit x i is bit =
    let z : bit_at x i ≡ 0 = ap (λ (y : ℕ). bit_at y i) is ∙ bit_at-zero i in omega (arith, z, bit)

-- numbers with the same word and the same bit are one
same_place : (a b : ℕ) → a / 64 ≡ b / 64 → a % 64 ≡ b % 64 → a ≡ b
same_place a b high low = omega (arith, high, low)

pub number_added : (words next : List ℕ) (number : ℕ) → number / 64 < length words
    → next ≡ set words (number / 64) (bit_or (get_or words (number / 64) 0) (1 * 2 ^ (number % 64) % 18446744073709551616))
    → (k : ℕ) → HasNumber next k ↔ (HasNumber words k ⊎ (k ≡ number))
number_added words next number within same k =
    let w = number / 64 in
    let b = number % 64 in
    let low : b < 64 = omega arith in
    let old = get_or words w 0 in
    let new = bit_or old (1 * 2 ^ b % 18446744073709551616) in
    elim (cases_eq (k / 64) w) [
      | inl here ↦
          let is : get_or next (k / 64) 0 ≡ new =
          ap (λ n. get_or next n 0) here ∙ ap (λ (xs : List ℕ). get_or xs w 0) same
          ∙ get_or-set_same words w new 0 within in
          let was : get_or words (k / 64) 0 ≡ old = ap (λ n. get_or words n 0) here in
          elim (cases_eq (k % 64) b) [
            | inl e ↦ (
              λ has. inr (same_place k number here e),
              λ _. ap (λ (x : ℕ). bit_at x (k % 64)) is ∙ ap (bit_at new) e ∙ bit_at_set_same w64 old b low,
            )
            | inr ne ↦
                let other = bit_at_set_other w64 old b low (k % 64) ne in
                let bit : bit_at (get_or next (k / 64) 0) (k % 64) ≡ bit_at (get_or words (k / 64) 0) (k % 64) =
                ap (λ (x : ℕ). bit_at x (k % 64)) is ∙ other ∙ ap (λ (x : ℕ). bit_at x (k % 64)) (sym was) in (
                  λ has. inl (sym bit ∙ has),
                  λ has. elim has [
                    | inl h ↦ bit ∙ h
                    | inr e ↦ absurd (ne (ap (λ (x : ℕ). x % 64) e))
                  ],
                )
          ]
      | inr ne ↦
          let bit : bit_at (get_or next (k / 64) 0) (k % 64) ≡ bit_at (get_or words (k / 64) 0) (k % 64) =
          ap (λ (xs : List ℕ). bit_at (get_or xs (k / 64) 0) (k % 64)) same
          ∙ ap (λ (x : ℕ). bit_at x (k % 64)) (get_or-set_other words w (k / 64) new 0 ne) in (
            λ has. inl (sym bit ∙ has),
            λ has. elim has [
              | inl h ↦ bit ∙ h
              | inr e ↦ absurd (ne (ap (λ (x : ℕ). x / 64) e))
            ],
          )
    ]

-- a word has the bits of two
abbrev pub AreBoth : ℕ → ℕ → ℕ → Type 0
AreBoth a b both = (i : ℕ) → (bit_at both i ≡ 1) ↔ ((bit_at a i ≡ 1) ⊎ (bit_at b i ≡ 1))

-- the first n words have the bits of both, and the others are as they were
pub record AreJoined (n : ℕ) (own other words : List ℕ) : Type 0 where
  pub as_long : length words ≡ length own
  pub front : (w : ℕ) → w < n → AreBoth (get_or own w 0) (get_or other w 0) (get_or words w 0)
  pub back : (w : ℕ) → n ≤ w → get_or words w 0 ≡ get_or own w 0

pub joined_none : (own other : List ℕ) → AreJoined 0 own other own
joined_none own other = record {
  as_long = refl;
  front = λ w low. absurd (omega (arith, low));
  back = λ w past. refl;
}

pub joined_more : (n : ℕ) (own other words next : List ℕ) → n < length own → AreJoined n own other words
    → next ≡ set words n (bit_or (get_or words n 0) (get_or other n 0)) → AreJoined (n + 1) own other next
joined_more n own other words next within held same =
    let new = bit_or (get_or words n 0) (get_or other n 0) in
    let there = λ (w : ℕ) (ne : w ≢ n).
    let f : get_or next w 0 ≡ get_or words w 0 =
    ap (λ (xs : List ℕ). get_or xs w 0) same ∙ get_or-set_other words n w new 0 ne in f in
    record {
      as_long = ap length same ∙ length-set words n new ∙ held.as_long;
      front = λ w low i. elim (cases_eq w n) [
        | inl e ↦
            let is : get_or next w 0 ≡ new = ap (λ m. get_or next m 0) e
            ∙ ap (λ (xs : List ℕ). get_or xs n 0) same
            ∙ get_or-set_same words n new 0 (omega (arith, within, held.as_long)) in
            let own_is : get_or words n 0 ≡ get_or own w 0 =
            held.back n (omega arith) ∙ ap (λ m. get_or own m 0) (sym e) in
            let other_is : get_or other n 0 ≡ get_or other w 0 = ap (λ m. get_or other m 0) (sym e) in (
              λ bit. elim (either (get_or words n 0) (get_or other n 0) i (ap (λ (x : ℕ). bit_at x i) (sym is) ∙ bit)) [
                | inl a ↦ inl (ap (λ (x : ℕ). bit_at x i) (sym own_is) ∙ a)
                | inr b ↦ inr (ap (λ (x : ℕ). bit_at x i) (sym other_is) ∙ b)
              ],
              λ bit. ap (λ (x : ℕ). bit_at x i) is ∙ both (get_or words n 0) (get_or other n 0) i (elim bit [
                | inl a ↦ inl (ap (λ (x : ℕ). bit_at x i) own_is ∙ a)
                | inr b ↦ inr (ap (λ (x : ℕ). bit_at x i) other_is ∙ b)
              ]),
            )
        | inr ne ↦
            let is = ap (λ (x : ℕ). bit_at x i) (there w ne) in
            let was = held.front w (omega (arith, low, ne)) i in (
              λ bit. was.0 (sym is ∙ bit),
              λ bit. is ∙ was.1 bit,
            )
      ];
      back = λ w past. there w (λ e. omega (arith, past, e)) ∙ held.back w (omega (arith, past));
    }

-- no word is left
pub joined_all : (n : ℕ) (own other words : List ℕ) → length own ≤ n → length other ≡ length own
    → AreJoined n own other words → (k : ℕ) → HasNumber words k ↔ (HasNumber own k ⊎ HasNumber other k)
joined_all n own other words past long held k = elim (cases_lt (k / 64) n) [
  | inl low ↦ held.front (k / 64) low (k % 64)
  | inr high ↦
      let words_none = get_or_past words (k / 64) 0 (omega (arith, held.as_long, past, high)) in
      let own_none = get_or_past own (k / 64) 0 (omega (arith, past, high)) in
      let other_none = get_or_past other (k / 64) 0 (omega (arith, past, high, long)) in (
        λ has. absurd (zero_bit (get_or words (k / 64) 0) (k % 64) words_none has),
        λ has. elim has [
          | inl h ↦ absurd (zero_bit (get_or own (k / 64) 0) (k % 64) own_none h)
          | inr h ↦ absurd (zero_bit (get_or other (k / 64) 0) (k % 64) other_none h)
        ],
      )
]

-- ---- sets side by side

no_number : (k : ℕ) → ¬ (HasNumber [] k)
no_number k has = zero_bit 0 (k % 64) refl has

set_here : (sets : List NumberSet) (i : ℕ) (s : NumberSet) → i < length sets
    → get_or (map (λ (t : NumberSet). t.words) (set sets i s)) i [] ≡ s.words
set_here sets i s within =
    get_or-map (λ (t : NumberSet). t.words) (set sets i s) i s [] (omega (arith, length-set sets i s, within))
    ∙ ap (λ (t : NumberSet). t.words) (get_or-set_same sets i s s within)

set_there : (sets : List NumberSet) (i j : ℕ) (s : NumberSet) → j ≢ i
    → get_or (map (λ (t : NumberSet). t.words) (set sets i s)) j [] ≡ get_or (map (λ (t : NumberSet). t.words) sets) j []
set_there sets i j s ne = elim (cases_lt j (length sets)) [
  | inl low ↦ get_or-map (λ (t : NumberSet). t.words) (set sets i s) j s [] (omega (arith, length-set sets i s, low))
      ∙ ap (λ (t : NumberSet). t.words) (get_or-set_other sets i j s s ne)
      ∙ sym (get_or-map (λ (t : NumberSet). t.words) sets j s [] low)
  | inr past ↦
      get_or_past (map (λ (t : NumberSet). t.words) (set sets i s)) j []
      (omega (arith, length-map (set sets i s) (λ (t : NumberSet). t.words), length-set sets i s, past))
      ∙ sym (get_or_past (map (λ (t : NumberSet). t.words) sets) j []
      (omega (arith, length-map sets (λ (t : NumberSet). t.words), past)))
]

pub set_read : (sets : List NumberSet) (i : ℕ) (s : NumberSet) → i < length sets → s ≡ get_or sets i s → (k : ℕ)
    → HasNumber s.words k ↔ IsAt sets i k
set_read sets i s within is k =
    let same : get_or (map (λ (t : NumberSet). t.words) sets) i [] ≡ s.words =
    get_or-map (λ (t : NumberSet). t.words) sets i s [] within ∙ ap (λ (t : NumberSet). t.words) (sym is) in (
      λ has. subst (λ (ws : List ℕ). HasNumber ws k) (sym same) has,
      λ has. subst (λ (ws : List ℕ). HasNumber ws k) same has,
    )

-- a set is left without numbers
pub set_taken : (sets next : List NumberSet) (i : ℕ) (s : NumberSet) → i < length sets → next ≡ set sets i s
    → ((k : ℕ) → ¬ (HasNumber s.words k)) → (j k : ℕ) → IsAt next j k ↔ (IsAt sets j k × ¬ (j ≡ i))
set_taken sets next i s within same none j k =
    let is : get_or (map (λ (t : NumberSet). t.words) next) j []
    ≡ get_or (map (λ (t : NumberSet). t.words) (set sets i s)) j [] =
    ap (λ (ss : List NumberSet). get_or (map (λ (t : NumberSet). t.words) ss) j []) same in
    elim (cases_eq j i) [
      | inl e ↦ (
        λ has. absurd (none k (subst (λ (ws : List ℕ). HasNumber ws k)
            (is ∙ ap (λ n. get_or (map (λ (t : NumberSet). t.words) (set sets i s)) n []) e
            ∙ set_here sets i s within) has)),
        λ both. absurd (both.1 e),
      )
      | inr ne ↦ (
        λ has. (subst (λ (ws : List ℕ). HasNumber ws k) (is ∙ set_there sets i j s ne) has, ne),
        λ both. subst (λ (ws : List ℕ). HasNumber ws k) (sym (is ∙ set_there sets i j s ne)) both.0,
      )
    ]

-- the numbers of another are added to one
pub set_joined : (sets next : List NumberSet) (i : ℕ) (s : NumberSet) (words : List ℕ) → i < length sets
    → next ≡ set sets i s → ((k : ℕ) → HasNumber s.words k ↔ (IsAt sets i k ⊎ HasNumber words k))
    → (j k : ℕ) → IsAt next j k ↔ (IsAt sets j k ⊎ ((i ≡ j) × HasNumber words k))
set_joined sets next i s words within same joined j k =
    let is : get_or (map (λ (t : NumberSet). t.words) next) j []
    ≡ get_or (map (λ (t : NumberSet). t.words) (set sets i s)) j [] =
    ap (λ (ss : List NumberSet). get_or (map (λ (t : NumberSet). t.words) ss) j []) same in
    elim (cases_eq j i) [
      | inl e ↦
          let here : get_or (map (λ (t : NumberSet). t.words) next) j [] ≡ s.words =
          is ∙ ap (λ n. get_or (map (λ (t : NumberSet). t.words) (set sets i s)) n []) e ∙ set_here sets i s within in (
            λ has. elim ((joined k).0 (subst (λ (ws : List ℕ). HasNumber ws k) here has)) [
              | inl old ↦ inl (subst (λ n. IsAt sets n k) (sym e) old)
              | inr more ↦ inr (sym e, more)
            ],
            λ has. subst (λ (ws : List ℕ). HasNumber ws k) (sym here) ((joined k).1 (elim has [
              | inl old ↦ inl (subst (λ n. IsAt sets n k) e old)
              | inr both ↦ inr both.1
            ])),
          )
      | inr ne ↦ (
        λ has. inl (subst (λ (ws : List ℕ). HasNumber ws k) (is ∙ set_there sets i j s ne) has),
        λ has. elim has [
          | inl old ↦ subst (λ (ws : List ℕ). HasNumber ws k) (sym (is ∙ set_there sets i j s ne)) old
          | inr both ↦ absurd (ne (sym both.0))
        ],
      )
    ]

-- ---- no numbers

pub empty_none : (sets : List NumberSet) → length sets ≡ 0 → AreEmpty sets
empty_none [] none i k has = no_number k has
empty_none (s ∷ ss) none i k has = absurd (omega (arith, none))

pub empty_more : (sets next : List NumberSet) (s : NumberSet) → next ≡ sets ++ s ∷ []
    → ((k : ℕ) → ¬ (HasNumber s.words k)) → AreEmpty sets → AreEmpty next
empty_more sets next s same none held i k has =
    let is : get_or (map (λ (t : NumberSet). t.words) next) i []
    ≡ get_or (map (λ (t : NumberSet). t.words) sets ++ s.words ∷ []) i [] =
    ap (λ (ss : List NumberSet). get_or (map (λ (t : NumberSet). t.words) ss) i []) same
    ∙ ap (λ (ws : List (List ℕ)). get_or ws i []) (map-append (λ (t : NumberSet). t.words) sets (s ∷ [])) in
    by (map (λ (t : NumberSet). t.words) sets) i (λ j. held j k) (subst (λ (ws : List ℕ). HasNumber ws k) is has)
  where
    by : (ws : List (List ℕ)) (j : ℕ) → ((n : ℕ) → ¬ (HasNumber (get_or ws n []) k))
        → ¬ (HasNumber (get_or (ws ++ s.words ∷ []) j []) k)
    by [] zero nowhere has = none k has
    by [] (suc j) nowhere has = no_number k has
    by (w ∷ ws) zero nowhere has = nowhere 0 has
    by (w ∷ ws) (suc j) nowhere has = by ws j (λ n. nowhere (suc n)) has
