-- What holds of each of four lanes.
use Rattle.std.proofs.Common.{◌≡◌, ℕ, zero, suc, ◌<◌, ◌≤◌, ◌+◌, ◌-◌, ◌*◌, ◌/◌, ◌%◌, ◌^◌, List, [], ◌∷◌, length, slice_index, slice_set, bit_or, bit_xor, bit_and, arith, refl, ap, ◌∙◌, map}
use Rattle.std.specs.Simd.Lanes.{zip2}
use Rattle.std.specs.Int.{w32, rotate_left, bit_not}
use Rattle.std.proofs.Math.ListN.{get_or-map}
use Rattle.std.proofs.lemmas.List.{map-set}
use Rattle.sha1.specs.Sha1.{ch, parity, maj, IsRoundsAt, window_word, round, round_fn, round_constant, add32, add_state}
use Rattle.sha1.proofs.Schedule.{rounds_window}
use Rattle.hg_digests.specs.code.Lanes.{AreRoundsAt, lane, lane_at}

-- what holds at 0, 1, 2 and 3 holds below four
pub below_four : (P : ℕ → Type 0) → P 0 → P 1 → P 2 → P 3 → (j : ℕ) → j < 4 → P j
below_four P p0 p1 p2 p3 zero h = p0
below_four P p0 p1 p2 p3 (suc zero) h = p1
below_four P p0 p1 p2 p3 (suc (suc zero)) h = p2
below_four P p0 p1 p2 p3 (suc (suc (suc zero))) h = p3
below_four P p0 p1 p2 p3 (suc (suc (suc (suc n)))) h = absurd (omega arith)

-- what holds of each four numbers holds of a list of four
pub of_four : (P : List ℕ → Type 0) → ((a b c d : ℕ) → P (a ∷ b ∷ c ∷ d ∷ [])) → (xs : List ℕ) → length xs ≡ 4 → P xs
of_four P p (a ∷ b ∷ c ∷ d ∷ []) h = p a b c d
of_four P p [] h = absurd (omega arith)
of_four P p (a ∷ []) h = absurd (omega arith)
of_four P p (a ∷ b ∷ []) h = absurd (omega arith)
of_four P p (a ∷ b ∷ c ∷ []) h = absurd (omega arith)
of_four P p (a ∷ b ∷ c ∷ d ∷ e ∷ xs) h = absurd (omega arith)

-- the same of three vectors
of_three : (P : List ℕ → List ℕ → List ℕ → Type 0)
    → ((a b c d e f g h i k l m : ℕ) → P (a ∷ b ∷ c ∷ d ∷ []) (e ∷ f ∷ g ∷ h ∷ []) (i ∷ k ∷ l ∷ m ∷ []))
    → (x y z : List ℕ) → length x ≡ 4 → length y ≡ 4 → length z ≡ 4 → P x y z
of_three P p x y z lx ly lz =
    of_four (λ x. P x y z) (λ a b c d. of_four (λ y. P (a ∷ b ∷ c ∷ d ∷ []) y z) (λ e f g h.
    of_four (λ z. P (a ∷ b ∷ c ∷ d ∷ []) (e ∷ f ∷ g ∷ h ∷ []) z) (λ i k l m. p a b c d e f g h i k l m) z lz) y ly) x lx

pub parity_lanes : (x y z : List ℕ) → length x ≡ 4 → length y ≡ 4 → length z ≡ 4 → (j : ℕ) → j < 4
    → slice_index (zip2 bit_xor (zip2 bit_xor x y) z) j ≡ parity (slice_index x j) (slice_index y j) (slice_index z j)
parity_lanes = of_three _ (λ a b c d e f g h i k l m. below_four _ refl refl refl refl)

pub maj_lanes : (x y z : List ℕ) → length x ≡ 4 → length y ≡ 4 → length z ≡ 4 → (j : ℕ) → j < 4
    → slice_index (zip2 bit_xor (zip2 bit_xor (zip2 bit_and x y) (zip2 bit_and x z)) (zip2 bit_and y z)) j
    ≡ maj (slice_index x j) (slice_index y j) (slice_index z j)
maj_lanes = of_three _ (λ a b c d e f g h i k l m. below_four _ refl refl refl refl)

pub ch_lanes : (x y z : List ℕ) → length x ≡ 4 → length y ≡ 4 → length z ≡ 4 → (j : ℕ) → j < 4
    → slice_index (zip2 bit_xor (zip2 bit_and x y) (zip2 bit_and (map (bit_not w32) x) z)) j
    ≡ ch (slice_index x j) (slice_index y j) (slice_index z j)
ch_lanes = of_three _ (λ a b c d e f g h i k l m. below_four _ refl refl refl refl)

-- two shifts of each lane and an or are a rotation
abbrev Rotates : ℕ → List ℕ → Type 0
Rotates k a = (j : ℕ) → j < 4
    → slice_index (zip2 bit_or
    (zip2 (λ x n. x * 2 ^ n % 2 ^ 32) a (k ∷ k ∷ k ∷ k ∷ []))
    (zip2 (λ x n. x / 2 ^ n) a ((32 - k) ∷ (32 - k) ∷ (32 - k) ∷ (32 - k) ∷ []))) j
    ≡ rotate_left w32 (slice_index a j) k

pub shifts_rotate : (k : ℕ) → 0 < k → k < 32 → (a : List ℕ) → length a ≡ 4 → Rotates k a
shifts_rotate k low high =
    let left : k % 32 ≡ k = omega arith in
    let right : (32 - k) % 32 ≡ 32 - k = omega arith in
    of_four (Rotates k) (λ a0 a1 a2 a3.
    below_four _ (rw (left, right) refl) (rw (left, right) refl) (rw (left, right) refl) (rw (left, right) refl))

-- word k of lane j
pub slice_index-lane : (x : List (List ℕ)) (j k : ℕ) → slice_index (lane j x) k ≡ lane_at x k j
slice_index-lane x j k = get_or-map (λ vector. slice_index vector j) x k []

-- one round in a lane, with its parts given by equations
pub lane_step : (b h : List ℕ) (w v : List (List ℕ)) (t k j : ℕ) (f x : List ℕ) (next_w next_v : List (List ℕ)) → 16 ≤ t → t < 80
    → IsRoundsAt b h (lane j w) (lane j v) t
    → slice_index x j ≡ window_word (lane j w) t → next_w ≡ slice_set w (t % 16) x
    → slice_index f j ≡ round_fn t (lane_at v 1 j) (lane_at v 2 j) (lane_at v 3 j) → k ≡ round_constant t
    → lane j next_v ≡ round (lane j v) (slice_index f j) k (slice_index x j)
    → IsRoundsAt b h (lane j next_w) (lane j next_v) (t + 1)
lane_step b h w v t k j f x next_w next_v low high held ex ew ef ek en =
    rounds_window b h (lane j w) (lane j v) t (slice_index f j) k (slice_index x j) (lane j next_w) (lane j next_v) low high held.0 held.1
    ex (ap (lane j) ew ∙ map-set (λ vector. slice_index vector j) w (t % 16) x)
    (rw (slice_index-lane v j 1, slice_index-lane v j 2, slice_index-lane v j 3) ef) ek en

-- the same round, counted in another way
pub AreRoundsAt_at : (blocks hashes w v : List (List ℕ)) (n k : ℕ) → n ≡ k → AreRoundsAt blocks hashes w v n → AreRoundsAt blocks hashes w v k
AreRoundsAt_at blocks hashes w v n k e held = rw (← e) held

-- the hash value of a lane, with the working variables added to it
pub lanes_added : (j : ℕ) (s v : List (List ℕ)) (a b c d e : List ℕ)
    → slice_index a j ≡ add32 (lane_at s 0 j) (lane_at v 0 j) → slice_index b j ≡ add32 (lane_at s 1 j) (lane_at v 1 j)
    → slice_index c j ≡ add32 (lane_at s 2 j) (lane_at v 2 j) → slice_index d j ≡ add32 (lane_at s 3 j) (lane_at v 3 j)
    → slice_index e j ≡ add32 (lane_at s 4 j) (lane_at v 4 j)
    → lane j (a ∷ b ∷ c ∷ d ∷ e ∷ []) ≡ add_state (lane j s) (lane j v)
lanes_added j s v a b c d e ea eb ec ed ee =
    rw (
      slice_index-lane s j 0,
      slice_index-lane v j 0,
      slice_index-lane s j 1,
      slice_index-lane v j 1,
      slice_index-lane s j 2,
      slice_index-lane v j 2,
      slice_index-lane s j 3,
      slice_index-lane v j 3,
      slice_index-lane s j 4,
      slice_index-lane v j 4,
      ea,
      eb,
      ec,
      ed,
      ee,
    ) refl

-- lane j of five vectors
pub lane_five : (j : ℕ) (v : List (List ℕ)) → length v ≡ 5
    → lane j v ≡ lane_at v 0 j ∷ lane_at v 1 j ∷ lane_at v 2 j ∷ lane_at v 3 j ∷ lane_at v 4 j ∷ []
lane_five j (a ∷ b ∷ c ∷ d ∷ e ∷ []) h = refl
lane_five j [] h = absurd (omega arith)
lane_five j (a ∷ []) h = absurd (omega arith)
lane_five j (a ∷ b ∷ []) h = absurd (omega arith)
lane_five j (a ∷ b ∷ c ∷ []) h = absurd (omega arith)
lane_five j (a ∷ b ∷ c ∷ d ∷ []) h = absurd (omega arith)
lane_five j (a ∷ b ∷ c ∷ d ∷ e ∷ f ∷ xs) h = absurd (omega arith)
