-- What a crash leaves of a file that is known by its calls.
use Rattle.std.proofs.Common.{◌≡◌, ◌⊎◌, inl, inr, ℕ, zero, suc, ◌+◌, ◌-◌, ◌≤◌, max, List, ◌∷◌, ◌++◌, length, take}
use Rattle.std.proofs.Common.{drop, Bool, true, false}
use Rattle.std.proofs.Common.{refl, sym, ap, ◌∙◌, subst, arith, append_assoc, length-append, length-drop}
use Rattle.std.proofs.Math.Nat.{le-max_left, le-max_right}
use Rattle.std.proofs.lemmas.List.{take_at, drop_at, take_all, length-take-le}
use Rattle.hg_store.specs.Calls.{Event, MayLeave, shortened, state_of, wrote}
use Rattle.hg_store.specs.Device.{Cut, Torn}

cut_same : (len : ℕ) (file : List ℕ) → Cut len file file
cut_same len file = record { no_shorter = inr refl; front = take_all (length file) file (omega arith) }

cut_done : (len : ℕ) (file : List ℕ) → len ≤ length file → Cut len file (take len file)
cut_done len file le =
    let size : length (take len file) ≡ len = length-take-le len file le in
    record { no_shorter = inl (omega (arith, size)); front = ap (λ (n : ℕ). take n file) size }

torn_same : (at : ℕ) (bytes file : List ℕ) → Torn at bytes file file
torn_same at bytes file = record {
  before = refl;
  after = refl;
  no_shorter = omega arith;
  no_longer = le-max_left (length file) (at + length bytes);
  one_byte = λ one. inl refl;
}

at_most_one : (n a b : ℕ) → (n ≤ a) ⊎ (n ≤ b) → n ≤ max a b
at_most_one n a b (inl le) = let m = le-max_left a b in omega (arith, le, m)
at_most_one n a b (inr le) = let m = le-max_right a b in omega (arith, le, m)

nat_or : (m n : ℕ) → (m ≤ n) ⊎ (n ≤ m)
nat_or zero n = inl (omega arith)
nat_or (suc m) zero = inr (omega arith)
nat_or (suc m) (suc n) = elim (nat_or m n) [ inl le ↦ inl (omega (arith, le)) | inr le ↦ inr (omega (arith, le)) ]

torn_done : (at : ℕ) (bytes file : List ℕ) → at ≤ length file
    → Torn at bytes file (take at file ++ bytes ++ drop (at + length bytes) file)
torn_done at bytes file le =
    let front : length (take at file) ≡ at = length-take-le at file le in
    let behind : List ℕ = drop (at + length bytes) file in
    let both : length (take at file ++ bytes) ≡ at + length bytes =
    omega (arith, length-append (take at file) bytes, front) in
    let all : length (take at file ++ bytes ++ behind) ≡ at + length bytes + (length file - (at + length bytes)) =
    omega (arith, length-append (take at file ++ bytes) behind, both, length-drop (at + length bytes) file) in
    record {
      before = ap (take at) (append_assoc (take at file) bytes behind)
          ∙ take_at (take at file) (bytes ++ behind) at front;
      after = drop_at (take at file ++ bytes) behind (at + length bytes) both;
      no_shorter = omega (arith, all);
      no_longer = at_most_one _ (length file) (at + length bytes) (
          elim (nat_or (length file) (at + length bytes)) [
            | inl le ↦ inr (omega (arith, all, le))
            | inr le ↦ inl (omega (arith, all, le))
          ]
          );
      one_byte = λ one. inr refl;
    }

-- after a write
pub write_leaves : (calls : List Event) (at : ℕ) (bytes : List ℕ) (ok : Bool) → at ≤ length (state_of calls).seen
    → (left : List ℕ) → MayLeave (state_of (wrote at bytes ok ∷ calls)) left
    → (before : List ℕ) × MayLeave (state_of calls) before × Torn at bytes before left
write_leaves calls at bytes true le left (inl all) = (
  (state_of calls).seen,
  inl refl,
  subst (Torn at bytes (state_of calls).seen) (sym all) (torn_done at bytes (state_of calls).seen le),
)
write_leaves calls at bytes true le left (inr some) = (some.0, inr some.1, some.2)
write_leaves calls at bytes false le left (inl all) = (
  (state_of calls).seen,
  inl refl,
  subst (Torn at bytes (state_of calls).seen) (sym all) (torn_same at bytes (state_of calls).seen),
)
write_leaves calls at bytes false le left (inr some) = (some.0, inr some.1, some.2)

-- after a cut
pub cut_leaves : (calls : List Event) (len : ℕ) (ok : Bool) → len ≤ length (state_of calls).seen
    → (left : List ℕ) → MayLeave (state_of (shortened len ok ∷ calls)) left
    → (before : List ℕ) × MayLeave (state_of calls) before × Cut len before left
cut_leaves calls len true le left (inl all) = (
  (state_of calls).seen,
  inl refl,
  subst (Cut len (state_of calls).seen) (sym all) (cut_done len (state_of calls).seen le),
)
cut_leaves calls len true le left (inr some) = (some.0, inr some.1, some.2)
cut_leaves calls len false le left (inl all) = (
  (state_of calls).seen,
  inl refl,
  subst (Cut len (state_of calls).seen) (sym all) (cut_same len (state_of calls).seen),
)
cut_leaves calls len false le left (inr some) = (some.0, inr some.1, some.2)

-- and where no call was made
pub cut_refused : (outcomes : List ℕ → Type 0) (len : ℕ) (left : List ℕ) → outcomes left
    → (before : List ℕ) × outcomes before × Cut len before left
cut_refused outcomes len left may = (left, may, cut_same len left)
