-- Reading a payload of bookmarks, an entry at a time.
use Rattle.std.proofs.Common.{◌≡◌, ◌<◌, ◌≤◌, ℕ, zero, suc, true, false, cond, ltb, List, [], ◌∷◌, ◌++◌}
use Rattle.std.proofs.Common.{length, take, drop, Option, Some, None, refl, sym, ap, subst, ◌∙◌, append_assoc}
use Rattle.std.proofs.Common.{arith}
use Rattle.std.specs.Int.{w16, from_be_bytes}
use mathlib.Core.Bool.{false≢true}
use Rattle.std.specs.Option.{is_some}
use Rattle.std.proofs.lemmas.Bool.{ltb-false}
use Rattle.std.proofs.lemmas.List.{append-nil, length-drop}
use Rattle.hg_types.specs.declared.node.Node.{Node}
use Rattle.hg_keys.specs.Payload.{Entry, target_in, name_at, sized_at, entry_at, with_front, and_then}
use Rattle.hg_keys.specs.Payload.{entries_within, entries_of}

abbrev rest_of : Option (Entry × List ℕ) → List ℕ
rest_of None = []
rest_of (Some x) = x.1

-- an entry leaves fewer bytes
name_shorter : (target : Option Node) (size : ℕ) (bytes : List ℕ) (entry : Entry) (rest : List ℕ)
    → name_at target size bytes ≡ Some (entry, rest) → length rest ≤ length bytes
unfolding name_at
name_shorter target size bytes entry rest e =
    let found : Entry × List ℕ = ((target, take size bytes), drop size bytes) in
    elim (ltb (length bytes) size) as (λ b. cond b None (Some found) ≡ Some (entry, rest)
    → length rest ≤ length bytes) [
      | true ↦ λ is. absurd (false≢true (ap is_some is))
      | false ↦ λ is.
          let left : drop size bytes ≡ rest = ap rest_of is in
          subst (λ (r : List ℕ). length r ≤ length bytes) left (omega (arith, length-drop size bytes))
    ] e

sized_shorter : (target : Option Node) (bytes : List ℕ) (entry : Entry) (rest : List ℕ)
    → sized_at target bytes ≡ Some (entry, rest) → length rest ≤ length bytes
unfolding sized_at
sized_shorter target bytes entry rest e =
    let size = from_be_bytes w16 (take 2 bytes) in
    elim (ltb (length bytes) 2) as (λ b. cond b None (name_at target size (drop 2 bytes)) ≡ Some (entry, rest)
    → length rest ≤ length bytes) [
      | true ↦ λ is. absurd (false≢true (ap is_some is))
      | false ↦ λ is. omega (
        arith,
        name_shorter target size (drop 2 bytes) entry rest is,
        length-drop 2 bytes,
      )
    ] e

pub is_shorter : (bytes : List ℕ) (entry : Entry) (rest : List ℕ) → entry_at bytes ≡ Some (entry, rest)
    → length rest < length bytes
unfolding entry_at
is_shorter bytes entry rest e =
    let target = target_in (take 20 bytes) in
    elim (ltb (length bytes) 20) as (λ b. ltb (length bytes) 20 ≡ b
    → cond b None (sized_at target (drop 20 bytes)) ≡ Some (entry, rest) → length rest < length bytes) [
      | true ↦ λ short is. absurd (false≢true (ap is_some is))
      | false ↦ λ long is. omega (
        arith,
        ltb-false _ _ long,
        sized_shorter target (drop 20 bytes) entry rest is,
        length-drop 20 bytes,
      )
    ] refl e

-- more places for entries than bytes change nothing
step_same : (n m : ℕ) (bytes : List ℕ)
    → ((entry : Entry) (rest : List ℕ) → entry_at bytes ≡ Some (entry, rest)
    → entries_within n rest ≡ entries_within m rest)
    → and_then (entry_at bytes) (entries_within n) ≡ and_then (entry_at bytes) (entries_within m)
step_same n m bytes same =
    elim (entry_at bytes) as (λ o. entry_at bytes ≡ o
    → and_then o (entries_within n) ≡ and_then o (entries_within m)) [
      | None ↦ λ is. refl
      | Some x ↦ λ is. ap (with_front (x.0 ∷ [])) (same x.0 x.1 is)
    ] refl

enough : (n m : ℕ) (bytes : List ℕ) → length bytes ≤ n → length bytes ≤ m
    → entries_within n bytes ≡ entries_within m bytes
unfolding entries_within
enough zero zero bytes le le' = refl
enough zero (suc m) [] le le' = refl
enough zero (suc m) (b ∷ bytes) le le' = absurd (omega (arith, le))
enough (suc n) zero [] le le' = refl
enough (suc n) zero (b ∷ bytes) le le' = absurd (omega (arith, le'))
enough (suc n) (suc m) [] le le' = refl
enough (suc n) (suc m) (b ∷ bytes) le le' =
    step_same n m (b ∷ bytes) (λ entry rest is.
    let shorter = is_shorter (b ∷ bytes) entry rest is in
    enough n m rest (omega (arith, shorter, le)) (omega (arith, shorter, le')))

-- the entries are the first one and those after it
pub goes_on : (bytes : List ℕ) (entry : Entry) (rest : List ℕ) → 0 < length bytes
    → entry_at bytes ≡ Some (entry, rest) → entries_of bytes ≡ with_front (entry ∷ []) (entries_of rest)
unfolding entries_of entries_within
goes_on [] entry rest some is = absurd (omega (arith, some))
goes_on (b ∷ bytes) entry rest some is =
    ap (λ o. and_then o (entries_within (length bytes))) is
    ∙ ap (with_front (entry ∷ []))
    (enough (length bytes) (length rest) rest (omega (arith, is_shorter (b ∷ bytes) entry rest is))
    (omega arith))

pub ends_short : (bytes : List ℕ) → 0 < length bytes → entry_at bytes ≡ None → entries_of bytes ≡ None
unfolding entries_of entries_within
ends_short [] some is = absurd (omega (arith, some))
ends_short (b ∷ bytes) some is = ap (λ o. and_then o (entries_within (length bytes))) is

pub ends_whole : (bytes : List ℕ) → length bytes ≡ 0 → entries_of bytes ≡ Some []
unfolding entries_of entries_within
ends_whole [] none = refl
ends_whole (b ∷ bytes) none = absurd (omega (arith, none))

pub front_joined : (front : List Entry) (entry : Entry) (read : Option (List Entry))
    → with_front front (with_front (entry ∷ []) read) ≡ with_front (front ++ entry ∷ []) read
front_joined front entry None = refl
front_joined front entry (Some entries) =
    ap (λ (es : List Entry). Some es) (sym (append_assoc front (entry ∷ []) entries))

pub no_front : (read : Option (List Entry)) → with_front [] read ≡ read
no_front None = refl
no_front (Some entries) = refl

pub front_alone : (front : List Entry) → with_front front (Some []) ≡ Some front
front_alone front = ap (λ (es : List Entry). Some es) (append-nil front)
