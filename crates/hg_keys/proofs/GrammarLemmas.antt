-- The entries that are read of a payload are those whose bytes, joined, it is.
use Rattle.std.proofs.Common.{◌≡◌, ◌↔◌, ◌+◌, ◌^◌, ◌<◌, ◌≤◌, ℕ, zero, suc, Bool, true, false, cond, ltb, List}
use Rattle.std.proofs.Common.{[], ◌∷◌, ◌++◌, length, take, drop, Option, Some, None, refl, sym, ap, subst}
use Rattle.std.proofs.Common.{◌∙◌, append_assoc, arith, bytes_eq}
use Rattle.std.specs.Int.{w16, to_be_bytes, from_be_bytes}
use Rattle.std.specs.List.{flat_map, AllByRecursion}
use Rattle.std.specs.Option.{is_some}
use mathlib.Core.Bool.{false≢true}
use Rattle.std.proofs.lemmas.Bool.{ltb-false, le-ltb}
use Rattle.std.proofs.lemmas.List.{take-append-drop, length-take-le, length-append, get_or-drop}
use Rattle.std.proofs.lemmas.List.{nil_from_length}
use Rattle.std.proofs.lemmas.List.Concat.{flat_map-cons}
use Rattle.std.proofs.lemmas.Nat.{be_bytes_2, from_be_bytes-to_be_bytes_2}
use Rattle.std.proofs.lemmas.Slice.Eq.{bytes_eq-Decides}
use Rattle.std.proofs.Math.Seq.{take-append_seam, drop-append_seam}
use Rattle.hg_types.specs.Bytes.{IsBytes}
use Rattle.hg_types.specs.declared.node.Node.{Node}
use Rattle.hg_keys.specs.Payload.{Entry, no_node, target_bytes, entry_bytes, AreEntries, target_in, name_at}
use Rattle.hg_keys.specs.Payload.{sized_at, entry_at, with_front, entries_of, IsTarget, IsEntry}
use Rattle.hg_keys.proofs.PayloadLemmas.{goes_on, is_shorter, ends_short, ends_whole}

-- ---- an entry that was read

-- what a test that keeps only one side leaves
kept : {X : Type 0} (b : Bool) (read : Option X) (found : X) → cond b None read ≡ Some found → (b ≡ false)
    × (read ≡ Some found)
kept true read found is = absurd (false≢true (ap is_some is))
kept false read found is = (refl, is)

abbrev entry_in : Entry → Option (Entry × List ℕ) → Entry
entry_in other None = other
entry_in other (Some x) = x.0

abbrev rest_in : Option (Entry × List ℕ) → List ℕ
rest_in None = []
rest_in (Some x) = x.1

record NameParts (target : Option Node) (size : ℕ) (bytes : List ℕ) (entry : Entry)
    (rest : List ℕ) : Type 0 where
  target_is : entry.0 ≡ target
  size_is : length entry.1 ≡ size
  bytes_are : bytes ≡ entry.1 ++ rest

name_parts : (target : Option Node) (size : ℕ) (bytes : List ℕ) (entry : Entry) (rest : List ℕ)
    → name_at target size bytes ≡ Some (entry, rest)
    → NameParts target size bytes entry rest
unfolding name_at
name_parts target size bytes entry rest is =
    let k = kept (ltb (length bytes) size) (Some ((target, take size bytes), drop size bytes))
    (entry, rest) is in
    let long : size ≤ length bytes = ltb-false _ _ k.0 in
    let same : (target, take size bytes) ≡ entry = ap (entry_in entry) k.1 in
    let name : take size bytes ≡ entry.1 = ap (λ (e : Entry). e.1) same in
    let left : drop size bytes ≡ rest = ap rest_in k.1 in
    record {
      target_is = sym (ap (λ (e : Entry). e.0) same);
      size_is = sym (ap length name) ∙ length-take-le size bytes long;
      bytes_are = sym (take-append-drop size bytes) ∙ ap (λ n. n ++ drop size bytes) name
          ∙ ap (λ r. entry.1 ++ r) left;
    }

bytes_behind : (n : ℕ) (bytes : List ℕ) → IsBytes bytes → IsBytes (drop n bytes)
bytes_behind n bytes are i = rw (get_or-drop n bytes i 0) (are (n + i))

-- the first bytes of a list of bytes
pub bytes_before : (n : ℕ) (bytes : List ℕ) → IsBytes bytes → IsBytes (take n bytes)
bytes_before zero bytes are i = omega arith
bytes_before (suc n) [] are i = omega arith
bytes_before (suc n) (b ∷ bytes) are zero = are 0
bytes_before (suc n) (b ∷ bytes) are (suc i) = bytes_before n bytes (λ k. are (suc k)) i

record SizedParts (target : Option Node) (bytes : List ℕ) (entry : Entry) (rest : List ℕ) : Type 0 where
  target_is : entry.0 ≡ target
  few : length entry.1 < 2 ^ 16
  bytes_are : bytes ≡ to_be_bytes w16 (length entry.1) ++ (entry.1 ++ rest)

small : (bytes : List ℕ) → length bytes ≡ 2 → IsBytes bytes → from_be_bytes w16 bytes < 2 ^ 16
small [] len are = absurd (omega (arith, len))
small (a ∷ []) len are = absurd (omega (arith, len))
small (a ∷ b ∷ []) len are = let high = are 0 in let low = are 1 in omega (arith, high, low)
small (a ∷ b ∷ c ∷ bytes) len are = absurd (omega (arith, len))

sized_parts : (target : Option Node) (bytes : List ℕ) (entry : Entry) (rest : List ℕ) → IsBytes bytes
    → sized_at target bytes ≡ Some (entry, rest)
    → SizedParts target bytes entry rest
unfolding sized_at
sized_parts target bytes entry rest are is =
    let size = from_be_bytes w16 (take 2 bytes) in
    let k = kept (ltb (length bytes) 2) (name_at target size (drop 2 bytes)) (entry, rest) is in
    let long : 2 ≤ length bytes = ltb-false _ _ k.0 in
    let parts = name_parts target size (drop 2 bytes) entry rest k.1 in
    let two : length (take 2 bytes) ≡ 2 = length-take-le 2 bytes long in
    let spelled : to_be_bytes w16 (length entry.1) ≡ take 2 bytes = be_bytes_2 (take 2 bytes)
    (length entry.1) two (bytes_before 2 bytes are) parts.size_is in
    record {
      target_is = parts.target_is;
      few = subst (λ n. n < 2 ^ 16) (sym parts.size_is) (small (take 2 bytes) two (bytes_before 2 bytes are));
      bytes_are = sym (take-append-drop 2 bytes) ∙ ap (λ n. n ++ drop 2 bytes) (sym spelled)
          ∙ ap (λ n. to_be_bytes w16 (length entry.1) ++ n) parts.bytes_are;
    }

target_back : (id : List ℕ) → target_bytes (target_in id) ≡ id
target_back id = by (bytes_eq id no_node) refl
  where
    by : (v : Bool) → bytes_eq id no_node ≡ v → target_bytes (cond v None (Some (record { 0 = id }))) ≡ id
    by true is = sym ((bytes_eq-Decides id no_node).0 is)
    by false is = refl

target_ok : (id : List ℕ) → length id ≡ 20 → IsTarget (target_in id)
target_ok id len = by (bytes_eq id no_node) refl
  where
    by : (v : Bool) → bytes_eq id no_node ≡ v → IsTarget (cond v None (Some (record { 0 = id })))
    by true is = tt
    by false is = (len, λ same. absurd (false≢true (sym is ∙ (bytes_eq-Decides id no_node).1 same)))

record EntryParts (bytes : List ℕ) (entry : Entry) (rest : List ℕ) : Type 0 where
  is_entry : IsEntry entry
  bytes_are : bytes ≡ entry_bytes entry ++ rest

entry_parts : (bytes : List ℕ) (entry : Entry) (rest : List ℕ) → IsBytes bytes
    → entry_at bytes ≡ Some (entry, rest)
    → EntryParts bytes entry rest
unfolding entry_at
entry_parts bytes entry rest are is =
    let id = take 20 bytes in
    let k = kept (ltb (length bytes) 20) (sized_at (target_in id) (drop 20 bytes)) (entry, rest) is in
    let long : 20 ≤ length bytes = ltb-false _ _ k.0 in
    let parts = sized_parts (target_in id) (drop 20 bytes) entry rest (bytes_behind 20 bytes are) k.1 in
    let spelled : target_bytes entry.0 ≡ id = ap target_bytes parts.target_is ∙ target_back id in
    let size = to_be_bytes w16 (length entry.1) in
    record {
      is_entry = record {
        id = subst IsTarget (sym parts.target_is)
            (target_ok id (length-take-le 20 bytes long));
        name = parts.few;
      };
      bytes_are = sym (take-append-drop 20 bytes) ∙ ap (λ n. n ++ drop 20 bytes) (sym spelled)
          ∙ ap (λ n. target_bytes entry.0 ++ n) parts.bytes_are
          ∙ ap (λ n. target_bytes entry.0 ++ n) (sym (append_assoc size entry.1 rest))
          ∙ sym (append_assoc (target_bytes entry.0) (size ++ entry.1) rest);
    }

-- ---- an entry that is read back

length_id : (target : Option Node) → IsTarget target → length (target_bytes target) ≡ 20
length_id None ok = refl
length_id (Some node) ok = ok.0

target_again : (target : Option Node) → IsTarget target → target_in (target_bytes target) ≡ target
target_again None ok = ap (λ b. cond b None (Some (record { 0 = no_node })))
    ((bytes_eq-Decides no_node no_node).1 refl)
target_again (Some node) ok = by (bytes_eq node.0 no_node) refl
  where
    by : (v : Bool) → bytes_eq node.0 no_node ≡ v → cond v None (Some (record { 0 = node.0 })) ≡ Some node
    by true is = absurd (ok.1 ((bytes_eq-Decides node.0 no_node).0 is))
    by false is = refl

-- the front of a list and what is after it
cut : (n : ℕ) (front rest : List ℕ) → length front ≡ n → (take n (front ++ rest) ≡ front)
    × (drop n (front ++ rest) ≡ rest) × (ltb (length (front ++ rest)) n ≡ false)
cut n front rest len = (
  ap (λ k. take k (front ++ rest)) (sym len) ∙ take-append_seam front rest,
  ap (λ k. drop k (front ++ rest)) (sym len) ∙ drop-append_seam front rest,
  le-ltb _ _ (omega (arith, length-append front rest, len)),
)

name_again : (target : Option Node) (name rest : List ℕ)
    → name_at target (length name) (name ++ rest) ≡ Some ((target, name), rest)
unfolding name_at
name_again target name rest =
    let parts = cut (length name) name rest refl in
    ap (λ b. cond b None (Some (
      (target, take (length name) (name ++ rest)),
      drop (length name) (name ++ rest),
    ))) parts.2
    ∙ ap (λ n. Some ((target, n), drop (length name) (name ++ rest))) parts.0
    ∙ ap (λ r. Some ((target, name), r)) parts.1

sized_again : (target : Option Node) (name rest : List ℕ) → length name < 2 ^ 16
    → sized_at target (to_be_bytes w16 (length name) ++ (name ++ rest)) ≡ Some ((target, name), rest)
unfolding sized_at
sized_again target name rest few =
    let size = to_be_bytes w16 (length name) in
    let all = size ++ (name ++ rest) in
    let parts = cut 2 size (name ++ rest) refl in
    ap (λ b. cond b None (name_at target (from_be_bytes w16 (take 2 all)) (drop 2 all))) parts.2
    ∙ ap (λ n. name_at target (from_be_bytes w16 n) (drop 2 all)) parts.0
    ∙ ap (λ n. name_at target n (drop 2 all)) (from_be_bytes-to_be_bytes_2 (length name) few)
    ∙ ap (name_at target (length name)) parts.1 ∙ name_again target name rest

entry_again : (entry : Entry) (rest : List ℕ) → IsEntry entry
    → entry_at (entry_bytes entry ++ rest) ≡ Some (entry, rest)
unfolding entry_at
entry_again entry rest ok =
    let id = target_bytes entry.0 in
    let size = to_be_bytes w16 (length entry.1) in
    let behind = size ++ (entry.1 ++ rest) in
    let all = id ++ behind in
    let joined : entry_bytes entry ++ rest ≡ all = append_assoc id (size ++ entry.1) rest
    ∙ ap (λ n. id ++ n) (append_assoc size entry.1 rest) in
    let parts = cut 20 id behind (length_id entry.0 ok.id) in
    ap (λ bytes. cond (ltb (length bytes) 20) None (sized_at (target_in (take 20 bytes)) (drop 20 bytes)))
    joined
    ∙ ap (λ b. cond b None (sized_at (target_in (take 20 all)) (drop 20 all))) parts.2
    ∙ ap (λ n. sized_at (target_in n) (drop 20 all)) parts.0
    ∙ ap (λ t. sized_at t (drop 20 all)) (target_again entry.0 ok.id)
    ∙ ap (sized_at entry.0) parts.1 ∙ sized_again entry.0 entry.1 rest ok.name

-- ---- all entries

-- the entries whose bytes they are, are read
pub read_back : (entries : List Entry) → AllByRecursion IsEntry entries
    → entries_of (flat_map entry_bytes entries) ≡ Some entries
read_back [] ok = ends_whole [] refl
read_back (entry ∷ entries) ok =
    let rest = flat_map entry_bytes entries in
    let bytes = entry_bytes entry ++ rest in
    let some : 0 < length bytes = omega (
      arith,
      length-append (target_bytes entry.0 ++ (to_be_bytes w16 (length entry.1) ++ entry.1)) rest,
      length-append (target_bytes entry.0) (to_be_bytes w16 (length entry.1) ++ entry.1),
      length_id entry.0 ok.0.id,
    ) in
    ap entries_of (flat_map-cons entry_bytes entry entries)
    ∙ goes_on bytes entry rest some (entry_again entry rest ok.0)
    ∙ ap (with_front (entry ∷ [])) (read_back entries ok.1)

abbrev AreRead : List ℕ → List Entry → Type 0
AreRead bytes entries = AreEntries bytes entries × AllByRecursion IsEntry entries

abbrev list_in : List Entry → Option (List Entry) → List Entry
list_in others None = others
list_in others (Some entries) = entries

none_read : (bytes : List ℕ) (entries : List Entry) → length bytes ≡ 0 → entries_of bytes ≡ Some entries
    → AreRead bytes entries
none_read bytes entries none is =
    let same : [] ≡ entries = ap (list_in entries) (sym (ends_whole bytes none) ∙ is) in
    subst (AreRead bytes) same (nil_from_length bytes none, tt)

-- an entry before others that were read
module _ (bytes : List ℕ) (entry : Entry) (rest : List ℕ) (parts : EntryParts bytes entry rest) where
  more_read : (others entries : List Entry) → AreRead rest others → Some (entry ∷ others) ≡ Some entries
      → AreRead bytes entries
  more_read others entries read is =
      let same : entry ∷ others ≡ entries = ap (list_in entries) is in
      subst (AreRead bytes) same (
        parts.bytes_are ∙ ap (λ r. entry_bytes entry ++ r) read.0
            ∙ sym (flat_map-cons entry_bytes entry others),
        (parts.is_entry, read.1),
      )

  step_read : (o : Option (List Entry)) (entries : List Entry)
      → ((others : List Entry) → o ≡ Some others → AreRead rest others)
      → with_front (entry ∷ []) o ≡ Some entries → AreRead bytes entries
  step_read None entries later is = absurd (false≢true (ap is_some is))
  step_read (Some others) entries later is = more_read others entries (later others refl) is

  behind : IsBytes bytes → IsBytes rest
  behind are =
      let at : drop (length (entry_bytes entry)) bytes ≡ rest =
      ap (drop (length (entry_bytes entry))) parts.bytes_are
      ∙ drop-append_seam (entry_bytes entry) rest in
      subst IsBytes at (bytes_behind (length (entry_bytes entry)) bytes are)

first_read : (bytes : List ℕ) (entries : List Entry) (o : Option (Entry × List ℕ)) → entry_at bytes ≡ o
    → 0 < length bytes → IsBytes bytes
    → ((rest : List ℕ) (others : List Entry) → length rest < length bytes → IsBytes rest
    → entries_of rest ≡ Some others → AreRead rest others)
    → entries_of bytes ≡ Some entries → AreRead bytes entries
first_read bytes entries None at some are later is =
    absurd (false≢true (ap is_some (sym (ends_short bytes some at) ∙ is)))
first_read bytes entries (Some (entry, rest)) at some are later is =
    let parts = entry_parts bytes entry rest are at in
    step_read bytes entry rest parts (entries_of rest) entries
    (λ others found. later rest others (is_shorter bytes entry rest at)
    (behind bytes entry rest parts are) found)
    (sym (goes_on bytes entry rest some at) ∙ is)

read_within : (most : ℕ) (bytes : List ℕ) (entries : List Entry) → length bytes ≤ most → IsBytes bytes
    → entries_of bytes ≡ Some entries
    → AreRead bytes entries
read_within most [] entries few are is = none_read [] entries refl is
read_within zero (byte ∷ bytes) entries few are is = absurd (omega (arith, few))
read_within (suc most) (byte ∷ bytes) entries few are is =
    first_read (byte ∷ bytes) entries (entry_at (byte ∷ bytes)) refl (omega arith) are
    (λ rest others shorter rest_are found. read_within most rest others
    (omega (arith, few, shorter)) rest_are found) is

-- the law
pub grammar : (bytes : List ℕ) (entries : List Entry) → IsBytes bytes
    → (entries_of bytes ≡ Some entries) ↔ AreRead bytes entries
grammar bytes entries are = (
  read_within (length bytes) bytes entries (omega arith) are,
  λ read. ap entries_of read.0 ∙ read_back entries read.1,
)
