-- Entries: what is read is what the bytes are.
use Rattle.std.proofs.Common.{◌≡◌, ◌+◌, ◌*◌, ◌<◌, ◌≤◌, ℕ, zero, suc, Bool, true, false, ◌&&◌, cond, eqb, List}
use Rattle.std.proofs.Common.{[], ◌∷◌, ◌++◌, length, take, drop, get_or, Option, None, Some, Result, Ok, Err}
use Rattle.std.proofs.Common.{IfOk, refl, sym, ap, subst, ◌∙◌, inl, inr, arith}
use Rattle.std.specs.Prelude.{option_map, is_some, ◌/◌, ◌%◌}
use Rattle.std.specs.List.{flat_map, filter_map, cons_option, list_all}
use Rattle.std.specs.Int.{w32, to_be_bytes, from_be_bytes}
use Rattle.std.specs.Simd.{first_chunks}
use Rattle.std.proofs.Math.Nat.{div-add-mod}
use Rattle.std.proofs.lemmas.Bool.{cases_lt, cond_both, cond-true, cond-false, eqb-true}
use Rattle.std.proofs.lemmas.List.{take-append-drop, length-take, length-drop, get_or-take, get_or-drop}
use Rattle.std.proofs.lemmas.List.{get_or_past, take_all, take_more, nil_from_length}
use Rattle.std.proofs.lemmas.List.Elements.{filter_map-append}
use Rattle.std.proofs.lemmas.List.Folds.{list_all_more, list_all_at}
use Rattle.std.proofs.lemmas.Nat.{be_bytes_4}
use Rattle.hg_types.specs.Bytes.{IsBytes}
use Rattle.hg_types.specs.declared.node.Node.{Node}
use Rattle.hg_types.specs.declared.phase.Phase.{Phase}
use Rattle.hg_types.specs.declared.phase.Phase.TheVariants.{Public, Draft, Secret}
use Rattle.hg_types.specs.Phase.{number_of}
use Rattle.hg_phases.specs.declared.fault.EntryFault.{EntryFault}
use Rattle.hg_phases.specs.declared.fault.EntryFault.TheVariants.{Short, BadPhase}
use Rattle.hg_phases.specs.Order.{phase_from}
use Rattle.hg_phases.specs.Entries.{entry_bytes, AreEntries, phase_in, node_in, entry_in, is_entry}
use Rattle.hg_phases.specs.Entries.{entries_in, entries_of, EntriesGive}

-- ---- one entry

IsBytes-drop : (n : ℕ) (bytes : List ℕ) → IsBytes bytes → IsBytes (drop n bytes)
IsBytes-drop n bytes fits i = rw get_or-drop (fits (n + i))

IsBytes-take : (n : ℕ) (bytes : List ℕ) → IsBytes bytes → IsBytes (take n bytes)
IsBytes-take n bytes fits i = elim (cases_lt i n) [
  | inl less ↦ rw (get_or-take n bytes i 0 less) (fits i)
  | inr past ↦ rw (get_or_past (take n bytes) i 0 (omega (arith, length-take n bytes))) (omega arith)
]

-- a phase has the number that it was made from
number_from : (n : ℕ) (phase : Phase) → phase_from n ≡ Some phase → number_of phase ≡ n
number_from n phase =
    cond_both (eqb n 0) (Some Public) (cond (eqb n 1) (Some Draft) (cond (eqb n 2) (Some Secret) None))
    (λ o. o ≡ Some phase → number_of phase ≡ n)
    (λ h e. let is : Public ≡ phase = cc in ap number_of (sym is) ∙ sym (eqb-true n 0 h))
    (λ not_public. cond_both (eqb n 1) (Some Draft) (cond (eqb n 2) (Some Secret) None) (λ o. o ≡ Some phase
    → number_of phase ≡ n)
    (λ h e. let is : Draft ≡ phase = cc in ap number_of (sym is) ∙ sym (eqb-true n 1 h))
    (λ not_draft. cond_both (eqb n 2) (Some Secret) None (λ o. o ≡ Some phase → number_of phase ≡ n)
    (λ h e. let is : Secret ≡ phase = cc in ap number_of (sym is) ∙ sym (eqb-true n 2 h))
    (λ none e. absurd cc)))

spelled_by : (piece : List ℕ) (entry : Phase × Node) (o : Option Phase) → length piece ≡ 24 → IsBytes piece
    → phase_in piece ≡ o → option_map (λ phase. (phase, node_in piece)) o ≡ Some entry
    → entry_bytes entry ≡ piece
spelled_by piece entry None len fits is e = absurd cc
spelled_by piece entry (Some phase) len fits is e =
    let same : (phase, node_in piece) ≡ entry = cc in
    let first : length (take 4 piece) ≡ 4 = omega (arith, length-take 4 piece) in
    let id : take 20 (drop 4 piece) ≡ drop 4 piece = take_all 20 (drop 4 piece)
    (omega (arith, length-drop 4 piece)) in
    subst (λ (x : Phase × Node). entry_bytes x ≡ piece) same (
    ap (λ (k : ℕ). to_be_bytes w32 k ++ take 20 (drop 4 piece))
    (number_from (from_be_bytes w32 (take 4 piece)) phase is)
    ∙ ap (λ (bs : List ℕ). bs ++ take 20 (drop 4 piece))
    (be_bytes_4 (take 4 piece) (from_be_bytes w32 (take 4 piece)) first (IsBytes-take 4 piece fits) refl)
    ∙ ap (λ (bs : List ℕ). take 4 piece ++ bs) id
    ∙ take-append-drop 4 piece
    )

entry_spelled : (piece : List ℕ) (entry : Phase × Node) → length piece ≡ 24 → IsBytes piece
    → entry_in piece ≡ Some entry → entry_bytes entry ≡ piece
unfolding entry_in
entry_spelled piece entry len fits e = spelled_by piece entry (phase_in piece) len fits refl e

some_is : {X : Type 0} (o : Option X) → is_some o ≡ true → (x : X) × (o ≡ Some x)
some_is None is = absurd cc
some_is (Some x) is = (x, refl)

both_true : (x y : Bool) → (x && y) ≡ true → (x ≡ true) × (y ≡ true)
both_true true y e = (refl, e)
both_true false y e = absurd cc

-- ---- all entries

all_spelled : (k : ℕ) (bytes : List ℕ) → length bytes ≡ k * 24 → IsBytes bytes
    → list_all is_entry (first_chunks 24 k bytes) ≡ true
    → AreEntries bytes (filter_map entry_in (first_chunks 24 k bytes))
all_spelled zero bytes len fits all = nil_from_length bytes (omega (arith, len))
all_spelled (suc k) bytes len fits all =
    let rest : List ℕ = drop 24 bytes in
    let later : List (Phase × Node) = filter_map entry_in (first_chunks 24 k rest) in
    let both = both_true (is_entry (take 24 bytes)) (list_all is_entry (first_chunks 24 k rest)) all in
    let some = some_is (entry_in (take 24 bytes)) both.0 in
    let behind : rest ≡ flat_map entry_bytes later = all_spelled k rest
    (omega (arith, length-drop 24 bytes, len)) (IsBytes-drop 24 bytes fits) both.1 in
    let here : entry_bytes some.0 ≡ take 24 bytes = entry_spelled (take 24 bytes) some.0
    (omega (arith, length-take 24 bytes, len)) (IsBytes-take 24 bytes fits) some.1 in
    sym (take-append-drop 24 bytes)
    ∙ ap (λ (bs : List ℕ). bs ++ rest) (sym here)
    ∙ ap (λ (bs : List ℕ). entry_bytes some.0 ++ bs) behind
    ∙ ap (λ (o : Option (Phase × Node)). flat_map entry_bytes (cons_option o later)) (sym some.1)

ok_is : (whole all : Bool) (made entries : List (Phase × Node))
    → cond whole (cond all (Ok made) (Err BadPhase)) (Err Short) ≡ Ok entries → (whole ≡ true) × (all ≡ true)
    × (made ≡ entries)
ok_is true true made entries e = (refl, refl, cc)
ok_is true false made entries e = absurd cc
ok_is false all made entries e = absurd cc

pub found_are : (bytes : List ℕ) (entries : List (Phase × Node)) → IsBytes bytes
    → entries_of bytes ≡ Ok entries → AreEntries bytes entries
unfolding entries_of entries_in
found_are bytes entries fits e =
    let k : ℕ = length bytes / 24 in
    let is = ok_is (eqb (length bytes % 24) 0) (list_all is_entry (first_chunks 24 k bytes))
    (filter_map entry_in (first_chunks 24 k bytes)) entries e in
    let whole : length bytes ≡ k * 24 = omega (
      arith,
      div-add-mod (length bytes) 24,
      eqb-true (length bytes % 24) 0 is.0,
    ) in
    subst (AreEntries bytes) is.2 (all_spelled k bytes whole fits is.1)

-- ---- the loop

pub each_more : (pieces : List (List ℕ)) (i : ℕ) (entry : Phase × Node) → i < length pieces
    → entry_in (get_or pieces i []) ≡ Some entry → list_all is_entry (take i pieces) ≡ true
    → list_all is_entry (take (i + 1) pieces) ≡ true
each_more pieces i entry low is all = list_all_more is_entry pieces i [] low
    ∙ ap (λ b. b && is_entry (get_or pieces i [])) all ∙ ap is_some is

pub made_more : (pieces : List (List ℕ)) (i : ℕ) (entry : Phase × Node) → i < length pieces
    → entry_in (get_or pieces i []) ≡ Some entry
    → filter_map entry_in (take (i + 1) pieces) ≡ filter_map entry_in (take i pieces) ++ entry ∷ []
made_more pieces i entry low is =
    ap (filter_map entry_in) (take_more pieces i [] low)
    ∙ filter_map-append entry_in (take i pieces) (get_or pieces i [] ∷ [])
    ∙ ap (λ o. filter_map entry_in (take i pieces) ++ cons_option o []) is

pub bad_piece : (pieces : List (List ℕ)) (i : ℕ) → i < length pieces → entry_in (get_or pieces i []) ≡ None
    → entries_in pieces ≡ Err BadPhase
unfolding entries_in
bad_piece pieces i low is =
    cond-false (list_all is_entry pieces) _ _ (list_all_at is_entry pieces i [] low (ap is_some is))

pub all_read : (pieces : List (List ℕ)) (i : ℕ) (entries : List (Phase × Node)) → length pieces ≤ i
    → list_all is_entry (take i pieces) ≡ true → entries ≡ filter_map entry_in (take i pieces)
    → entries_in pieces ≡ Ok entries
unfolding entries_in
all_read pieces i entries all each made =
    let whole : take i pieces ≡ pieces = take_all i pieces all in
    cond-true (list_all is_entry pieces) _ _ (ap (list_all is_entry) (sym whole) ∙ each)
    ∙ ap (λ (es : List (Phase × Node)). Ok es) (sym (made ∙ ap (filter_map entry_in) whole))

-- ---- the whole payload

pub entries_short : (bytes rest : List ℕ) → length rest ≡ length bytes % 24 → eqb (length rest) 0 ≡ false
    → entries_of bytes ≡ Err Short
unfolding entries_of
entries_short bytes rest len some =
    cond-false (eqb (length bytes % 24) 0) _ _ (ap (λ (n : ℕ). eqb n 0) (sym len) ∙ some)

pub entries_whole : (bytes : List ℕ) (pieces : List (List ℕ)) (rest : List ℕ)
    → pieces ≡ first_chunks 24 (length bytes / 24) bytes → length rest ≡ length bytes % 24
    → eqb (length rest) 0 ≡ true
    → entries_of bytes ≡ entries_in pieces
unfolding entries_of
entries_whole bytes pieces rest are len none =
    cond-true (eqb (length bytes % 24) 0) _ _ (ap (λ (n : ℕ). eqb n 0) (sym len) ∙ none)
    ∙ ap entries_in (sym are)

pub given_where : (bytes : List ℕ) (pieces : List (List ℕ)) (result : Result (List (Phase × Node)) EntryFault)
    → entries_of bytes ≡ entries_in pieces → EntriesGive result (entries_in pieces)
    → EntriesGive result (entries_of bytes)
given_where bytes pieces (Ok entries) same given = same ∙ given
given_where bytes pieces (Err fault) same (inl refused) = inl refused
given_where bytes pieces (Err fault) same (inr given) = inr (same ∙ given)

pub found_where : (bytes : List ℕ) (result : Result (List (Phase × Node)) EntryFault) → IsBytes bytes
    → EntriesGive result (entries_of bytes) → IfOk result (λ entries. AreEntries bytes entries)
found_where bytes (Ok entries) fits given = found_are bytes entries fits given
found_where bytes (Err fault) fits given = tt
