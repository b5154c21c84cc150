-- The repository that the first pushes of a journal lead to is one that the server had.
use Rattle.std.proofs.Common.{ℕ, Bool, true, false, cond, ◌≡◌, ◌+◌, ◌≤◌, List, [], ◌∷◌, ◌++◌, refl}
use Rattle.std.proofs.Common.{sym, ap, ◌∙◌, subst, arith, append_assoc, length, length-append, reverse, take, take_at}
use Rattle.std.proofs.Common.{Option, Some, None, Result, Ok, Err, inl, inr, eq-or-lt_of_le, take_all}
use Rattle.std.proofs.lemmas.List.{reverse-append, reverse-reverse}
use mathlib.Core.List.{IsPrefix}
use Rattle.hg_parts.specs.declared.item.Taken.{Taken}
use Rattle.hg_push.specs.Changed.{OneByOne}
use Rattle.hg_push.specs.History.{History, Running, Serial, after, decided, is_closed, kept, parts, serial}
use Rattle.hg_push.specs.Places.{IsPlace}
use Rattle.hg_push.specs.Run.{RepositoryOf, run_push}
use Rattle.hg_serve.specs.Histories.{newest_first, serial_run}
use Rattle.hg_commit.specs.Records.{done_in}
use Rattle.hg_theorems.specs.Recovering.{IsAfter, WasThere}

-- ---- a journal gets one push at a time

one_kept : {R D E : Type 0} (s : Serial R) (p : ℕ) (result : Option (Result (R × D) E))
    → length (kept s p result).journal ≤ length s.journal + 1
one_kept s p None = omega arith
one_kept s p (Some (Err reason)) = omega arith
one_kept s p (Some (Ok done)) = omega (arith, length-append s.journal (p ∷ []))

one_more : {A R D E : Type 0} (run : Running A R D E) (before : History A) (x : Taken A) (s : Serial R)
    → length (after run before x s).journal ≤ length s.journal + 1
one_more run before x s = by (is_closed x.item.push before)
  where
    by : (b : Bool) → length
        (cond b s (kept s x.item.push (decided run s.repo (parts x.item.push before) x))).journal
        ≤ length s.journal + 1
    by true = omega arith
    by false = one_kept s x.item.push (decided run s.repo (parts x.item.push before) x)

-- a front of a history, with so many done pushes
pub record Split {A R D E : Type 0} (run : Running A R D E) (first : R) (h : History A) (n : ℕ) : Type 0 where
  pub late : History A
  pub before : History A
  pub spelled : h ≡ late ++ before
  pub number : length (serial run first before).journal ≡ n

split_at : {A R D E : Type 0} (run : Running A R D E) (first : R) (h : History A) (n : ℕ)
    → n ≤ length (serial run first h).journal → Split run first h n
split_at run first [] n low =
    record { late = []; before = []; spelled = refl; number = omega (arith, low) }
split_at {A = A} run first (x ∷ h) n low =
    elim (eq-or-lt_of_le low) [
      | inl all ↦ record { late = []; before = x ∷ h; spelled = refl; number = sym all }
      | inr less ↦
          let top : length (serial run first (x ∷ h)).journal ≤ length (serial run first h).journal + 1 =
          one_more run h x (serial run first h) in
          let inner = split_at run first h n (omega (arith, less, top)) in
          record {
            late = x ∷ inner.late;
            before = inner.before;
            spelled = ap (λ (b : History A). x ∷ b) inner.spelled;
            number = inner.number;
          }
    ]

module _ {A : Type 0}
    (grow : (first : RepositoryOf A) (late before : History A) →
    IsPrefix (serial run_push first before).journal (serial run_push first (late ++ before)).journal)
    (stay : (p : ℕ) (late before : History A) → is_closed p before ≡ true →
    parts p (late ++ before) ≡ parts p before)
    (closed : (first : RepositoryOf A) (h : History A) (p place : ℕ) → IsPlace run_push first h p place →
    is_closed p h ≡ true)
    (alone : (first last : RepositoryOf A) (h : History A) → OneByOne run_push (λ p. parts p h) first
    (serial run_push first h).journal last → last ≡ (serial run_push first h).repo)
    (first : RepositoryOf A)
  where
    -- pushes that are done have their parts already
    own_parts : (late before : History A) (front rest : List ℕ) (from last : RepositoryOf A)
        → (serial run_push first before).journal ≡ front ++ rest
        → OneByOne run_push (λ p. parts p (late ++ before)) from rest last
        → OneByOne run_push (λ p. parts p before) from rest last
    own_parts late before front [] from last is ran = ran
    own_parts late before front (p ∷ rest) from last is ran =
        let at : IsPlace run_push first before p (length front) =
        record { front = front; back = rest; spelled = is; count = refl } in
        let same = stay p late before (closed first before p (length front) at) in (
          ran.0,
          ran.1,
          ap (run_push from) (sym same) ∙ ran.2,
          own_parts late before (front ++ p ∷ []) rest ran.0 last (is ∙ sym (append_assoc front (p ∷ []) rest))
              ran.3,
        )

    -- the repository after the first of the journal is that of the front of the history
    had_then : (late before : History A) (n : ℕ) (last : RepositoryOf A)
        → length (serial run_push first before).journal ≡ n
        → OneByOne run_push (λ p. parts p (late ++ before)) first
        (take n (serial run_push first (late ++ before)).journal) last
        → last ≡ (serial run_push first before).repo
    had_then late before n last number ran =
        let journal : List ℕ = (serial run_push first before).journal in
        let g = grow first late before in
        let short : take n (serial run_push first (late ++ before)).journal ≡ journal =
        ap (take n) (sym g.1) ∙ take_at journal g.0 n number in
        alone first last before (own_parts late before [] journal first last refl
        (subst (λ (l : List ℕ). OneByOne run_push (λ p. parts p (late ++ before)) first l last) short ran))

    pub was_there : (h : List (Taken A)) (n : ℕ) (repo : RepositoryOf A) → IsAfter first h n repo
        → WasThere first h n repo
    was_there h n repo is =
        let split = split_at run_push first (newest_first h) n is.done in
        let there = had_then split.late split.before n repo split.number
        (subst (λ (k : History A). OneByOne run_push (λ p. parts p k) first
        (take n (serial run_push first k).journal) repo) split.spelled is.ran) in
        let again : newest_first (reverse split.before) ≡ split.before = reverse-reverse split.before in
        let spelled : reverse split.before ++ reverse split.late ≡ h =
        sym (reverse-append split.late split.before) ∙ (ap reverse (sym split.spelled) ∙ reverse-reverse h) in
        record {
          before = reverse split.before;
          began = (reverse split.late, spelled);
          number = ap (λ (k : History A). length (serial run_push first k).journal) again ∙ split.number;
          had = there ∙ sym (ap (λ (k : History A). (serial run_push first k).repo) again);
        }

    pub at_the_end : (h : List (Taken A)) (repo : RepositoryOf A) → IsAfter first h (done_in first h) repo
        → repo ≡ (serial_run first h).repo
    at_the_end h repo is =
        let all = take_all (done_in first h) (serial_run first h).journal (omega arith) in
        alone first repo (newest_first h) (subst (λ (l : List ℕ). OneByOne run_push
        (λ p. parts p (newest_first h)) first l repo) all is.ran)
