-- A hunk that is read.
use Rattle.std.proofs.Common.{◌≡◌, ◌⊎◌, ℕ, ◌<◌, ◌≤◌, List, length, take, drop, Result, Ok, Err, refl, sym, ap, subst, ◌∙◌, ◌-◌, arith, inl, inr}
use Rattle.std.proofs.lemmas.List.{length-drop, take_all}
use Rattle.std.proofs.lemmas.Bool.{lt-ltb, le-ltb}
use Rattle.hg_delta.specs.declared.fault.DeltaFault.{DeltaFault}
use Rattle.hg_delta.specs.declared.fault.DeltaFault.TheVariants.{Short, Backwards, PastEnd}
use Rattle.hg_delta.specs.Delta.{Hunk}
use Rattle.hg_delta.specs.Outcome.{hunk_at, hunk_headed, number_at}

abbrev Read : Type 0
Read = Result (Hunk × List ℕ) DeltaFault

abbrev has : DeltaFault → Read
has fault = Err fault

abbrev gives : ℕ → ℕ → List ℕ → List ℕ → Read
gives start end content after = Ok (record { start = start; end = end; content = content }, after)

-- fewer bytes than a header has
pub is_short : (size before : ℕ) (bytes : List ℕ) → length bytes < 12 → has Short ≡ hunk_at size before bytes
unfolding hunk_at
is_short size before bytes few = rw (lt-ltb (length bytes) 12 few) refl

headed : (size before : ℕ) (bytes : List ℕ) → 12 ≤ length bytes → hunk_at size before bytes
    ≡ hunk_headed size before (number_at 0 bytes) (number_at 4 bytes) (number_at 8 bytes) (drop 12 bytes)
unfolding hunk_at
headed size before bytes long = rw (le-ltb (length bytes) 12 long) refl

module _ (size before start end wanted : ℕ) (more : List ℕ) where
  begins_before : start < before → hunk_headed size before start end wanted more ≡ has Backwards
  unfolding hunk_headed
  begins_before below = rw (lt-ltb start before below) refl

  ends_before : before ≤ start → end < start → hunk_headed size before start end wanted more ≡ has Backwards
  unfolding hunk_headed
  ends_before ascends below = rw (le-ltb start before ascends, lt-ltb end start below) refl

  is_back : (start < before) ⊎ ((before ≤ start) × (end < start)) → hunk_headed size before start end wanted more ≡ has Backwards
  is_back (inl below) = begins_before below
  is_back (inr below) = ends_before below.0 below.1

  is_past : before ≤ start → start ≤ end → size < end → hunk_headed size before start end wanted more ≡ has PastEnd
  unfolding hunk_headed
  is_past ascends forward past =
      rw (le-ltb start before ascends, le-ltb end start forward, lt-ltb size end past) refl

  lacks : before ≤ start → start ≤ end → end ≤ size → length more < wanted →
      hunk_headed size before start end wanted more ≡ has Short
  unfolding hunk_headed
  lacks ascends forward within few =
      rw (le-ltb start before ascends, le-ltb end start forward, le-ltb size end within, lt-ltb (length more) wanted few) refl

  is_whole : before ≤ start → start ≤ end → end ≤ size → wanted ≤ length more →
      hunk_headed size before start end wanted more ≡ gives start end (take wanted more) (drop wanted more)
  unfolding hunk_headed
  is_whole ascends forward within enough =
      rw (le-ltb start before ascends, le-ltb end start forward, le-ltb size end within, le-ltb (length more) wanted enough) refl

-- the numbers by the names that the code has for them
module _ (size before : ℕ) (bytes : List ℕ) (start end wanted : ℕ) (s : start ≡ number_at 0 bytes)
    (e : end ≡ number_at 4 bytes) (w : wanted ≡ number_at 8 bytes) (long : 12 ≤ length bytes)
  where
    named : hunk_at size before bytes ≡ hunk_headed size before start end wanted (drop 12 bytes)
    named = headed size before bytes long
        ∙ (ap (λ (n : ℕ). hunk_headed size before n (number_at 4 bytes) (number_at 8 bytes) (drop 12 bytes)) (sym s)
        ∙ (ap (λ (n : ℕ). hunk_headed size before start n (number_at 8 bytes) (drop 12 bytes)) (sym e)
        ∙ ap (λ (n : ℕ). hunk_headed size before start end n (drop 12 bytes)) (sym w)))

    pub reads_back : (start < before) ⊎ ((before ≤ start) × (end < start)) → has Backwards ≡ hunk_at size before bytes
    reads_back back = sym (named ∙ is_back size before start end wanted (drop 12 bytes) back)

    pub reads_past : before ≤ start → start ≤ end → size < end → has PastEnd ≡ hunk_at size before bytes
    reads_past ascends forward past =
        sym (named ∙ is_past size before start end wanted (drop 12 bytes) ascends forward past)

    pub reads_short : (rest : List ℕ) → rest ≡ drop 12 bytes → before ≤ start → start ≤ end → end ≤ size →
        length rest < wanted → has Short ≡ hunk_at size before bytes
    reads_short rest is ascends forward within few =
        sym (named ∙ lacks size before start end wanted (drop 12 bytes) ascends forward within
        (subst (λ (x : List ℕ). length x < wanted) is few))

    pub reads_whole : (rest content after : List ℕ) → rest ≡ drop 12 bytes → before ≤ start → start ≤ end → end ≤ size →
        wanted ≤ length rest → content ≡ take wanted rest → after ≡ drop wanted rest →
        gives start end content after ≡ hunk_at size before bytes
    reads_whole rest content after is ascends forward within enough front back =
        ap (λ (x : List ℕ). gives start end x after) (front ∙ ap (take wanted) is)
        ∙ (ap (λ (x : List ℕ). gives start end (take wanted (drop 12 bytes)) x) (back ∙ ap (drop wanted) is)
        ∙ sym (named ∙ is_whole size before start end wanted (drop 12 bytes) ascends forward within
        (subst (λ (x : List ℕ). wanted ≤ length x) is enough)))

-- all bytes behind a header
pub behind_header : (bytes : List ℕ) → take (length bytes - 12) (drop 12 bytes) ≡ drop 12 bytes
behind_header bytes = take_all (length bytes - 12) (drop 12 bytes) (omega (arith, length-drop 12 bytes))
