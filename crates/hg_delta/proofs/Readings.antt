-- A delta is read in one way.
use Rattle.std.proofs.Common.{◌≡◌, ◌⊎◌, ℕ, ◌+◌, ◌^◌, ◌<◌, List, [], ◌∷◌, ◌++◌, length, take, drop, Result, Ok}
use Rattle.std.proofs.Common.{Err, refl, sym, ap, subst, ◌∙◌, append_assoc, arith, inl, inr}
use Rattle.std.specs.List.{AllByRecursion, flat_map}
use Rattle.std.proofs.lemmas.List.{length-append, take_at, drop_at}
use Rattle.hg_delta.specs.declared.fault.DeltaFault.{DeltaFault}
use Rattle.hg_delta.specs.declared.fault.DeltaFault.TheVariants.{Short, Backwards, PastEnd, TooLong, NoMemory}
use Rattle.hg_delta.specs.Delta.{Hunk, number_bytes, header, hunk_bytes, last_of, end_of, IsPlaced, text_of}
use Rattle.hg_delta.specs.Delta.{Begins, Applies}
use Rattle.hg_delta.specs.Faults.{HasHeader, GoesBack, GoesPast, IsHunkFault, BreaksAt, IsOutcome, gives}
use Rattle.hg_delta.specs.Faults.{breaks, exceeds}
use Rattle.hg_delta.proofs.Numbers.{length-number, length-header, number_once}
use Rattle.hg_delta.proofs.Hunks.{ends, behind}

-- equal lists have equal fronts of one length
fronts : (a b x y : List ℕ) → length a ≡ length b → a ++ x ≡ b ++ y → (a ≡ b) × (x ≡ y)
fronts a b x y len same = (
  sym (take_at a x (length b) len) ∙ (ap (take (length b)) same ∙ take_at b y (length b) refl),
  sym (drop_at a x (length b) len) ∙ (ap (drop (length b)) same ∙ drop_at b y (length b) refl),
)

pub regrouped : (start end size : ℕ) (more : List ℕ) → header start end size ++ more ≡ number_bytes start
    ++ (number_bytes end ++ (number_bytes size ++ more))
regrouped start end size more =
    append_assoc (number_bytes start) (number_bytes end ++ number_bytes size) more
    ∙ ap (λ (x : List ℕ). number_bytes start ++ x)
    (append_assoc (number_bytes end) (number_bytes size) more)

-- one number, and what follows it
number_first : (m n : ℕ) (x y : List ℕ) → m < 2 ^ 32 → n < 2 ^ 32 → number_bytes m ++ x ≡ number_bytes n ++ y
    → (m ≡ n) × (x ≡ y)
number_first m n x y fits_m fits_n same =
    let both = fronts (number_bytes m) (number_bytes n) x y (length-number m ∙ sym (length-number n)) same in
    (number_once m n fits_m fits_n both.0, both.1)

-- two headers of the same bytes
record SameHeader (start start' end end' size size' : ℕ) (more more' : List ℕ) : Type 0 where
  pub starts : start ≡ start'
  pub ends : end ≡ end'
  pub sizes : size ≡ size'
  pub mores : more ≡ more'

header_once : (rest : List ℕ) (start end size start' end' size' : ℕ) (more more' : List ℕ)
    → HasHeader rest start end size more → HasHeader rest start' end' size' more'
    → SameHeader start start' end end' size size' more more'
header_once rest start end size start' end' size' more more' a b =
    let same = sym (regrouped start end size more)
    ∙ (sym a.spelled ∙ (b.spelled ∙ regrouped start' end' size' more')) in
    let one = number_first start start' (number_bytes end ++ (number_bytes size ++ more)) (number_bytes end'
    ++ (number_bytes size' ++ more')) a.start_fits b.start_fits same in
    let two = number_first end end' (number_bytes size ++ more) (number_bytes size'
    ++ more') a.end_fits b.end_fits one.1 in
    let three = number_first size size' more more' a.size_fits b.size_fits two.1 in
    record { starts = one.0; ends = two.0; sizes = three.0; mores = three.1 }

-- a hunk that is placed begins with its header
hunk_header : (size before : ℕ) (hunk : Hunk) (rest after : List ℕ) → IsPlaced size before hunk
    → rest ≡ hunk_bytes hunk ++ after
    → HasHeader rest hunk.start hunk.end (length hunk.content) (hunk.content ++ after)
hunk_header size before hunk rest after placed spelled = record {
  start_fits = omega (arith, placed.forward, placed.end_fits);
  end_fits = placed.end_fits;
  size_fits = placed.content_fits;
  spelled = spelled ∙ append_assoc (header hunk.start hunk.end (length hunk.content)) hunk.content after;
}

length-headed : (rest : List ℕ) (start end size : ℕ) (more : List ℕ) → HasHeader rest start end size more
    → length rest ≡ 12 + length more
length-headed rest start end size more h =
    omega (
      arith,
      ap length h.spelled,
      length-append (header start end size) more,
      length-header start end size,
    )

-- where a hunk is placed, nothing is wrong
no_fault : (fault : DeltaFault) (size before : ℕ) (hunk : Hunk) (rest after : List ℕ)
    → IsPlaced size before hunk → rest ≡ hunk_bytes hunk ++ after → IsHunkFault fault size before rest → ⊥
no_fault Short size before hunk rest after placed spelled (inl lacks) =
    let h = hunk_header size before hunk rest after placed spelled in
    let long = length-headed rest hunk.start hunk.end (length hunk.content) (hunk.content ++ after) h in
    let few = lacks.1 in
    omega (arith, long, few)
no_fault Short size before hunk rest after placed spelled (inr lacks) =
    let h = hunk_header size before hunk rest after placed spelled in
    let same = header_once rest lacks.start lacks.end lacks.wanted hunk.start hunk.end
    (length hunk.content) lacks.more (hunk.content ++ after) lacks.reads h in
    omega (arith, same.sizes, ap length same.mores, lacks.less, length-append hunk.content after)
no_fault Backwards size before hunk rest after placed spelled back =
    let h = hunk_header size before hunk rest after placed spelled in
    let same = header_once rest back.start back.end back.wanted hunk.start hunk.end
    (length hunk.content) back.more (hunk.content ++ after) back.reads h in
    elim back.back as (λ _. ⊥) [
      | inl below ↦ omega (arith, below, same.starts, placed.ascends)
      | inr below ↦ omega (arith, below, same.starts, same.ends, placed.forward)
    ]
no_fault PastEnd size before hunk rest after placed spelled past =
    let h = hunk_header size before hunk rest after placed spelled in
    let same = header_once rest past.start past.end past.wanted hunk.start hunk.end
    (length hunk.content) past.more (hunk.content ++ after) past.reads h in
    omega (arith, past.past, same.ends, placed.within)
no_fault TooLong size before hunk rest after placed spelled fault = fault
no_fault NoMemory size before hunk rest after placed spelled fault = fault

-- a fault is one of some bytes
some_bytes : (fault : DeltaFault) (size before : ℕ) (rest : List ℕ) → IsHunkFault fault size before rest
    → 0 < length rest
some_bytes Short size before rest (inl lacks) = lacks.0
some_bytes Short size before rest (inr lacks) =
    omega (arith, length-headed rest lacks.start lacks.end lacks.wanted lacks.more lacks.reads)
some_bytes Backwards size before rest back =
    omega (arith, length-headed rest back.start back.end back.wanted back.more back.reads)
some_bytes PastEnd size before rest past =
    omega (arith, length-headed rest past.start past.end past.wanted past.more past.reads)
some_bytes TooLong size before rest fault = absurd fault
some_bytes NoMemory size before rest fault = absurd fault

-- no whole hunk that is placed stands there
abbrev Stops : ℕ → ℕ → List ℕ → Type 0
Stops size before rest = (rest ≡ []) ⊎ ((fault : DeltaFault) × IsHunkFault fault size before rest)

no_hunk : (size before : ℕ) (hunk : Hunk) (rest after : List ℕ) → IsPlaced size before hunk
    → rest ≡ hunk_bytes hunk ++ after → Stops size before rest → ⊥
no_hunk size before hunk rest after placed spelled (inl ended) =
    let h = hunk_header size before hunk rest after placed spelled in
    omega (
      arith,
      ap length ended,
      length-headed rest hunk.start hunk.end (length hunk.content) (hunk.content
          ++ after) h,
    )
no_hunk size before hunk rest after placed spelled (inr fault) =
    no_fault fault.0 size before hunk rest after placed spelled fault.1

abbrev hunk_of : ℕ → ℕ → List ℕ → Hunk
hunk_of start end content = record { start = start; end = end; content = content }

hunk_once : (size before : ℕ) (a b : Hunk) (x y : List ℕ) → IsPlaced size before a → IsPlaced size before b
    → hunk_bytes a ++ x ≡ hunk_bytes b ++ y → (a ≡ b) × (x ≡ y)
hunk_once size before a b x y placed_a placed_b same =
    let h = hunk_header size before a (hunk_bytes a ++ x) x placed_a refl in
    let k = hunk_header size before b (hunk_bytes a ++ x) y placed_b same in
    let one = header_once (hunk_bytes a ++ x) a.start a.end (length a.content) b.start b.end
    (length b.content) (a.content ++ x) (b.content ++ y) h k in
    let both = fronts a.content b.content x y one.sizes one.mores in
    let starts = one.starts in
    let ends = one.ends in
    let contents = both.0 in
    let whole : hunk_of a.start a.end a.content ≡ hunk_of b.start b.end b.content = cc in
    (whole, both.1)

abbrev placed_behind : ℕ → ℕ → List Hunk → Type 0
placed_behind size from hunks =
    AllByRecursion (λ (place : ℕ × Hunk). IsPlaced size place.0 place.1) (behind from hunks)

one_front : (size from : ℕ) (hs ks : List Hunk) (x y : List ℕ) → placed_behind size from hs
    → placed_behind size from ks → flat_map hunk_bytes hs ++ x ≡ flat_map hunk_bytes ks ++ y
    → Stops size (last_of from (ends hs)) x → Stops size (last_of from (ends ks)) y → (hs ≡ ks) × (x ≡ y)
one_front size from [] [] x y placed_h placed_k same stop_x stop_y = (refl, same)
one_front size from [] (k ∷ ks) x y placed_h placed_k same stop_x stop_y =
    absurd (no_hunk size from k x (flat_map hunk_bytes ks ++ y) placed_k.0 (same
    ∙ append_assoc (hunk_bytes k) (flat_map hunk_bytes ks) y) stop_x)
one_front size from (h ∷ hs) [] x y placed_h placed_k same stop_x stop_y =
    absurd (no_hunk size from h y (flat_map hunk_bytes hs ++ x) placed_h.0 (sym same
    ∙ append_assoc (hunk_bytes h) (flat_map hunk_bytes hs) x) stop_y)
one_front size from (h ∷ hs) (k ∷ ks) x y placed_h placed_k same stop_x stop_y =
    let both = hunk_once size from h k (flat_map hunk_bytes hs ++ x) (flat_map hunk_bytes ks
    ++ y) placed_h.0 placed_k.0
    (sym (append_assoc (hunk_bytes h) (flat_map hunk_bytes hs) x)
    ∙ (same ∙ append_assoc (hunk_bytes k) (flat_map hunk_bytes ks) y)) in
    let ends_at : h.end ≡ k.end = ap (λ (hunk : Hunk). hunk.end) both.0 in
    let others = one_front size h.end hs ks x y placed_h.1
    (subst (λ (n : ℕ). placed_behind size n ks) (sym ends_at) placed_k.1) both.1 stop_x
    (subst (λ (n : ℕ). Stops size (last_of n (ends ks)) y) (sym ends_at) stop_y) in
    let first = both.0 in
    let last = others.0 in
    (cc, others.1)

-- two readings of one delta
once : (base delta : List ℕ) (hs ks : List Hunk) (x y : List ℕ) → Begins (length base) delta hs x
    → Begins (length base) delta ks y
    → Stops (length base) (end_of hs) x → Stops (length base) (end_of ks) y → (hs ≡ ks) × (x ≡ y)
once base delta hs ks x y a b stop_x stop_y =
    one_front (length base) 0 hs ks x y a.placed b.placed (sym a.spelled ∙ b.spelled) stop_x stop_y

-- a delta makes one text of a base
pub applies_once : (base delta a b : List ℕ) → Applies base delta a → Applies base delta b → a ≡ b
applies_once base delta a b p q =
    let same = once base delta p.hunks q.hunks [] [] p.whole q.whole (inl refl) (inl refl) in
    p.joined ∙ (ap (text_of base) same.0 ∙ sym q.joined)

-- and then it has no fault
pub applies_whole : (base delta text : List ℕ) (fault : DeltaFault) → Applies base delta text
    → BreaksAt fault base delta → ⊥
applies_whole base delta text fault p q =
    let same = once base delta p.hunks q.hunks [] q.rest p.whole q.front (inl refl) (inr (fault, q.broken)) in
    omega (arith, some_bytes fault (length base) (end_of q.hunks) q.rest q.broken, ap length same.1)

-- a place has one fault
short_or_back : (size before : ℕ) (rest : List ℕ) → IsHunkFault Short size before rest
    → GoesBack size before rest → ⊥
short_or_back size before rest (inl a) b =
    let few = a.1 in omega (arith, few, length-headed rest b.start b.end b.wanted b.more b.reads)
short_or_back size before rest (inr a) b =
    let same = header_once rest a.start a.end a.wanted b.start b.end b.wanted a.more b.more a.reads b.reads in
    elim b.back as (λ _. ⊥) [
      | inl below ↦ omega (arith, below, same.starts, a.ascends)
      | inr below ↦ omega (arith, below, same.starts, same.ends, a.forward)
    ]

short_or_past : (size before : ℕ) (rest : List ℕ) → IsHunkFault Short size before rest
    → GoesPast size before rest → ⊥
short_or_past size before rest (inl a) b =
    let few = a.1 in omega (arith, few, length-headed rest b.start b.end b.wanted b.more b.reads)
short_or_past size before rest (inr a) b =
    let same = header_once rest a.start a.end a.wanted b.start b.end b.wanted a.more b.more a.reads b.reads in
    omega (arith, b.past, same.ends, a.within)

back_or_past : (size before : ℕ) (rest : List ℕ) → GoesBack size before rest → GoesPast size before rest → ⊥
back_or_past size before rest a b =
    let same = header_once rest a.start a.end a.wanted b.start b.end b.wanted a.more b.more a.reads b.reads in
    elim a.back as (λ _. ⊥) [
      | inl below ↦ omega (arith, below, same.starts, b.ascends)
      | inr below ↦ omega (arith, below, same.starts, same.ends, b.forward)
    ]

fault_once : (f g : DeltaFault) (size before : ℕ) (rest : List ℕ) → IsHunkFault f size before rest
    → IsHunkFault g size before rest → f ≡ g
fault_once Short Short size before rest a b = refl
fault_once Short Backwards size before rest a b = absurd (short_or_back size before rest a b)
fault_once Short PastEnd size before rest a b = absurd (short_or_past size before rest a b)
fault_once Short TooLong size before rest a b = absurd b
fault_once Short NoMemory size before rest a b = absurd b
fault_once Backwards Short size before rest a b = absurd (short_or_back size before rest b a)
fault_once Backwards Backwards size before rest a b = refl
fault_once Backwards PastEnd size before rest a b = absurd (back_or_past size before rest a b)
fault_once Backwards TooLong size before rest a b = absurd b
fault_once Backwards NoMemory size before rest a b = absurd b
fault_once PastEnd Short size before rest a b = absurd (short_or_past size before rest b a)
fault_once PastEnd Backwards size before rest a b = absurd (back_or_past size before rest b a)
fault_once PastEnd PastEnd size before rest a b = refl
fault_once PastEnd TooLong size before rest a b = absurd b
fault_once PastEnd NoMemory size before rest a b = absurd b
fault_once TooLong g size before rest a b = absurd a
fault_once NoMemory g size before rest a b = absurd a

breaks_once : (base delta : List ℕ) (f g : DeltaFault) → BreaksAt f base delta → BreaksAt g base delta → f ≡ g
breaks_once base delta f g p q =
    let same = once base delta p.hunks q.hunks p.rest q.rest p.front q.front (inr (f, p.broken))
    (inr (g, q.broken)) in
    let moved = subst (λ (hunks : List Hunk). IsHunkFault f (length base) (end_of hunks) p.rest) same.0
    p.broken in
    let there : IsHunkFault f (length base) (end_of q.hunks) q.rest = subst
    (λ (rest : List ℕ). IsHunkFault f (length base) (end_of q.hunks) rest) same.1 moved in
    fault_once f g (length base) (end_of q.hunks) q.rest there q.broken

abbrev gave : List ℕ → Result (List ℕ) DeltaFault
gave text = Ok text

abbrev refused : DeltaFault → Result (List ℕ) DeltaFault
refused fault = Err fault

-- A delta has one outcome.
pub outcome_once : (base delta : List ℕ) (most : ℕ) (a b : Result (List ℕ) DeltaFault)
    → IsOutcome base delta most a → IsOutcome base delta most b → a ≡ b
outcome_once base delta most a b (gives text p few) (gives text' q few') =
    ap gave (applies_once base delta text text' p q)
outcome_once base delta most a b (gives text p few) (breaks fault q) =
    absurd (applies_whole base delta text fault p q)
outcome_once base delta most a b (gives text p few) (exceeds q) =
    absurd (omega (arith, few, q.long, ap length (applies_once base delta text q.text p q.applies)))
outcome_once base delta most a b (breaks fault p) (gives text q few) =
    absurd (applies_whole base delta text fault q p)
outcome_once base delta most a b (breaks fault p) (breaks fault' q) =
    ap refused (breaks_once base delta fault fault' p q)
outcome_once base delta most a b (breaks fault p) (exceeds q) =
    absurd (applies_whole base delta q.text fault q.applies p)
outcome_once base delta most a b (exceeds p) (gives text q few) =
    absurd (omega (arith, few, p.long, ap length (applies_once base delta text p.text q p.applies)))
outcome_once base delta most a b (exceeds p) (breaks fault q) =
    absurd (applies_whole base delta p.text fault p.applies q)
outcome_once base delta most a b (exceeds p) (exceeds q) = refl
