-- A stream has one verdict at most.
use Rattle.std.proofs.Common.{◌≡◌, ℕ, ◌<◌, ◌≤◌, ◌+◌, List, [], ◌∷◌, ◌++◌, length, sym, ap, ◌∙◌, append_assoc}
use Rattle.std.proofs.Common.{arith, inl, inr, subst, ◌⊎◌, Option, Some, None}
use Rattle.std.proofs.lemmas.Bool.{cases_lt}
use Rattle.std.proofs.lemmas.List.{append-nil, length-append}
use Rattle.hg_types.specs.declared.limits.Limits.{Limits}
use Rattle.hg_types.specs.declared.part.Part.{Part}
use Rattle.hg_chunks.proofs.CallerLemmas.{fronts}
use Rattle.hg_stream.specs.declared.fault.StreamFault.{StreamFault}
use Rattle.hg_stream.specs.declared.fault.StreamFault.TheVariants.{TooLarge}
use Rattle.hg_stream.specs.Frames.{IsWhole}
use Rattle.hg_stream.specs.Places.{IsReading}
use Rattle.hg_stream.specs.Faults.{by_grammar, by_length}
use Rattle.hg_stream.specs.Laws.{IsSettled, IsVerdict, HasOneVerdict}
use Rattle.hg_stream.proofs.Prefixes.{longer, front_of_reading}
use Rattle.hg_stream.proofs.Settling.{settled_once}

-- ---- the two kinds of verdicts

-- by the grammar, within the limit, past which no bundle ends
record IsGrammars {A : Type 0} (v : Option StreamFault) (limits : Limits) (bytes : List ℕ)
    (parts : List (Part A)) : Type 0 where
  pub settled : IsSettled v limits bytes parts
  pub within : length bytes ≤ limits.stream + 1
  pub bundle : v ≡ None → length bytes ≤ limits.stream

-- by the limit alone: one byte past it the grammar reads on, or ends
record IsPast {A : Type 0} (v : Option StreamFault) (limits : Limits) (bytes : List ℕ)
    (parts : List (Part A)) : Type 0 where
  pub front : List ℕ
  pub last : ℕ
  pub read : List (Part A)
  pub before : IsReading limits front parts
  pub there : IsReading limits bytes read ⊎ IsWhole limits bytes read
  pub spelled : bytes ≡ front ++ last ∷ []
  pub full : length bytes ≡ limits.stream + 1
  pub told : v ≡ Some TooLarge

kinds : {A : Type 0} (v : Option StreamFault) (limits : Limits) (bytes : List ℕ) (parts : List (Part A))
    → IsVerdict v limits bytes parts → IsGrammars v limits bytes parts ⊎ IsPast v limits bytes parts
kinds None limits bytes parts (whole, within) =
    inl (record { settled = whole; within = omega (arith, within); bundle = λ none. within })
kinds (Some fault) limits bytes parts (by_grammar decides within) =
    inl (record { settled = decides; within = within; bundle = λ none. absurd (cc) })
kinds (Some fault) limits bytes parts (by_length front last read before there spelled full is) =
    inr (record {
      front = front;
      last = last;
      read = read;
      before = before;
      there = there;
      spelled = spelled;
      full = full;
      told = ap Some is;
    })

-- the front of what is past the limit has as many bytes as the limit
full_front : {A : Type 0} (v : Option StreamFault) (limits : Limits) (bytes : List ℕ) (parts : List (Part A))
    → (past : IsPast v limits bytes parts) → length past.front ≡ limits.stream
full_front v limits bytes parts past =
    let len : length bytes ≡ length (past.front ++ past.last ∷ []) = ap length past.spelled in
    omega (arith, len, past.full, length-append past.front (past.last ∷ []))

-- ---- two at one front

both_past : {A : Type 0} (v w : Option StreamFault) (limits : Limits) (a b x y : List ℕ)
    (ps qs : List (Part A)) → IsPast v limits a ps → IsPast w limits b qs → a ++ x ≡ b ++ y → (a ≡ b)
    × (ps ≡ qs) × (v ≡ w)
both_past {A} v w limits a b x y ps qs pa pb same =
    let bytes : a ≡ b = (fronts a b x y (pa.full ∙ sym pb.full) same).0 in
    let front : pa.front ≡ pb.front =
    (fronts pa.front pb.front (pa.last ∷ []) (pb.last ∷ []) (full_front v limits a ps pa
    ∙ sym (full_front w limits b qs pb)) (sym pa.spelled ∙ bytes ∙ pb.spelled)).0 in
    let read : IsReading limits pb.front ps = subst (λ f. IsReading limits f ps) front pa.before in
    (bytes, (settled_once A limits).one_reading pb.front ps qs read pb.before, pa.told ∙ sym pb.told)

-- where the grammar decides, the limit alone does not
grammar_or_past : {A : Type 0} (v w : Option StreamFault) (limits : Limits) (a b x y : List ℕ)
    (ps qs : List (Part A)) → IsGrammars v limits a ps → IsPast w limits b qs → a ++ x ≡ b ++ y → ⊥
grammar_or_past {A} v w limits a b x y ps qs ga pb same = by_size (cases_lt limits.stream (length a))
  where
    by_kind : a ≡ b → limits.stream < length a → IsReading limits b pb.read ⊎ IsWhole limits b pb.read → ⊥
    by_kind bytes past (inl reading) =
        (settled_once A limits).not_read_after a [] ps pb.read v ga.settled
        (subst (λ t. IsReading limits t pb.read) (sym bytes ∙ sym (append-nil a)) reading)
    by_kind bytes past (inr whole) =
        let one = (settled_once A limits).one_place a b x y ps pb.read v None ga.settled whole same in
        omega (arith, past, ga.bundle one.2)

    by_size : (limits.stream < length a) ⊎ (length a ≤ limits.stream) → ⊥
    by_size (inl past) = by_kind (fronts a b x y (omega (arith, past, ga.within, pb.full)) same).0 past
        pb.there
    by_size (inr within) =
        let cut = longer a x pb.front (pb.last ∷ y) (same ∙ ap (λ (t : List ℕ). t ++ y) pb.spelled
        ∙ append_assoc pb.front (pb.last ∷ []) y)
        (omega (arith, within, full_front w limits b qs pb)) in
        (settled_once A limits).not_read_after a cut.0 ps qs v ga.settled
        (subst (λ t. IsReading limits t qs) cut.1 pb.before)

verdict_where : {A : Type 0} (v w : Option StreamFault) (limits : Limits) (a b x y : List ℕ)
    (ps qs : List (Part A)) → IsGrammars v limits a ps ⊎ IsPast v limits a ps
    → IsGrammars w limits b qs ⊎ IsPast w limits b qs → a ++ x ≡ b ++ y → (a ≡ b) × (ps ≡ qs) × (v ≡ w)
verdict_where {A} v w limits a b x y ps qs (inl ga) (inl gb) same =
    (settled_once A limits).one_place a b x y ps qs v w ga.settled gb.settled same
verdict_where v w limits a b x y ps qs (inl ga) (inr pb) same =
    absurd (grammar_or_past v w limits a b x y ps qs ga pb same)
verdict_where v w limits a b x y ps qs (inr pa) (inl gb) same =
    absurd (grammar_or_past w v limits b a y x qs ps gb pa (sym same))
verdict_where v w limits a b x y ps qs (inr pa) (inr pb) same = both_past v w limits a b x y ps qs pa pb same

-- ---- before a verdict, and after it

before_verdict : {A : Type 0} (v : Option StreamFault) (limits : Limits) (front behind : List ℕ) (byte : ℕ)
    (parts : List (Part A))
    → IsGrammars v limits (front ++ byte ∷ behind) parts ⊎ IsPast v limits (front ++ byte ∷ behind) parts
    → (length front ≤ limits.stream) × (before : List (Part A)) × IsReading limits front before
before_verdict {A} v limits front behind byte parts (inl is) =
    let read = (settled_once A limits).read_before front behind byte parts v is.settled in
    (omega (arith, is.within, length-append front (byte ∷ behind)), read.0, read.1)
before_verdict {A} v limits front behind byte parts (inr past) =
    let within : length front ≤ limits.stream = omega
    (arith, past.full, length-append front (byte ∷ behind)) in
    let cut = longer front (byte ∷ behind) past.front (past.last ∷ []) past.spelled
    (omega (arith, within, full_front v limits (front ++ byte ∷ behind) parts past)) in
    let read = front_of_reading limits front cut.0 parts
    (subst (λ t. IsReading limits t parts) cut.1 past.before) in
    (within, read.0, read.1)

behind_verdict : {A : Type 0} (v : Option StreamFault) (limits : Limits) (a x : List ℕ)
    (ps qs : List (Part A)) → IsGrammars v limits a ps ⊎ IsPast v limits a ps → IsReading limits (a ++ x) qs
    → length (a ++ x) ≤ limits.stream → ⊥
behind_verdict {A} v limits a x ps qs (inl is) reading within =
    (settled_once A limits).not_read_after a x ps qs v is.settled reading
behind_verdict v limits a x ps qs (inr past) reading within =
    omega (arith, past.full, within, length-append a x)

pub one_verdict : (A : Type 0) (limits : Limits) → HasOneVerdict A limits
one_verdict A limits = record {
  read_before = λ front behind byte parts v is. before_verdict v limits front behind byte parts
      (kinds v limits (front ++ byte ∷ behind) parts is);
  one_place = λ a b x y ps qs v w va wb same. verdict_where v w limits a b x y ps qs (kinds v limits a ps va)
      (kinds w limits b qs wb) same;
  not_read_after = λ a x ps qs v va reading within. behind_verdict v limits a x ps qs
      (kinds v limits a ps va) reading within;
}
