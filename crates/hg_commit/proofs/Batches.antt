-- What comes into a batch, and how many bytes are left to it.
use Rattle.std.proofs.Common.{ℕ, ◌≡◌, ◌<◌, ◌≤◌, ◌+◌, ◌-◌, ◌∙◌, List, [], ◌∷◌, ◌++◌, Bool, true, false, ap, sym, subst, inl, inr}
use Rattle.std.proofs.Common.{◌==◌, arith, eq-eqb, eqb-true, get_or, length, length-append, refl, true≢false}
use Rattle.std.proofs.Math.Nat.{lt_of_not-le}
use Rattle.std.specs.Prelude.{Option, None, Some, is_some, unwrap_or, IsTrue, ◌↔◌, option_to_list, IfNone, IfSome, MatchOption}
use Rattle.std.specs.Option.{SomeIff}
use Rattle.std.proofs.Math.Seq.{get_or-append_seam}
use Rattle.std.proofs.lemmas.List.Sums.{sum_by_push}
use Rattle.hg_store.specs.Entries.{Entry}
use Rattle.hg_commit.specs.declared.waiting.Record.{Record}
use Rattle.hg_commit.proofs.Handing.{no_items}
use Rattle.hg_commit.specs.Handing.{Fits, IfLast, IsWithin, batch_bytes, record_bytes}

-- a record more has its bytes more
one_longer : (batch : List Entry) (entry : Entry)
    → batch_bytes (batch ++ entry ∷ []) ≡ batch_bytes batch + record_bytes entry
one_longer batch entry = sum_by_push record_bytes batch entry

-- what may come in keeps the batch within its bounds
pub within_on : (records bytes : ℕ) (batch before now : List Entry) (entry : Entry) → length before < records
    → Fits bytes before entry → now ≡ before ++ entry ∷ [] → IsWithin records bytes batch now
within_on records bytes batch before now entry few may is =
    let long : length now ≡ length before + 1 = ap length is ∙ length-append before (entry ∷ []) in
    let many : batch_bytes now ≡ batch_bytes before + record_bytes entry = ap batch_bytes is ∙ one_longer before entry in
    inr (
      omega (arith, long, few),
      elim may [
        | inl none ↦ inl (let no : length before ≡ 0 = ap length none in omega (arith, long, no))
        | inr low ↦ inr (omega (arith, many, low))
      ],
    )

-- what is left beside one record more
pub left_on : (bytes left now : ℕ) (batch : List Entry) (entry : Entry) (rest : Option ℕ)
    → left ≡ bytes - batch_bytes batch → SomeIff rest (record_bytes entry ≤ left) (left - record_bytes entry)
    → now ≡ unwrap_or rest 0 → now ≡ bytes - batch_bytes (batch ++ entry ∷ [])
left_on bytes left now batch entry None is lacks has =
    let more : left < record_bytes entry = lt_of_not-le lacks in
    omega (arith, one_longer batch entry, is, more, has)
left_on bytes left now batch entry (Some rest) is some has =
    omega (arith, one_longer batch entry, is, some.0, some.1, has)

-- whether there is enough is whether it fits a batch that has some
pub is_enough : (bytes left : ℕ) (batch : List Entry) (entry : Entry) (rest : Option ℕ) (told : Bool)
    → left ≡ bytes - batch_bytes batch → SomeIff rest (record_bytes entry ≤ left) (left - record_bytes entry)
    → (batch ≡ [] → ⊥) → told ≡ is_some rest → IsTrue told ↔ Fits bytes batch entry
is_enough bytes left batch entry None told is lacks some has = (
  λ t. absurd (true≢false (sym t ∙ has)),
  λ may. elim may [
    | inl none ↦ absurd (some none)
    | inr low ↦ absurd (lacks (omega (arith, is, low)))
  ],
)
is_enough bytes left batch entry (Some rest) told is enough some has = (
  λ t. inr (omega (arith, is, enough.0)),
  λ may. has,
)

-- the last one is what is read at the end
pub read_last : {X : Type 0} (xs others : List X) (r last : X) → r ≡ get_or xs (length xs - 1) r
    → xs ≡ others ++ last ∷ [] → r ≡ last
read_last xs others r last found is =
    let long : length xs ≡ length others + 1 = ap length is ∙ length-append others (last ∷ []) in
    let at : length xs - 1 ≡ length others = omega (arith, long) in
    found ∙ (ap (λ n. get_or xs n r) at ∙ (ap (λ l. get_or l (length others) r) is
    ∙ get_or-append_seam others last [] r))

-- what holds of the last one holds of what went from the end
pub went_so : {X : Type 0} (P : X → Type 0) (before left : List X) (r : Option X) → before ≡ left ++ option_to_list r
    → IfLast P before → IfSome r P
went_so P before left None is so = tt
went_so P before left (Some x) is so = so left x is

-- where nothing went there was nothing
pub none_went : {X : Type 0} (P : X → Type 0) (before : List X) (r : Option X) (n m : ℕ)
    → MatchOption r ((n ≡ 0) × (m ≡ 0)) (λ _. m + 1 ≡ n) → n ≡ length before → IfNone r (IfLast P before)
none_went P before None n m none long = λ others last is.
    let more : length before ≡ length others + 1 = ap length is ∙ length-append others (last ∷ []) in
    absurd (omega (arith, none.0, long, more))
none_went P before (Some x) n m some long = tt

pub some_weaker : {X : Type 0} (P Q : X → Type 0) (r : Option X) → ((x : X) → P x → Q x) → IfSome r P → IfSome r Q
some_weaker P Q None weaker so = tt
some_weaker P Q (Some x) weaker so = weaker x so

-- of the place that it has
pub at_place : {A : Type 0} (P : ℕ → Entry → Type 0) (place : ℕ) (r : Option (Record A))
    → IfSome r (λ x. P x.place x.entry) → IfSome r (λ x. x.place ≡ place) → IfSome r (λ x. P place x.entry)
at_place P place None so is = tt
at_place P place (Some x) so is = subst (λ k. P k x.entry) is so

-- what is told of what is read at the end holds of the last one
pub told_of_last : {X : Type 0} (P : X → Type 0) (xs : List X) (r : X) → r ≡ get_or xs (length xs - 1) r → P r
    → IfLast P xs
told_of_last P xs r found so = λ others last is. subst P (read_last xs others r last found is) so

-- there is no last one of none
pub no_last : {X : Type 0} (P : X → Type 0) (xs : List X) → length xs ≡ 0 → IfLast P xs
no_last P xs none = λ others last is.
    let more : length xs ≡ length others + 1 = ap length is ∙ length-append others (last ∷ []) in
    absurd (omega (arith, none, more))

-- whatever comes fits a batch of none
pub empty_fits : (bytes : ℕ) (batch held : List Entry) (entry : Entry) (n : ℕ) → batch ≡ held → n ≡ length held
    → (n == 0) ≡ true → IsTrue true ↔ Fits bytes batch entry
empty_fits bytes batch held entry n same long empty =
    let none : n ≡ 0 = eqb-true n 0 empty in
    (λ t. inl (same ∙ no_items held (omega (arith, none, long))), λ may. refl)

-- a batch of some is not none
pub has_some : (batch held : List Entry) (n : ℕ) → batch ≡ held → n ≡ length held → (n == 0) ≡ false → batch ≡ [] → ⊥
has_some batch held n same long some none =
    let no : length held ≡ 0 = ap length (sym same ∙ none) in
    let zero_long : n ≡ 0 = omega (arith, no, long) in
    true≢false (sym (eq-eqb n 0 zero_long) ∙ some)
