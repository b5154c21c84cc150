-- A store that is followed, and what is looked at before it is taken over.
use Rattle.std.proofs.Common.{◌≡◌, inl, inr, ℕ, ◌+◌, ◌-◌, ◌<◌, ◌≤◌, List, [], ◌∷◌, ◌++◌, length, take, get_or}
use Rattle.std.proofs.Common.{drop, refl, sym, ap, ◌∙◌, subst, arith, take-append-drop}
use Rattle.std.proofs.lemmas.Bool.{cases_lt}
use Rattle.std.proofs.lemmas.List.{append-nil, get_or_default, take_at}
use Rattle.hg_store.specs.Again.{HasGates, IsAmong}
use Rattle.hg_store.specs.Calls.{Event, looked}
use Rattle.hg_store.specs.Entries.{Entry}
use Rattle.hg_store.specs.Files.{stored}
use Rattle.hg_store.specs.Records.{AreNumbers, numbers_bytes}
use Rattle.hg_store.specs.Standbys.{AreOpen, HasHeading, LooksOnly}
use Rattle.hg_store.specs.declared.head.Head.{Head}
use Rattle.hg_store.specs.declared.head.Version.TheVariants.{Second}
use Rattle.hg_store.specs.declared.numbers.Numbers.{Numbers}
use Rattle.hg_store.proofs.Again.{place_of}

-- nothing was looked at
pub no_looks : (calls : List Event) → LooksOnly calls calls
no_looks calls = record { made = []; calls = refl; each = tt }

-- it was looked at once more
pub look_more : (before now later : List Event) (at : ℕ) (bytes : List ℕ) → LooksOnly before now
    → later ≡ looked at bytes ∷ now → LooksOnly before later
look_more before now later at bytes looks is = record {
  made = looked at bytes ∷ looks.made;
  calls = is ∙ ap (λ (l : List Event). looked at bytes ∷ l) looks.calls;
  each = ((at, bytes, refl), looks.each);
}

-- the first of the gates at these places, so many of them, were looked at and were open
pub record Looked (places : List ℕ) (before now : List Event) (next : ℕ) : Type 0 where
  pub made : List Event
  pub calls : now ≡ made ++ before
  pub each : (k place : ℕ) → k < next → place ≡ get_or places k place → IsAmong (looked place (255 ∷ [])) made

pub none_looked : (places : List ℕ) (calls : List Event) → Looked places calls calls 0
none_looked places calls = record {
  made = [];
  calls = refl;
  each = λ k place less is. absurd (omega (arith, less));
}

-- one more was
pub one_looked : (places : List ℕ) (before now later : List Event) (next : ℕ) (bytes : List ℕ)
    → Looked places before now next → next < length places → bytes ≡ 255 ∷ []
    → later ≡ looked (get_or places next 0) bytes ∷ now → Looked places before later (next + 1)
one_looked places before now later next bytes so_far less opened is =
    let call : Event = looked (get_or places next 0) bytes in
    record {
      made = call ∷ so_far.made;
      calls = is ∙ ap (λ (l : List Event). call ∷ l) so_far.calls;
      each = λ k place few at. elim (cases_lt k next) [
        | inl earlier ↦ inr (so_far.each k place earlier at)
        | inr past ↦
            let here : k ≡ next = omega (arith, past, few) in
            let value : place ≡ get_or places next 0 = at ∙ ap (λ (n : ℕ). get_or places n place) here
            ∙ sym (get_or_default places next 0 place less) in
            inl (ap (λ (n : ℕ). looked n (255 ∷ [])) value
            ∙ ap (λ (l : List ℕ). looked (get_or places next 0) l) (sym opened))
      ];
    }

-- all of them were
pub all_open : (head : Head) (records : List Entry) (places : List ℕ) (has : HasGates head records places)
    (before now : List Event) (next : ℕ) → Looked places before now next → length places ≤ next
    → AreOpen head records before now
all_open head records places has before now next so_far all = record {
  made = so_far.made;
  calls = so_far.calls;
  each = λ k less near.
      let from : has.skipped ≤ k = elim has.enough [
        | inl none ↦ omega (arith, none)
        | inr many ↦ omega (arith, has.all, many, near)
      ] in
      let j : ℕ = k - has.skipped in
      let few : j < length places = omega (arith, from, less, has.all) in
      let whole : has.skipped + j ≡ k = omega (arith, from) in
      let at : get_or places j 0 ≡ length (stored head (take k records)) = place_of head records places has j few
      ∙ ap (λ (n : ℕ). length (stored head (take n records))) whole in
      subst (λ (n : ℕ). IsAmong (looked n (255 ∷ [])) so_far.made) at
      (so_far.each j (get_or places j 0) (omega (arith, few, all))
      (get_or_default places j 0 (get_or places j 0) few));
}

-- the place of the last
pub last_place : (head : Head) (records : List Entry) (places : List ℕ) → HasGates head records places
    → (at place : ℕ) → at + 1 ≡ length places → place ≡ get_or places at place → (k : ℕ) → k + 1 ≡ length records
    → place ≡ length (stored head (take k records))
last_place head records places has at place last is k all =
    let whole : has.skipped + at ≡ k = omega (arith, last, all, has.all) in
    has.each at place (omega (arith, last)) is
    ∙ ap (λ (n : ℕ). length (stored head (take n records))) whole

-- what was read up to a place
pub back_at : (whole tail drawn : List ℕ) (end : ℕ) → drawn ≡ whole ++ tail → end ≡ length whole
    → take end drawn ≡ whole ++ []
back_at whole tail drawn end is place = ap (take end) is ∙ take_at whole tail end (sym place) ∙ sym (append-nil whole)

two : (n : ℕ) (xs ys zs : List ℕ) → ys ≡ take n xs → zs ≡ drop n xs → xs ≡ ys ++ zs
two n xs ys zs front back =
    sym (take-append-drop n xs) ∙ ap (λ (l : List ℕ). l ++ drop n xs) (sym front)
    ∙ ap (λ (l : List ℕ). ys ++ l) (sym back)

-- the heading of a record that has a digest
pub heading_is : (digest bytes behind rest name others told after : List ℕ) (gate : ℕ) (numbers : Numbers)
    → bytes ≡ gate ∷ behind → gate ≡ 255 → behind ≡ numbers_bytes Second numbers ++ rest → AreNumbers Second numbers
    → length name ≡ numbers.named → name ≡ take numbers.named rest → others ≡ drop numbers.named rest
    → told ≡ take 20 others → after ≡ drop 20 others → told ≡ digest → HasHeading digest bytes
heading_is digest bytes behind rest name others told after gate numbers begins is_open spelled are named name_is others_is
    told_is after_is same = record {
      numbers = numbers;
      name = name;
      behind = after;
      are = are;
      named = named;
      spelled = begins ∙ ap (λ (g : ℕ). g ∷ behind) is_open
          ∙ ap (λ (l : List ℕ). 255 ∷ l) (spelled
          ∙ ap (λ (l : List ℕ). numbers_bytes Second numbers ++ l) (two numbers.named rest name others name_is others_is
          ∙ ap (λ (l : List ℕ). name ++ l) (two 20 others told after told_is after_is
          ∙ ap (λ (l : List ℕ). l ++ after) same)));
    }
