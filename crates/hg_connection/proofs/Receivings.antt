-- One more read of a bundle.
use Rattle.std.proofs.Common.{ℕ, ◌≡◌, ◌≢◌, ◌≤◌, ◌-◌, inl, inr, List, [], ◌∷◌, ◌++◌, refl, sym, ◌∙◌}
use Rattle.std.proofs.Common.{ap, subst, arith, length, take, Some, None}
use Rattle.std.proofs.lemmas.List.{append-nil, length-append}
use Rattle.hg_types.specs.declared.part.Part.{Part}
use Rattle.hg_types.specs.declared.limits.Limits.{Limits}
use Rattle.hg_stream.specs.declared.state.State.{State}
use Rattle.hg_stream.specs.declared.state.State.TheVariants.{Reading as going}
use Rattle.hg_stream.specs.declared.unbundler.Unbundler.{Unbundler}
use Rattle.hg_stream.specs.Unbundler.{HoldsBundle, limits_of, ready_of, state_of}
use Rattle.hg_stream.specs.Faults.{StateTells}
use Rattle.hg_stream.specs.Laws.{AreSettledOnce}
use Rattle.hg_stream.specs.Places.{IsReading}
use Rattle.hg_serve.specs.Clients.{SenderView, GoesOn}
use Rattle.hg_connection.specs.Devices.{Input}
use Rattle.hg_connection.specs.declared.bundle_end.BundleEnd.{BundleEnd}
use Rattle.hg_connection.specs.declared.bundle_end.BundleEnd.TheVariants.{Whole, Fault, InputEnded, ReadFailed}
use Rattle.hg_connection.specs.Receiving.{KeepsWaiting, part_items}
use Rattle.hg_connection.specs.Turns.{FeedsFront, Fills, IsReceiving, ended_at}
use Rattle.hg_connection.proofs.ReceivingLemmas.{ends, nothing_waits}
use Rattle.hg_connection.specs.declared.coming.Next.TheVariants.{Comes, InputEnded as comes_no_more}
use Rattle.hg_connection.specs.declared.coming.Next.TheVariants.{ReadFailed as comes_broken}
use Rattle.hg_connection.specs.Steps.{IsFresh, IsNext}
use Rattle.hg_connection.specs.Keeping.{ReceivesKept}

-- the law `streams_are_settled_once`
abbrev pub SettledOnce : Type 0 → Type 0
SettledOnce A = (limits : Limits) → AreSettledOnce A limits

-- a new reader of bundles has finished no part
pub fresh : {A : Type 0} → SettledOnce A → (limits : Limits) (u : Unbundler A) → HoldsBundle u [] []
    → state_of u ≡ going → limits_of u ≡ limits → IsFresh limits u
fresh {A} law limits u holds state is =
    let tells : StateTells going (limits_of u) [] ([] ++ ready_of u) = subst
    (λ (st : State). StateTells st (limits_of u) [] ([] ++ ready_of u)) state holds.tells in
    record {
      empty = holds;
      state = state;
      limits_are = is;
      ready = (law (limits_of u)).one_reading [] (ready_of u) [] tells.0
          (IsReading.at_magic (omega arith) refl);
    }

-- for the first bundle nothing is read
pub first_comes : (waiting : List ℕ) (input : Input) (number : ℕ) → number ≡ 0 → length waiting ≤ 4096
    → IsNext number waiting waiting input input Comes
first_comes waiting input number first few =
    (inl (refl, refl), λ _. (refl, refl), λ later. absurd (omega (arith, first, later)), few)

pub next_comes : (before after : List ℕ) (input left : Input) (number : ℕ) → number ≢ 0
    → Fills before after input left None → length after ≤ 4096 → IsNext number before after input left Comes
next_comes before after input left number later f few = elim f [
  | inl waits ↦ (
    inl (waits.1, waits.2),
    λ first. absurd (later first),
    λ _ none. waits.0 (sym waits.1 ∙ none),
    few,
  )
  | inr read ↦ (
    inr (read.0, read.1.0, read.1.1),
    λ first. absurd (later first),
    λ _ none. (let z : length after ≡ 0 = ap (λ (l : List ℕ). length l) none in
        let some = read.1.1.0 in
        absurd (omega (arith, z, some))),
    few,
  )
]

pub next_ends : (before after : List ℕ) (input left : Input) (number : ℕ) → number ≢ 0
    → Fills before after input left (Some InputEnded) → IsNext number before after input left comes_no_more
next_ends before after input left number later f =
    let n = nothing_waits before after input left InputEnded f in (omega (arith, later), n.0, n.1.1, n.1.2)

pub next_fails : (before after : List ℕ) (input left : Input) (number : ℕ) (ending : BundleEnd) → number ≢ 0
    → Fills before after input left (Some ending) → ending ≢ InputEnded
    → IsNext number before after input left comes_broken
next_fails before after input left number Whole later f other = absurd (nothing_waits before after input left Whole f).1
next_fails before after input left number (Fault fault) later f other =
    absurd (nothing_waits before after input left (Fault fault) f).1
next_fails before after input left number InputEnded later f other = absurd (other refl)
next_fails before after input left number ReadFailed later f other =
    let n = nothing_waits before after input left ReadFailed f in (omega (arith, later), n.0, n.1.1)

-- nothing was put yet
pub starts : {A : Type 0} (s : SenderView A) → s.putter.put ≡ []
    → GoesOn s s (part_items {A = A} s.putter.push 0 [])
starts s none = record { push = refl; put_is = none; fulls = omega arith; history = refl }

-- no part is ready that was not put
pub unready : {A : Type 0} (old s : SenderView A) (u : Unbundler A) (given : List (Part A)) → ready_of u ≡ []
    → GoesOn old s (part_items old.putter.push 0 given)
    → GoesOn old s (part_items old.putter.push 0 (given ++ ready_of u))
unready {A} old s u given none g =
    let all : given ++ ready_of u ≡ given = ap (λ (l : List (Part A)). given ++ l) none ∙ append-nil given in
    subst (λ (l : List (Part A)). GoesOn old s (part_items old.putter.push 0 l)) (sym all) g

take_front : (front back : List ℕ) → take (length front) (front ++ back) ≡ front
take_front [] back = refl
take_front (x ∷ front) back = ap (λ (l : List ℕ). x ∷ l) (take_front front back)

-- without what is after them, the first are left
cut_back : (all front back : List ℕ) → all ≡ front ++ back → take (length all - length back) all ≡ front
cut_back all front back is =
    let long = length-append front back in
    let n : length (front ++ back) - length back ≡ length front = omega (arith, long) in
    ap (λ (l : List ℕ). take (length l - length back) l) is
    ∙ ap (λ (k : ℕ). take k (front ++ back)) n ∙ take_front front back

-- A bundle was received whose bytes were kept: those of a whole one are all but those that wait.
pub kept_ends : {A : Type 0} (limits : Limits) (waited : List ℕ) (input : Input)
    (fed before after kept : List ℕ) (left : Input) (old new : SenderView A) (u v : Unbundler A)
    (given : List (Part A)) (ending : BundleEnd) → IsReceiving limits waited input fed before left u given
    → 1 ≤ length before → FeedsFront u v before after → Some ending ≡ ended_at (state_of v)
    → GoesOn old new (part_items old.putter.push 0 (given ++ ready_of v))
    → kept ≡ take (length (fed ++ before) - length after) (fed ++ before)
    → ReceivesKept limits waited after input left old new ending kept
kept_ends {A} limits waited input fed before after kept left old new u v given ending r some f is put cut =
    let q = ends limits waited input fed before after left u v given ending r some f is in
    record {
      is = record { parts = given ++ ready_of v; bundle = q.0; put = put };
      kept_is = λ whole.
          let rest : after ≡ q.0.rest = subst (λ (e : BundleEnd). KeepsWaiting e q.0.rest after) whole q.0.keeps in
          cut ∙ cut_back (fed ++ before) q.0.consumed after
          (q.1 ∙ ap (λ (l : List ℕ). q.0.consumed ++ l) (sym rest));
    }
