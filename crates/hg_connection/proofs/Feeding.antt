-- Bytes that are fed to the reader of bundles.
use Rattle.std.proofs.Common.{ℕ, ◌≡◌, ◌≢◌, ◌≤◌, inl, inr, List, [], ◌++◌, refl, sym, ◌∙◌}
use Rattle.std.proofs.Common.{ap, subst, arith, length, map, take, drop, take-append-drop}
use Rattle.std.proofs.Common.{append_assoc, Option, Some, None}
use Rattle.std.specs.List.{concat}
use Rattle.std.proofs.lemmas.List.{append-nil, length-append}
use Rattle.std.proofs.Math.Seq.{take-length}
use Rattle.hg_types.specs.declared.part.Part.{Part}
use Rattle.hg_types.specs.declared.limits.Limits.{Limits}
use Rattle.hg_stream.specs.declared.fault.StreamFault.{StreamFault}
use Rattle.hg_stream.specs.declared.fault.StreamFault.TheVariants.{NoMemory, Truncated}
use Rattle.hg_stream.specs.declared.state.State.{State}
use Rattle.hg_stream.specs.declared.state.State.TheVariants.{Reading as going, Ended, Failed as stream_failed}
use Rattle.hg_stream.specs.declared.unbundler.Unbundler.{Unbundler}
use Rattle.hg_stream.specs.Unbundler.{HoldsBundle, ready_of, state_of}
use Rattle.hg_stream.specs.Faults.{StateTells}
use Rattle.hg_connection.specs.Devices.{Input, ReadAnswer, Gave, TellsMore}
use Rattle.hg_connection.specs.declared.bundle_end.BundleEnd.{BundleEnd}
use Rattle.hg_connection.specs.declared.bundle_end.BundleEnd.TheVariants.{Whole, Fault, InputEnded, ReadFailed}
use Rattle.hg_connection.specs.Receiving.{CameLast, IsReceivedFrom, KeepsWaiting, Ran, StopsBundle, StopsIn}
use Rattle.hg_connection.specs.Receiving.{last_read, state_at}
use Rattle.hg_connection.specs.Turns.{FeedsFront, IsReceiving, Turned, ended_at}
use Rattle.hg_connection.proofs.Filling.{told}

reads_on : (s : State) → None ≡ ended_at s → s ≡ going
reads_on going e = refl
reads_on Ended e = absurd cc
reads_on (stream_failed fault) e = absurd cc

ends_whole : (s : State) → Some Whole ≡ ended_at s → s ≡ Ended
ends_whole going e = absurd cc
ends_whole Ended e = refl
ends_whole (stream_failed fault) e = absurd cc

ends_faulty : (s : State) (fault : StreamFault) → Some (Fault fault) ≡ ended_at s → s ≡ stream_failed fault
ends_faulty going fault e = absurd cc
ends_faulty Ended fault e = absurd cc
ends_faulty (stream_failed f) fault e = let same : f ≡ fault = cc in ap (λ x. stream_failed x) same

not_input : (s : State) → Some InputEnded ≡ ended_at s → ⊥
not_input going e = absurd cc
not_input Ended e = absurd cc
not_input (stream_failed fault) e = absurd cc

not_read : (s : State) → Some ReadFailed ≡ ended_at s → ⊥
not_read going e = absurd cc
not_read Ended e = absurd cc
not_read (stream_failed fault) e = absurd cc

-- no bytes are fed where none wait
came_last : {A : Type 0} (limits : Limits) (waited : List ℕ) (input : Input) (fed before : List ℕ)
    (left : Input) (u : Unbundler A) (given : List (Part A))
    (r : IsReceiving limits waited input fed before left u given) → 1 ≤ length before
    → CameLast waited r.pieces fed before
came_last limits waited input fed before left u given r some = elim r.place [
  | inl none ↦ (let z : length before ≡ 0 = ap (λ (l : List ℕ). length l) none in
      absurd (omega (arith, z, some)))
  | inr last ↦ last
]

-- the bundle goes on
pub fed_on : {A : Type 0} (limits : Limits) (waited : List ℕ) (input : Input) (fed before after : List ℕ)
    (left : Input) (u v : Unbundler A) (given : List (Part A))
    → IsReceiving limits waited input fed before left u given → FeedsFront u v before after
    → None ≡ ended_at (state_of v)
    → (after ≡ []) × IsReceiving limits waited input (fed ++ before) after left v given
fed_on {A} limits waited input fed before after left u v given r f is =
    let state = reads_on (state_of v) is in
    let waits = f.reading state in
    let all : take f.place before ≡ before = ap (λ n. take n before) waits.0 ∙ take-length before in (
      waits.1,
      record {
        holds = subst (λ (l : List ℕ). HoldsBundle v given (fed ++ l)) all (f.holds given fed r.holds);
        limits_are = f.limits ∙ r.limits_are;
        state = state;
        pieces = r.pieces;
        each = r.each;
        bytes = r.bytes;
        told = r.told;
        spelled = r.spelled ∙ sym (append-nil (fed ++ before))
            ∙ ap (λ (l : List ℕ). (fed ++ before) ++ l) (sym waits.1);
        place = inl waits.1;
      },
    )

-- there is an end mark or a fault
stops : {A : Type 0} (ending : BundleEnd) (limits : Limits) (waited : List ℕ) (input : Input)
    (fed taken rest after : List ℕ) (left : Input) (u : Unbundler A) (given parts : List (Part A))
    (r : IsReceiving limits waited input fed (taken ++ rest) left u given) → 1 ≤ length (taken ++ rest)
    → length (taken ++ rest) ≤ 4096 → StateTells (state_at ending) limits (fed ++ taken) parts
    → last_read ending ≡ []
    → (StopsIn A limits waited r.pieces (fed ++ taken) rest
    → StopsBundle A ending limits waited r.pieces (fed ++ taken) rest)
    → KeepsWaiting ending rest after → Ran ending left
    → (q : IsReceivedFrom limits waited after input left ending parts)
    × (fed ++ (taken ++ rest) ≡ q.consumed ++ q.rest)
stops {A} ending limits waited input fed taken rest after left u given parts r some few tells last by keeps
    ran =
    let parted : (fed ++ taken) ++ rest ≡ fed ++ (taken ++ rest) = append_assoc fed taken rest in
    let spelled : waited ++ concat r.pieces ≡ (fed ++ taken) ++ rest = r.spelled ∙ sym parted in
    let still = told limits u going fed given r.state r.limits_are r.holds in
    let w = still.1 in
    let long = length-append fed taken in
    let sum = length-append taken rest in
    let reads : map Gave r.pieces ≡ map Gave r.pieces
    ++ last_read ending = sym (append-nil (map Gave r.pieces))
    ∙ ap (λ (l : List ReadAnswer). map Gave r.pieces ++ l) (sym last) in (
      record {
        consumed = fed ++ taken;
        rest = rest;
        reads = map Gave r.pieces ++ last_read ending;
        more = concat r.pieces;
        received = record {
          pieces = r.pieces;
          each = r.each;
          reads_are = refl;
          spelled = spelled;
          tells = tells;
          stops = by (record {
            front = fed;
            taken = taken;
            fed = taken ++ rest;
            earlier = given ++ ready_of u;
            goes_on = still;
            consumed_is = refl;
            fed_is = refl;
            some = some;
            place = came_last limits waited input fed (taken ++ rest) left u given r some;
          });
          bound = omega (arith, long, sum, w, few);
        };
        spelled = spelled;
        bytes = r.bytes;
        told = subst (TellsMore input.reads left.reads) reads r.told;
        keeps = keeps;
        ran = ran;
      },
      sym parted,
    )

-- what the bundle ended with
abbrev EndsBundle : {A : Type 0} → Limits → List ℕ → Input → List ℕ → List ℕ → List ℕ → Input → BundleEnd →
    List (Part A) → Type 0
EndsBundle limits waited input fed before after left ending parts =
    (q : IsReceivedFrom limits waited after input left ending parts) × (fed ++ before ≡ q.consumed ++ q.rest)

-- the bytes that were fed last, up to a place
stops_at : {A : Type 0} (ending : BundleEnd) (limits : Limits) (waited : List ℕ) (input : Input)
    (fed before after : List ℕ) (place : ℕ) (left : Input) (u : Unbundler A) (given parts : List (Part A))
    → IsReceiving limits waited input fed before left u given → 1 ≤ length before → length before ≤ 4096
    → StateTells (state_at ending) limits (fed ++ take place before) parts → last_read ending ≡ []
    → ((pieces : List (List ℕ)) → StopsIn A limits waited pieces (fed ++ take place before) (drop place before)
    → StopsBundle A ending limits waited pieces (fed ++ take place before) (drop place before))
    → KeepsWaiting ending (drop place before) after → Ran ending left
    → EndsBundle limits waited input fed before after left ending parts
stops_at {A} ending limits waited input fed before after place left u given parts r some few tells last by
    keeps ran =
    let whole : take place before ++ drop place before ≡ before = take-append-drop place before in
    let r' = subst (λ (l : List ℕ). IsReceiving limits waited input fed l left u given) (sym whole) r in
    let some' = subst (λ (l : List ℕ). 1 ≤ length l) (sym whole) some in
    let few' = subst (λ (l : List ℕ). length l ≤ 4096) (sym whole) few in
    let q = stops ending limits waited input fed (take place before) (drop place before) after left u given
    parts r' some' few' tells last (by r'.pieces) keeps ran in
    (q.0, ap (λ (l : List ℕ). fed ++ l) (sym whole) ∙ q.1)

-- the bundle ends
pub feed_ends : {A : Type 0} (limits : Limits) (waited : List ℕ) (input : Input) (fed before after : List ℕ)
    (left : Input) (u v : Unbundler A) (given : List (Part A)) (ending : BundleEnd)
    → IsReceiving limits waited input fed before left u given → 1 ≤ length before
    → FeedsFront u v before after → Some ending ≡ ended_at (state_of v)
    → (q : IsReceivedFrom limits waited after input left ending (given ++ ready_of v))
    × (fed ++ before ≡ q.consumed ++ q.rest)
feed_ends limits waited input fed before after left u v given Whole r some f is =
    let state = ends_whole (state_of v) is in
    stops_at Whole limits waited input fed before after f.place left u given (given ++ ready_of v) r some
    f.few (told limits v Ended (fed ++ take f.place before) given state (f.limits ∙ r.limits_are)
    (f.holds given fed r.holds)) refl (λ pieces s. s)
    (f.ended state) tt
feed_ends limits waited input fed before after left u v given (Fault fault) r some f is =
    let state = ends_faulty (state_of v) fault is in
    let fresh : fault ≢ Truncated = λ e. f.not_truncated (given, fed, r.holds, r.state)
    (state ∙ ap (λ x. stream_failed x) e) in
    stops_at (Fault fault) limits waited input fed before after f.place left u given (given ++ ready_of v) r
    some f.few (told limits v (stream_failed fault) (fed ++ take f.place before) given state
    (f.limits ∙ r.limits_are) (f.holds given fed r.holds)) refl (λ pieces s. (fresh, s)) tt tt
feed_ends limits waited input fed before after left u v given InputEnded r some f is =
    absurd (not_input (state_of v) is)
feed_ends limits waited input fed before after left u v given ReadFailed r some f is =
    absurd (not_read (state_of v) is)

-- memory was refused, and nothing is fed
pub refuse : {A : Type 0} (limits : Limits) (waited : List ℕ) (input : Input) (fed before : List ℕ)
    (left : Input) (u : Unbundler A) (given : List (Part A))
    → IsReceiving limits waited input fed before left u given → 1 ≤ length before → length before ≤ 4096
    → IsReceivedFrom limits waited before input left (Fault NoMemory) (given ++ ready_of u)
refuse {A} limits waited input fed before left u given r some few =
    let still : StateTells going limits fed (given ++ ready_of u) = told limits u going fed given r.state r.limits_are
    r.holds in
    let none : fed ++ [] ≡ fed = append-nil fed in
    let fresh : NoMemory ≢ Truncated = λ e. absurd cc in
    (stops (Fault NoMemory) limits waited input fed [] before before left u given (given ++ ready_of u) r some
    few (subst (λ (l : List ℕ). StateTells going limits l (given ++ ready_of u)) (sym none) still) refl
    (λ s. (fresh, s)) tt tt).0

-- where it goes on, bytes were fed; where it does not, it was received
pub turned : {A : Type 0} (limits : Limits) (waited : List ℕ) (input : Input) (fed before after : List ℕ)
    (left : Input) (u v : Unbundler A) (given : List (Part A)) (result : Option BundleEnd)
    → IsReceiving limits waited input fed before left u given → 1 ≤ length before → FeedsFront u v before after
    → result ≡ ended_at (state_of v) → Turned limits waited input fed after left v given result
turned limits waited input fed before after left u v given None r some f is =
    let on = fed_on limits waited input fed before after left u v given r f is in (before, some, on.0, on.1)
turned limits waited input fed before after left u v given (Some ending) r some f is =
    (feed_ends limits waited input fed before after left u v given ending r some f is).0

-- an end mark was fed
pub feed_whole : (state : State) (result : Option BundleEnd) → result ≡ ended_at state → result ≡ Some Whole
    → state ≡ Ended
feed_whole state result is whole = ends_whole state (sym whole ∙ is)
