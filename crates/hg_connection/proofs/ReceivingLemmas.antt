-- Lemmas for callers: a bundle is received read by read, and what is put of it.
use Rattle.std.proofs.Common.{ℕ, ◌≡◌, ◌≢◌, ◌≤◌, ◌+◌, inl, inr, List, [], ◌∷◌, ◌++◌, refl, ◌∙◌, ap, arith, rules}
use Rattle.std.proofs.Common.{length, Option, None, Some}
use Rattle.std.proofs.lemmas.List.{append-nil}
use Rattle.std.proofs.KnownBytes.{Consumes-nil}
use Rattle.hg_types.specs.declared.part.Part.{Part}
use Rattle.hg_types.specs.declared.limits.Limits.{Limits}
use Rattle.hg_parts.specs.declared.item.Item.{Item}
use Rattle.hg_parts.specs.declared.item.What.{What}
use Rattle.hg_parts.specs.declared.item.What.TheVariants.{Part as a_part, End}
use Rattle.hg_repo.specs.declared.done.Done.{Done}
use Rattle.hg_parts.specs.declared.refusal.Refusal.{Refusal}
use Rattle.hg_push.specs.declared.outcome.Outcome.TheVariants.{Done as done_with, Aborted}
use Rattle.hg_push.specs.declared.outcome.Reason.{Reason}
use Rattle.hg_push.specs.History.{History, outcome, part_in, parts as ran_parts}
use Rattle.hg_push.specs.Lengths.{greatest_reply, most_parts}
use Rattle.hg_push.specs.Reply.{CanBeTold, reply_of}
use Rattle.hg_push.specs.Run.{RepositoryOf, run_push}
use Rattle.hg_push.specs.World.{all_parts}
use Rattle.hg_stream.specs.declared.fault.StreamFault.TheVariants.{NoMemory}
use Rattle.hg_stream.specs.declared.state.State.{State}
use Rattle.hg_stream.specs.declared.state.State.TheVariants.{Reading as going, Ended as at_end_mark}
use Rattle.hg_stream.specs.declared.unbundler.Unbundler.{Unbundler}
use Rattle.hg_stream.specs.Faults.{StateTells}
use Rattle.hg_stream.specs.Unbundler.{HoldsBundle, limits_of, ready_of, state_of}
use Rattle.hg_connection.specs.Devices.{Input}
use Rattle.hg_connection.proofs.DeviceLemmas.{Adds-nil}
use Rattle.hg_connection.specs.declared.bundle_end.BundleEnd.{BundleEnd}
use Rattle.hg_connection.specs.declared.bundle_end.BundleEnd.TheVariants.{Whole, Fault, InputEnded, ReadFailed}
use Rattle.hg_connection.specs.Receiving.{IsReceivedFrom, mark_of, part_items, state_at}
use Rattle.hg_connection.specs.Turns.{FeedsFront, Fills, IsReceiving, ReadsMore, Turned, ended_at}
use Rattle.hg_connection.proofs.Filling.{fill_ends, fill_not_whole, filled, none_waits, told}
use Rattle.hg_connection.proofs.Feeding.{fed_on, feed_ends, feed_whole, refuse, turned}

-- It begins: nothing was fed yet.
pub begins : {A : Type 0} (limits : Limits) (waited : List ℕ) (input : Input) (u : Unbundler A)
    → HoldsBundle u [] [] → state_of u ≡ going → limits_of u ≡ limits
    → IsReceiving limits waited input [] waited input u []
begins limits waited input u holds state same = record {
  holds = holds;
  limits_are = same;
  state = state;
  pieces = [];
  each = search rules;
  bytes = Consumes-nil input.left;
  told = Adds-nil input.reads;
  spelled = append-nil waited;
  place = inr (inl (refl, refl, refl));
}

-- what was fed is within the limit on the stream
pub within_limit : {A : Type 0} (limits : Limits) (waited : List ℕ) (input : Input) (fed waiting : List ℕ)
    (left : Input) (u : Unbundler A) (given : List (Part A))
    → IsReceiving limits waited input fed waiting left u given → length fed ≤ limits.stream
within_limit limits waited input fed waiting left u given r =
    (told limits u going fed given r.state r.limits_are r.holds).1

-- the parts that were ready were taken
pub parts_taken : {A : Type 0} (limits : Limits) (waited : List ℕ) (input : Input) (fed waiting : List ℕ)
    (left : Input) (u v : Unbundler A) (given taken : List (Part A))
    → IsReceiving limits waited input fed waiting left u given
    → ((before : List (Part A)) (bytes : List ℕ) → HoldsBundle u before bytes → HoldsBundle v (before ++ taken) bytes)
    → state_of v ≡ state_of u → limits_of v ≡ limits_of u
    → IsReceiving limits waited input fed waiting left v (given ++ taken)
parts_taken limits waited input fed waiting left u v given taken r holds state same = record {
  holds = holds given fed r.holds;
  limits_are = same ∙ r.limits_are;
  state = state ∙ r.state;
  pieces = r.pieces;
  each = r.each;
  bytes = r.bytes;
  told = r.told;
  spelled = r.spelled;
  place = r.place;
}

-- It goes on: bytes wait.
pub waits_on : {A : Type 0} (limits : Limits) (waited : List ℕ) (input : Input)
    (fed waiting before : List ℕ) (mid left : Input) (u : Unbundler A) (given : List (Part A))
    → IsReceiving limits waited input fed waiting mid u given → Fills waiting before mid left None
    → (1 ≤ length before) × IsReceiving limits waited input fed before left u given
waits_on limits waited input fed waiting before mid left u given r f =
    filled limits waited input fed waiting before mid left u given r f

-- none waited where no more came
pub nothing_waits : (before after : List ℕ) (input left : Input) (ending : BundleEnd)
    → Fills before after input left (Some ending) → (before ≡ []) × ReadsMore after input left (Some ending)
nothing_waits before after input left ending f = none_waits before after input left ending f

-- It goes on: those that waited were fed.
pub goes_on : {A : Type 0} (limits : Limits) (waited : List ℕ) (input : Input) (fed before after : List ℕ)
    (left : Input) (u v : Unbundler A) (given : List (Part A))
    → IsReceiving limits waited input fed before left u given → FeedsFront u v before after
    → None ≡ ended_at (state_of v)
    → (after ≡ []) × IsReceiving limits waited input (fed ++ before) after left v given
goes_on limits waited input fed before after left u v given r f is =
    fed_on limits waited input fed before after left u v given r f is

-- It ends: no more came.
pub ends_unfed : {A : Type 0} (limits : Limits) (waited : List ℕ) (input : Input)
    (fed waiting after : List ℕ) (mid left : Input) (u : Unbundler A) (given : List (Part A)) (ending : BundleEnd)
    → IsReceiving limits waited input fed waiting mid u given → Fills waiting after mid left (Some ending)
    → IsReceivedFrom limits waited after input left ending (given ++ ready_of u)
ends_unfed limits waited input fed waiting after mid left u given ending r f =
    fill_ends limits waited input fed waiting after mid left u given ending r f

-- then it saw no end mark
pub not_whole : (before after : List ℕ) (input left : Input) (ending : BundleEnd)
    → Fills before after input left (Some ending) → ending ≢ Whole
not_whole before after input left ending f = fill_not_whole before after input left ending f

-- where it is whole, the reader of bundles was fed an end mark
pub whole_ended : (state : State) (result : Option BundleEnd) → result ≡ ended_at state → result ≡ Some Whole
    → state ≡ at_end_mark
whole_ended state result is whole = feed_whole state result is whole

-- It ends: there was an end mark or a fault.
pub ends : {A : Type 0} (limits : Limits) (waited : List ℕ) (input : Input) (fed before after : List ℕ)
    (left : Input) (u v : Unbundler A) (given : List (Part A)) (ending : BundleEnd)
    → IsReceiving limits waited input fed before left u given → 1 ≤ length before
    → FeedsFront u v before after → Some ending ≡ ended_at (state_of v)
    → (q : IsReceivedFrom limits waited after input left ending (given ++ ready_of v))
    × (fed ++ before ≡ q.consumed ++ q.rest)
ends limits waited input fed before after left u v given ending r some f is =
    feed_ends limits waited input fed before after left u v given ending r some f is

-- It ends: memory was refused for what waits, and it is not fed.
pub ends_refused : {A : Type 0} (limits : Limits) (waited : List ℕ) (input : Input) (fed before : List ℕ)
    (left : Input) (u : Unbundler A) (given : List (Part A))
    → IsReceiving limits waited input fed before left u given → 1 ≤ length before → length before ≤ 4096
    → IsReceivedFrom limits waited before input left (Fault NoMemory) (given ++ ready_of u)
ends_refused limits waited input fed before left u given r some few =
    refuse limits waited input fed before left u given r some few

-- what a read makes of it: those that waited were fed
pub turn_made : {A : Type 0} (limits : Limits) (waited : List ℕ) (input : Input) (fed before after : List ℕ)
    (left : Input) (u v : Unbundler A) (given : List (Part A)) (result : Option BundleEnd)
    → IsReceiving limits waited input fed before left u given → 1 ≤ length before → FeedsFront u v before after
    → result ≡ ended_at (state_of v) → Turned limits waited input fed after left v given result
turn_made limits waited input fed before after left u v given result r some f is =
    turned limits waited input fed before after left u v given result r some f is

-- the law `parts_are_few`
abbrev pub PartsAreFew : Type 0 → Type 0
PartsAreFew A = (limits : Limits) (state : State) (bytes : List ℕ) (parts : List (Part A))
    → StateTells state limits bytes parts → length parts ≤ limits.parts

-- no more parts are ready after a read, with those before them, than the limit on parts
pub parts_few : {A : Type 0} → PartsAreFew A → (limits : Limits) (waited : List ℕ) (input : Input)
    (fed waiting : List ℕ) (left : Input) (u : Unbundler A) (given : List (Part A)) (result : Option BundleEnd)
    → Turned limits waited input fed waiting left u given result
    → length (given ++ ready_of u) ≤ limits.parts
parts_few few limits waited input fed waiting left u given None t =
    few limits going (fed ++ t.0) (given ++ ready_of u)
    (told limits u going (fed ++ t.0) given t.3.state t.3.limits_are t.3.holds)
parts_few few limits waited input fed waiting left u given (Some ending) t =
    few limits (state_at ending) t.consumed (given ++ ready_of u) t.received.tells

-- the law `replies_are_short`: of pushes that are done, and of aborted ones
abbrev pub DoneAreShort : Type 0 → Type 0
DoneAreShort A = (first : RepositoryOf A) (p : ℕ) (h : History A) (done : Done A)
    → outcome run_push first p h ≡ Some (done_with done) → CanBeTold (done_with done)
    → length (ran_parts p h) ≤ most_parts → length (reply_of (done_with done)) ≤ greatest_reply

abbrev pub AbortedAreShort : Type 0 → Type 0
AbortedAreShort A = (reason : Reason (Refusal A)) → length (reply_of (Aborted reason)) ≤ greatest_reply

-- a part as an item
abbrev part_item : {A : Type 0} → ℕ → ℕ → Part A → Item A
part_item push index part = record { push = push; index = index; what = a_part part }

pub items_length : {A : Type 0} (push index : ℕ) (parts : List (Part A))
    → length (part_items push index parts) ≡ length parts
items_length push index [] = refl
items_length push index (part ∷ parts) = let e = items_length push (index + 1) parts in omega (arith, e)

pub items_append : {A : Type 0} (push index : ℕ) (parts more : List (Part A))
    → part_items push index (parts ++ more) ≡ part_items push index parts
    ++ part_items push (index + length parts) more
items_append {A} push index [] more =
    let e : index ≡ index + 0 = omega arith in ap (λ (n : ℕ). part_items push n more) e
items_append {A} push index (part ∷ parts) more =
    let e : (index + 1) + length parts ≡ index + length (part ∷ parts) = omega arith in
    ap (λ (l : List (Item A)). part_item push index part ∷ l)
    (items_append push (index + 1) parts more
    ∙ ap (λ (n : ℕ). part_items push (index + 1) parts ++ part_items push n more) e)

-- one part more
pub items_more : {A : Type 0} (push index : ℕ) (parts : List (Part A)) (part : Part A)
    → part_items push index (parts ++ part ∷ []) ≡ part_items push index parts
    ++ record { push = push; index = index + length parts; what = a_part part } ∷ []
items_more push index parts part = items_append push index parts (part ∷ [])

-- a mark has no part
pub mark_empty : {A : Type 0} (ending : BundleEnd) → part_in {A = A} (mark_of ending) ≡ []
mark_empty Whole = refl
mark_empty (Fault fault) = refl
mark_empty InputEnded = refl
mark_empty ReadFailed = refl

-- the mark of a bundle that was not read to its end mark is no end mark
pub end_whole : {A : Type 0} (ending : BundleEnd) → mark_of {A = A} ending ≡ End → ending ≡ Whole
end_whole Whole e = refl
end_whole (Fault fault) e = absurd cc
end_whole InputEnded e = absurd cc
end_whole ReadFailed e = absurd cc

-- the parts of what was put
pub put_parts : {A : Type 0} (push index count : ℕ) (parts : List (Part A)) (mark : What A) → part_in mark ≡ []
    → all_parts (part_items push index parts ++ record { push = push; index = count; what = mark } ∷ [])
    ≡ parts
put_parts {A} push index count [] mark none = ap (λ (ps : List (Part A)). ps ++ []) none
put_parts {A} push index count (part ∷ parts) mark none =
    ap (λ (ps : List (Part A)). part ∷ ps) (put_parts push (index + 1) count parts mark none)
