-- The reply to one bundle's push is short: its parts are few.
use Rattle.std.proofs.Common.{ℕ, Bool, true, false, ◌≡◌, ◌≤◌, ◌+◌, ◌&&◌, List, [], ◌∷◌, ◌++◌, ap, arith}
use Rattle.std.proofs.Common.{length, Some, not, ◌∙◌, if◌then◌else◌}
use Rattle.std.proofs.lemmas.List.{append-nil, length-append}
use Rattle.hg_types.specs.declared.part.Part.{Part}
use Rattle.hg_parts.specs.declared.item.Item.{Item}
use Rattle.hg_types.specs.Limits.{standard_limits}
use Rattle.hg_repo.specs.declared.done.Done.{Done}
use Rattle.hg_parts.specs.declared.refusal.Refusal.{Refusal}
use Rattle.hg_push.specs.declared.outcome.Outcome.{Outcome}
use Rattle.hg_push.specs.declared.outcome.Outcome.TheVariants.{Done as done_with, Aborted}
use Rattle.hg_push.specs.History.{History, is_closed, is_of, outcome, part_in, parts_after}
use Rattle.hg_push.specs.History.{parts as ran_parts}
use Rattle.hg_push.specs.Lengths.{greatest_reply, most_parts}
use Rattle.hg_push.specs.Reply.{CanBeTold, reply_of}
use Rattle.hg_push.specs.Run.{RepositoryOf, run_push}
use Rattle.hg_push.specs.World.{all_parts, items_in}
use Rattle.hg_connection.specs.Devices.{Input}
use Rattle.hg_connection.specs.declared.bundle_end.BundleEnd.{BundleEnd}
use Rattle.hg_connection.specs.Receiving.{mark_of, push_items, state_at}
use Rattle.hg_replay.specs.Receiving.{Received}
use Rattle.hg_replay.specs.Taking.{PushEnds}
use Rattle.hg_connection.proofs.ReceivingLemmas.{AbortedAreShort, DoneAreShort, PartsAreFew, mark_empty, put_parts}

more_parts : {A : Type 0} (items : List (Item A)) (item : Item A)
    → length (all_parts (items ++ item ∷ [])) ≡ length (all_parts items) + length (part_in item.what)
more_parts [] item = omega (arith, length-append (part_in item.what) [])
more_parts (other ∷ items) item = omega (
  arith,
  length-append (part_in other.what) (all_parts (items ++ item ∷ [])),
  length-append (part_in other.what) (all_parts items),
  more_parts items item,
)

either : {T : Type 0} (b : Bool) (left right : List T) (most : ℕ)
    → length left ≤ most → length right ≤ most → length (if b then left else right) ≤ most
either true left right most first second = first
either false left right most first second = second

-- a push has no more parts than the items have
few_parts : {A : Type 0} (p : ℕ) (h : History A) → length (ran_parts p h) ≤ length (all_parts (items_in h))
few_parts p [] = omega arith
few_parts p (x ∷ before) =
    let had = few_parts p before in
    let more = more_parts (items_in before) x.item in
    let most = length (all_parts (items_in (x ∷ before))) in
    let kept : length (ran_parts p before) ≤ most = omega (arith, had, more) in
    let grown : length (ran_parts p before ++ part_in x.item.what) ≤ most =
    omega (arith, length-append (ran_parts p before) (part_in x.item.what), had, more) in
    let mine = either x.refused (ran_parts p before) (ran_parts p before
    ++ part_in x.item.what) most kept grown in
    let after = parts_after (ran_parts p before) x in
    either (is_of p x && not (is_closed p before)) after (ran_parts p before) most mine kept

outcome_short : {A : Type 0} → DoneAreShort A → AbortedAreShort A → (first : RepositoryOf A) (p : ℕ)
    (h : History A) (how : Outcome (Done A) (Refusal A)) → outcome run_push first p h ≡ Some how
    → CanBeTold how → length (ran_parts p h) ≤ most_parts → length (reply_of how) ≤ greatest_reply
outcome_short done_short aborted_short first p h (done_with done) ended told few =
    done_short first p h done ended told few
outcome_short done_short aborted_short first p h (Aborted reason) ended told few = aborted_short reason

pub reply_short : {A : Type 0} → DoneAreShort A → AbortedAreShort A → PartsAreFew A
    → (first : RepositoryOf A) (push : ℕ) (input left : Input) (ending : BundleEnd) (parts : List (Part A))
    (how : Outcome (Done A) (Refusal A)) → Received standard_limits input left ending parts
    → PushEnds first [] push (push_items push parts (mark_of ending)) how → length (reply_of how) ≤ greatest_reply
reply_short {A} done_short aborted_short law first push input left ending parts how received e =
    let count : length parts ≤ most_parts = law standard_limits (state_at ending) received.1.consumed parts
    received.1.received.tells in
    let all = put_parts push 0 (length parts) parts (mark_of ending) (mark_empty ending) in
    let history = e.places ++ [] in
    let items : items_in history ≡ push_items push parts (mark_of ending) =
    ap (λ (h : History A). items_in h) (append-nil e.places) ∙ e.items_are in
    let same : length (all_parts (items_in history)) ≡ length parts =
    ap (λ (items : List (Item A)). length (all_parts items)) items
    ∙ ap (λ (ps : List (Part A)). length ps) all in
    let ran = few_parts push history in
    outcome_short done_short aborted_short first push history how e.ended e.told
    (omega (arith, ran, same, count))
