-- Lists of calls of a book: what their answers have to be, by the history and with no table of rows.
use Rattle.std.specs.Prelude.{ℕ, Bool, true, ◌≡◌, ◌<◌, ◌≤◌, ◌+◌, ◌-◌, ◌^◌, ◌==◌, not, List, [], ◌∷◌, ◌++◌}
use Rattle.std.specs.Prelude.{length, map, filter, Option, None, Some, Result, Ok, Err, if◌then◌else◌}
use Rattle.std.specs.List.{list_any}
use Rattle.hg_parts.specs.declared.item.Item.{Item}
use Rattle.hg_push.specs.declared.book.OpenFault.{OpenFault}
use Rattle.hg_push.specs.declared.book.OpenFault.TheVariants.{TooManyOpen, Exhausted, NoMemory}
use Rattle.hg_push.specs.declared.calls.Call.{Call}
use Rattle.hg_push.specs.declared.calls.Call.TheVariants.{Open, Step, TakeReply}
use Rattle.hg_push.specs.declared.calls.Answer.{Answer}
use Rattle.hg_push.specs.declared.calls.Answer.TheVariants.{Opened, Stepped, Reply}
use Rattle.hg_push.specs.declared.outcome.Outcome.{Outcome}
use Rattle.hg_push.specs.History.{History, Running, outcome, may_refuse}
use Rattle.hg_push.specs.Book.{Book, HoldsHistory, is_between}

-- What has come of the calls so far: the items that were taken, the numbers that are opened, and the pushes
-- whose reply was not taken, in the order in which they were opened.
pub record Course (A : Type 0) : Type 0 where
  pub history : History A
  pub first_push : ℕ
  pub next : ℕ
  pub limit : ℕ
  pub waiting : List ℕ

-- nothing was called yet
abbrev pub course_of_new : {A : Type 0} → ℕ → ℕ → Course A
course_of_new first_push limit =
    record { history = []; first_push = first_push; next = first_push; limit = limit; waiting = [] }

-- the push was opened, and its reply was not taken
abbrev pub is_waiting : {A : Type 0} → Course A → ℕ → Bool
is_waiting c p = list_any (λ q. q == p) c.waiting

-- an opening gives the next number, or says why it does not; out of memory may always be the reason
abbrev pub IsOpening : {A : Type 0} → Course A → Result ℕ OpenFault → Type 0
IsOpening c (Ok p) = (p ≡ c.next) × (length c.waiting < c.limit) × (c.next < 2 ^ 32 - 1)
IsOpening c (Err TooManyOpen) = c.limit ≤ length c.waiting
IsOpening c (Err Exhausted) = (length c.waiting < c.limit) × (c.next ≡ 2 ^ 32 - 1)
IsOpening c (Err NoMemory) = Unit {0}

-- out of memory is reported of an item only where its push is opened and open and it takes memory
abbrev pub MayRefuse : {A : Type 0} → Course A → Item A → Bool → Type 0
MayRefuse c item refused = refused ≡ true → (is_between c.first_push c.next item.push ≡ true)
    × (may_refuse c.history item ≡ true)

-- the reply of a push is its outcome, once
abbrev pub reply_due : {A R D E : Type 0} → Running A R D E → R → Course A → ℕ → Option (Outcome D E)
reply_due run first c p = if is_waiting c p then outcome run first p c.history else None

-- what a call may answer, by the course so far and with no table of rows
abbrev pub IsAnswer : {A R D E : Type 0} → Running A R D E → R → Course A → Call A → Answer D E → Type 0
IsAnswer run first c Open (Opened opening) = IsOpening c opening
IsAnswer run first c (Step item) (Stepped refused) = MayRefuse c item refused
IsAnswer run first c (TakeReply p) (Reply reply) = reply ≡ reply_due run first c p
IsAnswer run first c call answer = ⊥

-- the history with one item more, where its push is opened
abbrev pub taken_in : {A : Type 0} → Course A → Item A → Bool → History A
taken_in c item refused = if is_between c.first_push c.next item.push
    then record { item = item; refused = refused } ∷ c.history else c.history

-- the course after a call that was answered so
abbrev pub after_call : {A D E : Type 0} → Course A → Call A → Answer D E → Course A
after_call c Open (Opened (Ok p)) = record c { next = c.next + 1; waiting = c.waiting ++ p ∷ [] }
after_call c (Step item) (Stepped refused) = record c { history = taken_in c item refused }
after_call c (TakeReply p) (Reply (Some ending)) = record c { waiting = filter (λ q. not (q == p)) c.waiting }
after_call c call answer = c

-- each answer is that of its call, after those before it
abbrev pub AreAnswers : {A R D E : Type 0} → Running A R D E → R → Course A → List (Call A) →
    List (Answer D E) → Type 0
AreAnswers run first c [] [] = Unit {0}
AreAnswers run first c (call ∷ calls) (answer ∷ answers) =
    IsAnswer run first c call answer × AreAnswers run first (after_call c call answer) calls answers
AreAnswers run first c calls answers = ⊥

-- the course after a list of calls
abbrev pub after_calls : {A D E : Type 0} → Course A → List (Call A) → List (Answer D E) → Course A
after_calls c (call ∷ calls) (answer ∷ answers) = after_calls (after_call c call answer) calls answers
after_calls c calls answers = c

-- The book has come as far.
pub record BookFollows {A R D E : Type 0} (run : Running A R D E) (first : R) (c : Course A)
    (b : Book A R D E) : Type 0 where
  pub holds : HoldsHistory run first c.history b
  pub first_push : b.first_push ≡ c.first_push
  pub next : b.next ≡ c.next
  pub limit : b.limit ≡ c.limit
  pub waiting : map (λ r. r.push) b.rows ≡ c.waiting
