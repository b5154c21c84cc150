-- What calls of a book may answer, one by one and as a list.
use Rattle.std.proofs.Common.{ℕ, Bool, true, false, cond, ◌≡◌, List, [], ◌∷◌, ◌++◌, refl, sym, arith, length}
use Rattle.std.proofs.Common.{Option, Some, None, Ok}
use Rattle.hg_parts.specs.declared.item.Item.{Item}
use Rattle.hg_push.specs.declared.calls.Answer.{Answer}
use Rattle.hg_push.specs.declared.calls.Answer.TheVariants.{Opened, Reply, Stepped}
use Rattle.hg_push.specs.declared.calls.Call.{Call}
use Rattle.hg_push.specs.declared.calls.Call.TheVariants.{Open, Step, TakeReply}
use Rattle.hg_push.specs.declared.outcome.Outcome.{Outcome}
use Rattle.hg_push.specs.Calls.{AreAnswers, Course, IsAnswer, after_call, after_calls, is_waiting}
use Rattle.hg_push.specs.History.{Running, may_refuse, outcome}

due_is : {X : Type 0} (b : Bool) (due : Option X) (x : X) → Some x ≡ cond b due None → due ≡ Some x
due_is true due x is = sym is
due_is false due x is = cc

module _ {A R D E : Type 0} (run : Running A R D E) (first : R) where
  pub opens_next : (c : Course A) (p : ℕ) → IsAnswer run first c Open (Opened (Ok p)) → p ≡ c.next
  opens_next c p is = is.0

  pub may_be_refused : (c : Course A) (item : Item A) → IsAnswer run first c (Step item) (Stepped true)
      → may_refuse c.history item ≡ true
  may_be_refused c item is = (is refl).1

  pub is_outcome : (c : Course A) (p : ℕ) (how : Outcome D E)
      → IsAnswer run first c (TakeReply p) (Reply (Some how)) → outcome run first p c.history ≡ Some how
  is_outcome c p how is = due_is (is_waiting c p) (outcome run first p c.history) how is

  pub other_kind : (c : Course A) (item : Item A) (reply : Option (Outcome D E))
      → ¬ (IsAnswer run first c (Step item) (Reply reply))
  other_kind c item reply is = is

  pub answers_as_many : (c : Course A) (calls : List (Call A)) (answers : List (Answer D E))
      → AreAnswers run first c calls answers → length answers ≡ length calls
  answers_as_many c [] [] are = refl
  answers_as_many c (call ∷ calls) (answer ∷ answers) are =
      let rest = answers_as_many (after_call c call answer) calls answers are.1 in omega arith
  answers_as_many c [] (answer ∷ answers) are = absurd are
  answers_as_many c (call ∷ calls) [] are = absurd are

  pub each_answer : (c : Course A) (before after : List (Call A)) (call : Call A)
      (told others : List (Answer D E)) (answer : Answer D E)
      → AreAnswers run first c (before ++ call ∷ after) (told ++ answer ∷ others)
      → length told ≡ length before → IsAnswer run first (after_calls c before told) call answer
  each_answer c [] after call [] others answer are same = are.0
  each_answer c (one ∷ before) after call (had ∷ told) others answer are same =
      each_answer (after_call c one had) before after call told others answer are.1 (omega arith)
  each_answer c [] after call (had ∷ told) others answer are same = absurd (omega arith)
  each_answer c (one ∷ before) after call [] others answer are same = absurd (omega arith)
