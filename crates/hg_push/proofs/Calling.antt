-- A call of a book that has come as far as a course: its answer, and how far the book has come after it.
use Rattle.std.proofs.Common.{ℕ, true, false, ◌≡◌, ◌==◌, not, List, [], ◌∷◌, ◌++◌, refl, sym, ◌∙◌, ap, subst}
use Rattle.std.proofs.Common.{arith, Option, Some, None, map, length, append_assoc}
use Rattle.std.specs.Prelude.{IfNone, IfSome, IsSome, filter}
use Rattle.std.specs.List.{list_any}
use Rattle.std.proofs.lemmas.List.{append-nil}
use Rattle.hg_push.specs.declared.calls.Call.{Call}
use Rattle.hg_push.specs.declared.calls.Answer.{Answer}
use Rattle.hg_push.specs.declared.calls.Call.TheVariants.{TakeReply}
use Rattle.hg_push.specs.declared.calls.Answer.TheVariants.{Reply}
use Rattle.hg_push.specs.declared.outcome.Outcome.{Outcome}
use Rattle.hg_push.specs.declared.row.Row.{Row}
use Rattle.hg_push.specs.History.{Running, outcome}
use Rattle.hg_push.specs.Rows.{row_of, rows_without, reply_in}
use Rattle.hg_push.specs.Book.{Book, HoldsHistory}
use Rattle.hg_push.specs.Calls.{AreAnswers, Course, BookFollows, IsAnswer, after_call, after_calls, is_waiting}
use Rattle.hg_push.specs.Calls.{reply_due}
use Rattle.hg_push.proofs.Trims.{either_way}

waiting_row : {A D E : Type 0} (p : ℕ) (rows : List (Row D E A))
    → list_any (λ q. q == p) (map (λ r. r.push) rows) ≡ true → IsSome (row_of p rows)
waiting_row p [] waits = cc
waiting_row p (r ∷ rows) waits =
    either_way (r.push == p) (λ t. rw t refl) (λ f. rw f (waiting_row p rows (rw f at waits)))

absent_row : {A D E : Type 0} (p : ℕ) (rows : List (Row D E A))
    → list_any (λ q. q == p) (map (λ r. r.push) rows) ≡ false → row_of p rows ≡ None
absent_row p [] waits = refl
absent_row p (r ∷ rows) waits =
    either_way (r.push == p) (λ t. let h = rw t at waits in
    cc) (λ f. rw f (absent_row p rows (rw f at waits)))

pub reply_right : {A R D E : Type 0} (run : Running A R D E) (first : R) (c : Course A) (b : Book A R D E)
    (p : ℕ) (reply : Option (Outcome D E)) → BookFollows run first c b → reply ≡ reply_in (row_of p b.rows)
    → (IsSome (row_of p b.rows) → reply ≡ outcome run first p c.history) → reply ≡ reply_due run first c p
reply_right run first c b p reply follows is told =
    either_way (is_waiting c p)
    (λ t. rw t (told (waiting_row p b.rows (ap (list_any (λ q. q == p)) follows.waiting ∙ t))))
    (λ f. rw f (is ∙ ap reply_in (absent_row p b.rows (ap (list_any (λ q. q == p)) follows.waiting ∙ f))))

pushes_without : {A D E : Type 0} (p : ℕ) (rows : List (Row D E A))
    → map (λ r. r.push) (rows_without p rows) ≡ filter (λ q. not (q == p)) (map (λ r. r.push) rows)
pushes_without p [] = refl
pushes_without p (r ∷ rows) =
    either_way (r.push == p) (λ t. rw t (pushes_without p rows))
    (λ f. rw f (ap (λ ps. r.push ∷ ps) (pushes_without p rows)))

pub reply_follows : {A R D E : Type 0} (run : Running A R D E) (first : R) (c : Course A)
    (b new : Book A R D E) (p : ℕ) (reply : Option (Outcome D E)) → BookFollows run first c b
    → IfNone reply (new ≡ b) → IfSome reply (λ ending. new ≡ record b { rows = rows_without p b.rows })
    → HoldsHistory run first c.history new → BookFollows run first (after_call c (TakeReply p) (Reply reply)) new
reply_follows run first c b new p None follows same taken holds =
    subst (BookFollows run first c) (sym same) follows
reply_follows run first c b new p (Some ending) follows same taken holds = record {
  holds = holds;
  first_push = ap (λ k. k.first_push) taken ∙ follows.first_push;
  next = ap (λ k. k.next) taken ∙ follows.next;
  limit = ap (λ k. k.limit) taken ∙ follows.limit;
  waiting = ap (λ k. map (λ r. r.push) k.rows) taken
      ∙ (pushes_without p b.rows ∙ ap (filter (λ q. not (q == p))) follows.waiting);
}

-- ---- one call more

pub answers_more : {A R D E : Type 0} (run : Running A R D E) (first : R) (c : Course A)
    (calls : List (Call A)) (answers : List (Answer D E)) (call : Call A) (answer : Answer D E)
    → AreAnswers run first c calls answers → IsAnswer run first (after_calls c calls answers) call answer
    → AreAnswers run first c (calls ++ call ∷ []) (answers ++ answer ∷ [])
answers_more run first c [] [] call answer are is = (is, tt)
answers_more run first c [] (a ∷ answers) call answer are is = absurd are
answers_more run first c (k ∷ calls) [] call answer are is = absurd are
answers_more run first c (k ∷ calls) (a ∷ answers) call answer are is =
    (are.0, answers_more run first (after_call c k a) calls answers call answer are.1 is)

pub after_more : {A R D E : Type 0} (run : Running A R D E) (first : R) (c : Course A) (calls : List (Call A))
    (answers : List (Answer D E)) (call : Call A) (answer : Answer D E) → AreAnswers run first c calls answers
    → after_calls c (calls ++ call ∷ []) (answers ++ answer ∷ []) ≡ after_call
    (after_calls c calls answers) call answer
after_more run first c [] [] call answer are = refl
after_more run first c [] (a ∷ answers) call answer are = absurd are
after_more run first c (k ∷ calls) [] call answer are = absurd are
after_more run first c (k ∷ calls) (a ∷ answers) call answer are =
    after_more run first (after_call c k a) calls answers call answer are.1

-- The answers so far are right, and the book has come as far.
pub record AnswersSoFar {A R D E : Type 0} (run : Running A R D E) (first : R) (c : Course A)
    (calls : List (Call A)) (answers : List (Answer D E)) (b : Book A R D E) : Type 0 where
  pub right : AreAnswers run first c calls answers
  pub follows : BookFollows run first (after_calls c calls answers) b

pub so_far_more : {A R D E : Type 0} (run : Running A R D E) (first : R) (c : Course A)
    (calls : List (Call A)) (answers : List (Answer D E)) (b new : Book A R D E) (call : Call A)
    (answer : Answer D E) → AnswersSoFar run first c calls answers b
    → (BookFollows run first (after_calls c calls answers) b
    → IsAnswer run first (after_calls c calls answers) call answer)
    → (BookFollows run first (after_calls c calls answers) b
    → BookFollows run first (after_call (after_calls c calls answers) call answer) new)
    → AnswersSoFar run first c (calls ++ call ∷ []) (answers ++ answer ∷ []) new
so_far_more run first c calls answers b new call answer far is next = record {
  right = answers_more run first c calls answers call answer far.right (is far.follows);
  follows = subst (λ k. BookFollows run first k new)
      (sym (after_more run first c calls answers call answer far.right)) (next far.follows);
}

pub so_far_none : {A R D E : Type 0} (run : Running A R D E) (first : R) (c : Course A)
    (answers : List (Answer D E)) (b : Book A R D E) → answers ≡ [] → BookFollows run first c b
    → AnswersSoFar run first c [] answers b
so_far_none run first c answers b none follows = rw none (record { right = tt; follows = follows })

none_left : {X : Type 0} (xs : List X) → length xs ≡ 0 → xs ≡ []
none_left [] e = refl
none_left (x ∷ xs) e = absurd (omega (arith, e))

-- nothing is left
pub all_made : {X : Type 0} (all made left : List X) → all ≡ made ++ left → length left ≡ 0 → made ≡ all
all_made all made left is none =
    sym (append-nil made) ∙ (ap (λ rest. made ++ rest) (sym (none_left left none)) ∙ sym is)

-- one less is left
pub more_made : {X : Type 0} (all made left rest : List X) (x : X) → all ≡ made ++ left → left ≡ x ∷ rest
    → all ≡ (made ++ x ∷ []) ++ rest
more_made all made left rest x is next =
    is ∙ (ap (λ l. made ++ l) next ∙ sym (append_assoc made (x ∷ []) rest))
