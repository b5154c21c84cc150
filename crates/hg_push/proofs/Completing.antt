-- A push that is done had all parts of its sender, and its mark was its last item.
use Rattle.std.proofs.Common.{ℕ, Bool, true, false, ◌≡◌, ◌≢◌, ◌==◌, ◌&&◌, ◌||◌, ◌+◌, not, List, [], ◌∷◌, ◌++◌}
use Rattle.std.proofs.Common.{refl, sym, ◌∙◌, ap, subst, arith, length, length-append, append_assoc}
use Rattle.std.proofs.Common.{if◌then◌else◌, Option, Some, None, Result, Ok, Err}
use Rattle.std.specs.Prelude.{MatchBool}
use Rattle.std.proofs.lemmas.Bool.Decides.{nat_tests}
use Rattle.std.proofs.lemmas.List.{append-nil}
use Rattle.hg_types.specs.declared.part.Part.{Part}
use Rattle.hg_parts.specs.declared.item.What.{What}
use Rattle.hg_parts.specs.declared.item.What.TheVariants.{Part as a_part, End, Cut}
use Rattle.hg_parts.specs.declared.item.Item.{Item}
use Rattle.hg_parts.specs.declared.item.Taken.{Taken}
use Rattle.hg_push.specs.declared.outcome.Outcome.{Outcome}
use Rattle.hg_push.specs.declared.outcome.Outcome.TheVariants.{Done}
use Rattle.hg_push.specs.declared.outcome.Reason.{Reason}
use Rattle.hg_push.specs.History.{History, Running, is_of, closes, is_closed, is_mark, part_in, parts, serial}
use Rattle.hg_push.specs.History.{outcome, decided, told}
use Rattle.hg_push.specs.World.{World, Event, start, happens, run_all, put, can_put, take_first, has_opened}
use Rattle.hg_push.specs.World.{items_in, items_of, next_item, all_parts, has_mark}
use Rattle.hg_push.specs.World.Event.{Open, Put, Take}
use Rattle.hg_push.specs.Complete.{IsComplete, IsOrderly}
use Rattle.hg_push.proofs.Trims.{either_way}
use Rattle.hg_push.proofs.Journals.{decides_closes, end_parts, parts_stay}
use Rattle.hg_push.proofs.Worlds.{Sound, all_sound, items_more, items_of-append, items_same}

-- ---- what a sender put

-- each item has the number of parts before it as its index, and nothing follows a mark
abbrev pub IsPutList : {A : Type 0} → ℕ → List (Item A) → Type 0
IsPutList n [] = Unit {0}
IsPutList n (x ∷ xs) = (x.index ≡ n) × (is_mark x.what ≡ true → xs ≡ [])
    × IsPutList (n + length (part_in x.what)) xs

all_parts-append : {A : Type 0} (xs ys : List (Item A)) → all_parts (xs ++ ys) ≡ all_parts xs ++ all_parts ys
all_parts-append [] ys = refl
all_parts-append (x ∷ xs) ys = ap (λ ps. part_in x.what ++ ps) (all_parts-append xs ys)
    ∙ sym (append_assoc (part_in x.what) (all_parts xs) (all_parts ys))

either_false : (a b : Bool) → (a || b) ≡ false → (a ≡ false) × (b ≡ false)
either_false false b h = (refl, h)
either_false true b h = cc

put_last : {A : Type 0} (n : ℕ) (xs : List (Item A)) (x : Item A) → has_mark xs ≡ false
    → x.index ≡ n + length (all_parts xs) → IsPutList n xs → IsPutList n (xs ++ x ∷ [])
put_last n [] x none index are = (omega (arith, index), (λ h. refl), tt)
put_last n (y ∷ ys) x none index are =
    let no_mark = either_false (is_mark y.what) (has_mark ys) none in
    let count : length (all_parts (y ∷ ys)) ≡ length (part_in y.what) + length (all_parts ys) = length-append
    (part_in y.what) (all_parts ys) in (
      are.0,
      (λ h. let e : true ≡ false = sym h ∙ no_mark.0 in cc),
      put_last (n + length (part_in y.what)) ys x no_mark.1 (omega (arith, index, count)) are.2,
    )

abbrev PutLists : {A : Type 0} → World A → Type 0
PutLists w = (p : ℕ) → IsPutList 0 (w.puts p)

can_put_marks : {A : Type 0} (w : World A) (p : ℕ) → can_put w p ≡ true → has_mark (w.puts p) ≡ false
can_put_marks w p may = grind (arith, may)

put_puts : {A : Type 0} (w : World A) (p : ℕ) (what : What A) → can_put w p ≡ true → PutLists w
    → PutLists (put w (next_item w p what))
put_puts {A} w p what may lists q =
    let item : Item A = record { push = p; index = length (all_parts (w.puts p)); what = what } in
    either_way (p == q)
    (λ t.
    let e : p ≡ q = grind (arith, nat_tests) in
    let P : ℕ → Type 0 = λ n. IsPutList 0 (w.puts n ++ item ∷ []) in
    rw t (subst P e (put_last 0 (w.puts p) item (can_put_marks w p may) (omega arith) (lists p))))
    (λ f. rw f (lists q))

take_puts : {A : Type 0} (w : World A) (refused : Bool) (queue : List (Item A)) → PutLists w
    → PutLists (take_first w refused queue)
take_puts w refused [] lists = lists
take_puts w refused (item ∷ rest) lists = lists

happens_puts : {A : Type 0} (w : World A) (e : Event A) → PutLists w → PutLists (happens w e)
happens_puts w (Open p) lists = either_way (has_opened w p) (λ t. rw t lists) (λ f. rw f lists)
happens_puts w (Put p what) lists =
    either_way (can_put w p) (λ t. rw t (put_puts w p what t lists)) (λ f. rw f lists)
happens_puts w (Take refused) lists = take_puts w refused w.queue lists

run_puts : {A : Type 0} (es : List (Event A)) (w : World A) → PutLists w → PutLists (run_all es w)
run_puts [] w lists = lists
run_puts (e ∷ es) w lists = run_puts es (happens w e) (happens_puts w e lists)

-- ---- what a history has of an open push, and of one that is done

open_parts_step : {A : Type 0} (p : ℕ) (x : Taken A) (before : History A)
    → all_parts (items_of p (items_in before)) ≡ parts p before → is_of p x ≡ true
    → is_closed p before ≡ false → x.refused ≡ false
    → all_parts (items_of p (items_in (x ∷ before))) ≡ parts p (x ∷ before)
open_parts_step p x before same own here taken =
    ap all_parts (items_more p x before own)
    ∙ (all_parts-append (items_of p (items_in before)) (x.item ∷ [])
    ∙ rw (own, here, taken) (ap (λ ps. ps ++ (part_in x.item.what ++ [])) same
    ∙ ap (λ ps. parts p before ++ ps) (append-nil (part_in x.item.what))))

-- the parts of an open push are those of its items
open_parts : {A : Type 0} (p : ℕ) (h : History A) → is_closed p h ≡ false
    → all_parts (items_of p (items_in h)) ≡ parts p h
open_parts p [] here = refl
open_parts p (x ∷ before) here =
    let both = either_false (is_closed p before) (is_of p x && closes x) here in
    either_way (is_of p x)
    (λ t. let taken : x.refused ≡ false = grind (arith, t, both.1) in
    open_parts_step p x before (open_parts p before both.0) t both.0 taken)
    (λ f. ap all_parts (items_same p x before f) ∙ rw f (open_parts p before both.0))

-- the items of a push that is done: its parts, the end mark, and what came late
pub record IsDoneIn {A R D E : Type 0} (run : Running A R D E) (items : List (Item A)) (ps : List (Part A))
    (done : D) : Type 0 where
  pub front : List (Item A)
  pub mark : Item A
  pub late : List (Item A)
  pub spelled : items ≡ front ++ mark ∷ late
  pub is_end : mark.what ≡ End
  pub same : all_parts front ≡ ps
  pub before : R
  pub after : R
  pub answered : run before ps ≡ Ok (after, done)

pub told_done : {R D E : Type 0} (o : Option (Result (R × D) (Reason E))) (done : D)
    → told o ≡ Some (Done done) → (new : R) × (o ≡ Some (Ok (new, done)))
told_done None done is = cc
told_done (Some (Err reason)) done is = cc
told_done (Some (Ok (new, given))) done is = (new, cc)

done_late : {A R D E : Type 0} (run : Running A R D E) (items more : List (Item A)) (x : Item A)
    (ps : List (Part A)) (done : D) → more ≡ items ++ x ∷ [] → IsDoneIn run items ps done
    → IsDoneIn run more ps done
done_late run items more x ps done is d = record {
  front = d.front;
  mark = d.mark;
  late = d.late ++ x ∷ [];
  spelled = is ∙ (ap (λ is. is ++ x ∷ []) d.spelled ∙ append_assoc d.front (d.mark ∷ d.late) (x ∷ []));
  is_end = d.is_end;
  same = d.same;
  before = d.before;
  after = d.after;
  answered = d.answered;
}

done_same : {A R D E : Type 0} (run : Running A R D E) (items more : List (Item A)) (ps : List (Part A))
    (done : D) → more ≡ items → IsDoneIn run items ps done → IsDoneIn run more ps done
done_same run items more ps done is d = subst (λ is. IsDoneIn run is ps done) (sym is) d

done_now : {A R D E : Type 0} (run : Running A R D E) (repo : R) (p : ℕ) (x : Taken A) (before : History A)
    (done : D) → is_of p x ≡ true → is_closed p before ≡ false
    → told (decided run repo (parts p before) x) ≡ Some (Done done)
    → IsDoneIn run (items_of p (items_in (x ∷ before))) (parts p before) done
done_now run repo p x before done own here is =
    let ran = told_done (decided run repo (parts p before) x) done is in
    let ends = decides_closes run repo (parts p before) x (ran.0, done) ran.1 in
    record {
      front = items_of p (items_in before);
      mark = x.item;
      late = [];
      spelled = items_more p x before own;
      is_end = ends.1;
      same = open_parts p before here;
      before = repo;
      after = ran.0;
      answered = ends.2;
    }

end_adds : {A R D E : Type 0} (run : Running A R D E) (repo : R) (p : ℕ) (x : Taken A) (before : History A)
    (done : D) → told (decided run repo (parts p before) x) ≡ Some (Done done)
    → parts p (x ∷ before) ≡ parts p before
end_adds run repo p x before done is =
    let ran = told_done (decided run repo (parts p before) x) done is in
    let ends = decides_closes run repo (parts p before) x (ran.0, done) ran.1 in
    end_parts p x before ends.1

done_step : {A R D E : Type 0} (run : Running A R D E) (repo : R) (p : ℕ) (x : Taken A) (before : History A)
    (old : Option (Outcome D E)) (done : D)
    → (old ≡ Some (Done done) → IsDoneIn run (items_of p (items_in before)) (parts p before) done)
    → (if is_of p x && not (is_closed p before) then told
    (decided run repo (parts p before) x) else old) ≡ Some (Done done)
    → IsDoneIn run (items_of p (items_in (x ∷ before))) (parts p (x ∷ before)) done
done_step {A} {R} {D} {E} run repo p x before old done ih is =
    let P : List (Part A) → Type 0 = λ ps. IsDoneIn run (items_of p (items_in (x ∷ before))) ps done in
    either_way (is_of p x)
    (λ t.
    either_way (is_closed p before)
    (λ c. subst P (sym (parts_stay p x before c))
    (done_late run (items_of p (items_in before)) _ x.item (parts p before) done
    (items_more p x before t) (ih (rw (t, c) at is))))
    (λ o. let now = rw (t, o) at is in
    subst P (sym (end_adds run repo p x before done now)) (done_now run repo p x before done t o now)))
    (λ f. let same : parts p (x ∷ before) ≡ parts p before = rw f in
    subst P (sym same) (done_same run (items_of p (items_in before)) _ (parts p before) done
    (items_same p x before f) (ih (rw f at is))))

pub done_in : {A R D E : Type 0} (run : Running A R D E) (first : R) (p : ℕ) (h : History A) (done : D)
    → outcome run first p h ≡ Some (Done done) → IsDoneIn run (items_of p (items_in h)) (parts p h) done
done_in run first p [] done is = cc
done_in run first p (x ∷ before) done is =
    done_step run (serial run first before).repo p x before (outcome run first p before) done
    (done_in run first p before done) is

-- ---- the put list of a push that is done

not_none : {A : Type 0} (xs : List (Item A)) (y : Item A) (ys : List (Item A)) → xs ++ y ∷ ys ≢ []
not_none xs y ys e = let n : length (xs ++ y ∷ ys) ≡ 0 = ap length e in
    omega (arith, n, length-append xs (y ∷ ys))

put_ends : {A : Type 0} (n : ℕ) (front : List (Item A)) (mark : Item A) (late : List (Item A))
    → IsPutList n (front ++ mark ∷ late) → is_mark mark.what ≡ true → (late ≡ [])
    × (mark.index ≡ n + length (all_parts front)) × (has_mark front ≡ false)
put_ends n [] mark late are is = (are.1 is, omega (arith, are.0), refl)
put_ends n (y ∷ front) mark late are is =
    let rest = put_ends (n + length (part_in y.what)) front mark late are.2 is in
    let count : length (all_parts (y ∷ front)) ≡ length (part_in y.what) + length (all_parts front) =
    length-append (part_in y.what) (all_parts front) in (
      rest.0,
      omega (arith, rest.1, count),
      either_way (is_mark y.what) (λ t. absurd (not_none front mark late (are.1 t))) (λ f. rw f rest.2),
    )

none_left : {A : Type 0} (xs ys : List (Item A)) → xs ++ ys ≡ [] → (xs ≡ []) × (ys ≡ [])
none_left [] ys e = (refl, e)
none_left (x ∷ xs) ys e = cc

-- where a history has the first items of a put list, and the push is done, it has the whole list
pub complete_of : {A R D E : Type 0} (run : Running A R D E) (first : R) (p : ℕ) (h : History A)
    (rest put : List (Item A)) (done : D) → items_of p (items_in h) ++ rest ≡ put → IsPutList 0 put
    → outcome run first p h ≡ Some (Done done) → (rest ≡ []) × IsComplete put (parts p h)
complete_of {A} run first p h rest put done begins list is =
    let d = done_in run first p h done is in
    let spelled : put ≡ d.front ++ d.mark ∷ (d.late ++ rest) = sym begins
    ∙ (ap (λ is. is ++ rest) d.spelled ∙ append_assoc d.front (d.mark ∷ d.late) rest) in
    let is_end : is_mark d.mark.what ≡ true = ap is_mark d.is_end in
    let ends = put_ends 0 d.front d.mark (d.late ++ rest) (subst (IsPutList 0) spelled list) is_end in
    let whole : put ≡ d.front ++ d.mark ∷ [] = spelled ∙ ap (λ l. d.front ++ d.mark ∷ l) ends.0 in
    let no_part : part_in d.mark.what ≡ [] = ap part_in d.is_end in
    let all : all_parts put ≡ parts p h =
    ap all_parts whole ∙ (all_parts-append d.front (d.mark ∷ [])
    ∙ (ap (λ ps. all_parts d.front ++ (ps ++ [])) no_part
    ∙ (append-nil (all_parts d.front) ∙ d.same))) in (
      (none_left d.late rest ends.0).1,
      record {
        parts = sym all;
        mark = record {
          front = d.front;
          mark = d.mark;
          spelled = whole;
          is_end = d.is_end;
          counts = omega (arith, ends.1);
          parts_alone = ends.2;
        };
      },
    )

complete : {A R D E : Type 0} (run : Running A R D E) (first : R) (p : ℕ) (w : World A) (done : D) → Sound w
    → PutLists w → outcome run first p w.history ≡ Some (Done done)
    → IsComplete (w.puts p) (parts p w.history)
complete run first p w done sound lists is =
    (complete_of run first p w.history (items_of p w.queue) (w.puts p) done
    (sym (items_of-append p (items_in w.history) w.queue) ∙ sound.once p) (lists p) is).1

pub all_complete : {A R D E : Type 0} (run : Running A R D E) (first : R) (capacity : ℕ) (es : List (Event A))
    (p : ℕ) (done : D) → outcome run first p (run_all es (start capacity)).history ≡ Some (Done done)
    → IsComplete ((run_all es (start capacity)).puts p) (parts p (run_all es (start capacity)).history)
all_complete run first capacity es p done is =
    complete run first p (run_all es (start capacity)) done (all_sound capacity es)
    (run_puts es (start capacity) (λ p. tt)) is

-- ---- a list in order is one that a sender puts

orderly_step : {A : Type 0} (k index : ℕ) (what : What A) (xs : List (Item A)) → index ≡ k
    → MatchBool (is_mark what) (xs ≡ []) (IsOrderly (k + 1) xs) → ((j : ℕ) → IsOrderly j xs → IsPutList j xs)
    → (index ≡ k) × (is_mark what ≡ true → xs ≡ []) × IsPutList (k + length (part_in what)) xs
orderly_step k index (a_part part) xs same rest more = (same, (λ h. cc), more (k + 1) rest)
orderly_step k index End xs same rest more = (same, (λ h. rest), subst (IsPutList (k + 0)) (sym rest) tt)
orderly_step k index (Cut reason) xs same rest more =
    (same, (λ h. rest), subst (IsPutList (k + 0)) (sym rest) tt)

pub orderly_list : {A : Type 0} (k : ℕ) (xs : List (Item A)) → IsOrderly k xs → IsPutList k xs
orderly_list k [] are = tt
orderly_list k (x ∷ xs) are = orderly_step k x.index x.what xs are.0 are.1 (λ j. orderly_list j xs)

pub whole_list : {A : Type 0} (items rest put : List (Item A)) → items ++ rest ≡ put → rest ≡ [] → items ≡ put
whole_list items rest put begins none = sym (append-nil items) ∙ (ap (λ r. items ++ r) (sym none) ∙ begins)
