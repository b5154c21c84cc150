-- What every list of events keeps.
use Rattle.std.proofs.Common.{ℕ, Bool, true, false, ◌≡◌, ◌==◌, ◌||◌, ◌&&◌, ◌<◌, ◌≤◌, not, List, [], ◌∷◌, ◌++◌}
use Rattle.std.proofs.Common.{refl, sym, ◌∙◌, ap, subst, arith, append_assoc, length, length-append}
use Rattle.std.specs.List.{AllByRecursion}
use Rattle.std.proofs.lemmas.Bool.Decides.{nat_tests}
use Rattle.std.proofs.lemmas.List.{append-nil}
use Rattle.hg_parts.specs.declared.item.Item.{Item}
use Rattle.hg_parts.specs.declared.item.Taken.{Taken}
use Rattle.hg_parts.specs.declared.item.What.{What}
use Rattle.hg_push.specs.History.{History, IsHistory, is_mark, is_of, may_refuse}
use Rattle.hg_push.specs.World.{World, Event, start, happens, run_all, put, can_put, take_first, has_mark}
use Rattle.hg_push.specs.World.{has_opened, is_full, items_in, items_of, next_item}
use Rattle.hg_push.specs.World.Event.{Open, Put, Take}
use Rattle.hg_push.proofs.Trims.{either_way}

pub items_of-append : {A : Type 0} (p : ℕ) (xs ys : List (Item A)) → items_of p (xs ++ ys) ≡ items_of p xs
    ++ items_of p ys
items_of-append p [] ys = refl
items_of-append p (x ∷ xs) ys =
    either_way (x.push == p) (λ t. rw t (ap (λ is. x ∷ is) (items_of-append p xs ys)))
    (λ f. rw f (items_of-append p xs ys))

pub items_more : {A : Type 0} (p : ℕ) (x : Taken A) (before : History A) → is_of p x ≡ true
    → items_of p (items_in (x ∷ before)) ≡ items_of p (items_in before) ++ x.item ∷ []
items_more p x before own = items_of-append p (items_in before) (x.item ∷ []) ∙ rw own refl

pub items_same : {A : Type 0} (p : ℕ) (x : Taken A) (before : History A) → is_of p x ≡ false
    → items_of p (items_in (x ∷ before)) ≡ items_of p (items_in before)
items_same p x before other = items_of-append p (items_in before) (x.item ∷ [])
    ∙ rw other (append-nil (items_of p (items_in before)))

pub record Sound {A : Type 0} (w : World A) : Type 0 where
  pub once : (p : ℕ) → items_of p (items_in w.history ++ w.queue) ≡ w.puts p
  pub legal : IsHistory w.history

take_sound : {A : Type 0} (w : World A) (refused : Bool) (queue : List (Item A)) → queue ≡ w.queue → Sound w
    → Sound (take_first w refused queue)
take_sound w refused [] same sound = sound
take_sound w refused (item ∷ rest) same sound = record {
  once = λ p. ap (items_of p) (append_assoc (items_in w.history) (item ∷ []) rest
      ∙ ap (λ q. items_in w.history ++ q) same) ∙ sound.once p;
  legal = (λ t. grind (arith, t), sound.legal);
}

put_sound : {A : Type 0} (w : World A) (item : Item A) → Sound w → Sound (put w item)
put_sound w item sound = record {
  once = λ p. ap (items_of p) (sym (append_assoc (items_in w.history) w.queue (item ∷ [])))
      ∙ (items_of-append p (items_in w.history ++ w.queue) (item ∷ [])
      ∙ either_way (item.push == p) (λ t. rw (t, sound.once p))
      (λ f. rw (f, sound.once p) (append-nil (w.puts p))));
  legal = sound.legal;
}

pub happens_sound : {A : Type 0} (w : World A) (e : Event A) → Sound w → Sound (happens w e)
happens_sound w (Open p) sound =
    either_way (has_opened w p) (λ t. rw t sound)
    (λ f. rw f (record { once = sound.once; legal = sound.legal }))
happens_sound w (Put p what) sound =
    either_way (can_put w p) (λ t. rw t (put_sound w _ sound)) (λ f. rw f sound)
happens_sound w (Take refused) sound = take_sound w refused w.queue refl sound

pub run_sound : {A : Type 0} (es : List (Event A)) (w : World A) → Sound w → Sound (run_all es w)
run_sound [] w sound = sound
run_sound (e ∷ es) w sound = run_sound es (happens w e) (happens_sound w e sound)

pub all_sound : {A : Type 0} (capacity : ℕ) (es : List (Event A)) → Sound (run_all es (start capacity))
all_sound capacity es = run_sound es (start capacity) (record { once = λ p. refl; legal = tt })

-- ---- what the events do

own : (p : ℕ) → (p == p) ≡ true
own p = grind (arith, nat_tests)

pub open_opens : {A : Type 0} (w : World A) (p : ℕ) → has_opened (happens w (Open p)) p ≡ true
open_opens w p = either_way (has_opened w p) (λ t. rw t t) (λ f. rw f (rw (own p) refl))

no_marks : {A : Type 0} (items : List (Item A)) → AllByRecursion (λ item. is_mark item.what ≡ false) items
    → has_mark items ≡ false
no_marks [] all = refl
no_marks (x ∷ items) all = rw all.0 (no_marks items all.1)

roomy : {A : Type 0} (w : World A) → length w.queue < w.capacity → is_full w ≡ false
roomy w room = grind (arith, nat_tests)

all_three : (a b c : Bool) → a ≡ true → b ≡ false → c ≡ false → (a && not b && not c) ≡ true
all_three a b c ha hb hc = rw (ha, hb, hc) refl

pub put_queued : {A : Type 0} (w : World A) (p : ℕ) (what : What A) → has_opened w p ≡ true
    → AllByRecursion (λ item. is_mark item.what ≡ false) (w.puts p) → length w.queue < w.capacity
    → ((happens w (Put p what)).queue ≡ w.queue ++ next_item w p what ∷ [])
    × ((happens w (Put p what)).puts p ≡ w.puts p ++ next_item w p what ∷ [])
put_queued w p what opened none room =
    let can : can_put w p ≡ true = all_three (has_opened w p) (has_mark (w.puts p)) (is_full w) opened
    (no_marks (w.puts p) none) (roomy w room) in
    rw can (refl, rw (own p) refl)

stuffed : {A : Type 0} (w : World A) → w.capacity ≤ length w.queue → is_full w ≡ true
stuffed w full = grind (arith, nat_tests)

not_third : (a b c : Bool) → c ≡ true → (a && not b && not c) ≡ false
not_third a b c hc = grind (arith, hc)

pub put_full : {A : Type 0} (w : World A) (p : ℕ) (what : What A) → w.capacity ≤ length w.queue
    → happens w (Put p what) ≡ w
put_full w p what full =
    let cannot : can_put w p ≡ false = not_third (has_opened w p) (has_mark (w.puts p)) (is_full w)
    (stuffed w full) in
    rw cannot refl

pub take_taken : {A : Type 0} (w : World A) (item : Item A) (rest : List (Item A)) (refused : Bool)
    → w.queue ≡ item ∷ rest
    → ((happens w (Take refused)).queue ≡ rest)
    × ((happens w (Take refused)).history ≡ record {
      item = item;
      refused = refused
          && may_refuse w.history item;
    } ∷ w.history)
take_taken w item rest refused is = rw is (refl, refl)

-- ---- the queue keeps to its capacity, and only opened pushes have items

pub record Bounded {A : Type 0} (capacity : ℕ) (w : World A) : Type 0 where
  pub same : w.capacity ≡ capacity
  pub room : length w.queue ≤ capacity
  pub unopened : (p : ℕ) → has_opened w p ≡ false → w.puts p ≡ []

left_true : (a b c : Bool) → (a && not b && not c) ≡ true → (a ≡ true) × (c ≡ false)
left_true true false false may = (refl, refl)
left_true true false true may = cc
left_true true true c may = cc
left_true false b c may = cc

not_full : {A : Type 0} (w : World A) → is_full w ≡ false → length w.queue < w.capacity
not_full w room = grind (arith, nat_tests)

right_of : (a b : Bool) → (a || b) ≡ false → b ≡ false
right_of false b h = h
right_of true b h = cc

put_bounded : {A : Type 0} (capacity : ℕ) (w : World A) (p : ℕ) (what : What A) → can_put w p ≡ true
    → Bounded capacity w → Bounded capacity (put w (next_item w p what))
put_bounded capacity w p what may bounded =
    let both = left_true (has_opened w p) (has_mark (w.puts p)) (is_full w) may in
    let room = not_full w both.1 in
    record {
      same = bounded.same;
      room = omega (arith, room, bounded.same, length-append w.queue (next_item w p what ∷ []));
      unopened = λ q none.
          either_way (p == q)
          (λ t. let e : p ≡ q = grind (arith, nat_tests) in
          let h : has_opened w p ≡ false = subst (λ n. has_opened w n ≡ false) (sym e) none in cc)
          (λ f. rw f (bounded.unopened q none));
    }

take_bounded : {A : Type 0} (capacity : ℕ) (w : World A) (refused : Bool) (queue : List (Item A))
    → queue ≡ w.queue → Bounded capacity w → Bounded capacity (take_first w refused queue)
take_bounded capacity w refused [] same bounded = bounded
take_bounded capacity w refused (item ∷ rest) same bounded = record {
  same = bounded.same;
  room = omega (arith, ap length same, bounded.room);
  unopened = bounded.unopened;
}

happens_bounded : {A : Type 0} (capacity : ℕ) (w : World A) (e : Event A) → Bounded capacity w
    → Bounded capacity (happens w e)
happens_bounded capacity w (Open p) bounded =
    either_way (has_opened w p) (λ t. rw t bounded)
    (λ f. rw f (record {
      same = bounded.same;
      room = bounded.room;
      unopened = λ q none. bounded.unopened q (right_of (p == q) (has_opened w q) none);
    }))
happens_bounded capacity w (Put p what) bounded =
    either_way (can_put w p) (λ t. rw t (put_bounded capacity w p what t bounded)) (λ f. rw f bounded)
happens_bounded capacity w (Take refused) bounded = take_bounded capacity w refused w.queue refl bounded

run_bounded : {A : Type 0} (capacity : ℕ) (es : List (Event A)) (w : World A) → Bounded capacity w
    → Bounded capacity (run_all es w)
run_bounded capacity [] w bounded = bounded
run_bounded capacity (e ∷ es) w bounded =
    run_bounded capacity es (happens w e) (happens_bounded capacity w e bounded)

pub all_bounded : {A : Type 0} (capacity : ℕ) (es : List (Event A))
    → Bounded capacity (run_all es (start capacity))
all_bounded capacity es =
    run_bounded capacity es (start capacity)
    (record { same = refl; room = omega arith; unopened = λ p none. refl })
