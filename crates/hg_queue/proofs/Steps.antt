-- Each kind of step keeps the rule: those of a Putter and of the Taker.
use Rattle.std.proofs.Common.{◌≡◌, ◌≢◌, ℕ, zero, suc, ◌+◌, ◌<◌, ◌≤◌, ◌==◌, Bool, true, false, true≢false}
use Rattle.std.proofs.Common.{List, [], ◌∷◌, ◌++◌, length, Some, None, Option, cond, set, refl, sym, ap, ◌∙◌}
use Rattle.std.proofs.Common.{subst, ⊎_elim, arith, append_assoc, length-append, eq-eqb, ne_eqb}
use Rattle.std.specs.Prelude.{option_to_list}
use Rattle.std.proofs.Math.ListN.{length-set}
use mathlib.Core.Option.{some, some-injective, some-ne-none}
use mathlib.Core.List.{IsPrefix}
use lib.ListN.{get_elem?}
use Rattle.crossbeam_queue.specs.Fifo.{Pushes, Pops, Forks, Learns}
use Rattle.crossbeam_queue.proofs.Lists.{at_set, set_again, set_here}
use Rattle.hg_parts.specs.declared.item.Item.{Item}
use Rattle.hg_parts.specs.declared.item.Taken.{Taken}
use Rattle.hg_queue.specs.declared.view.Claim.{Claim}
use Rattle.hg_queue.specs.declared.view.TakerView.{TakerView}
use Rattle.hg_queue.specs.declared.view.PutterView.{PutterView}
use Rattle.hg_queue.specs.declared.view.View.{View}
use Rattle.hg_queue.specs.declared.view.View.TheVariants.{AsTaker, AsPutter, AsMarked, AsVisitor, Spent}
use Rattle.hg_queue.specs.History.{is_part, of, has, AllParts, IsOrderly, IsDistinct}
use Rattle.hg_queue.specs.Rules.{World, log_of, whole, IsClaim, Kind, SeatFits, IsSound, AllFit, Rule, Stands}
use Rattle.hg_queue.specs.Seats.{settle}
use Rattle.hg_queue.specs.code.Steps.{unsized, sized, put_by, claim, Marks, counted_full}
use Rattle.hg_queue.specs.code.Steps.{settled_view, took, TakesOne, counted_empty, settling, history_note}
use Rattle.hg_queue.proofs.Lists.{same_or, of_mine, of_other, of_nobody, parts_more, parts_end, orderly_more}
use Rattle.hg_queue.proofs.Lists.{get_end, get_front, items_settle}
use Rattle.hg_queue.proofs.Lists.{prefix_longer, at_new, within}

-- a seat is noted for one number more
abbrev pub seated : (ℕ → ℕ) → ℕ → ℕ → ℕ → ℕ
seated seat n new q = cond (q == n) new (seat q)

pub seated_new : (seat : ℕ → ℕ) (n new q : ℕ) → q ≡ n → seated seat n new q ≡ new
seated_new seat n new q e = ap (λ (b : Bool). cond b new (seat q)) (eq-eqb q n e)

pub seated_old : (seat : ℕ → ℕ) (n new q : ℕ) → q ≢ n → seated seat n new q ≡ seat q
seated_old seat n new q e = ap (λ (b : Bool). cond b new (seat q)) (ne_eqb q n e)

module _ {A : Type 0} where
  -- the views after one seat's view changed
  pub stepped : (w : World A) (all : List (Item A)) (views : List (View A)) (port : ℕ) (v : View A)
      → SeatFits w all port v → ((j : ℕ) (u : View A) → j ≢ port → get_elem? views j ≡ some u → SeatFits w all j u)
      → AllFit w all (set views port v)
  stepped w all views port v mine others j u e =
      ⊎_elim
      (λ (x : (j ≡ port) × (v ≡ u)). subst (λ (y : ℕ × View A). SeatFits w all y.0 y.1)
      (λ i. (sym x.0 i, x.1 i)) mine)
      (λ (x : (j ≢ port) × (get_elem? views j ≡ some u)). others j u x.0 x.1)
      (at_set views port j v u e)

  -- the views with a new seat
  pub grown : (w : World A) (all : List (Item A)) (views : List (View A)) (r : View A) → AllFit w all views
      → SeatFits w all (length views) r → AllFit w all (views ++ r ∷ [])
  grown w all views r old new j u e =
      ⊎_elim
      (λ (x : get_elem? views j ≡ some u). old j u x)
      (λ (x : (j ≡ length views) × (r ≡ u)). subst (λ (y : ℕ × View A). SeatFits w all y.0 y.1)
      (λ i. (sym x.0 i, x.1 i)) new)
      (at_new views r u j e)

  -- a new seat is nobody's noted seat
  pub new_spent : (w : World A) (items : List (Item A)) (n : ℕ) (v : View A) → IsSound w items n → (p : ℕ)
      → has p w.joined ≡ true → w.seat p ≡ n → v ≡ Spent
  new_spent w items n v so p is at = let m = so.made p (so.joined p is) in absurd (omega arith)

  -- and it is noted for no push
  pub new_apart : (w : World A) (items : List (Item A)) (n : ℕ) → IsSound w items n → (p : ℕ)
      → has p w.noted ≡ true → w.seat p ≢ n
  new_apart w items n so p is at = let m = so.made p is in absurd (omega arith)

  abbrev start : World A
  start = record {
    capacity = 0;
    settled = [];
    last = None;
    noted = [];
    joined = [];
    seat = λ _. 0;
    taker = 0;
  }

  pub begins : Rule {A = A} [] (unsized ∷ [])
  begins = (
    start,
    record {
      room = omega arith;
      unnoted = λ p _. refl;
      orderly = λ p. tt;
      made = λ p is. absurd (true≢false (sym is));
      apart = λ p q is _ _. absurd (true≢false (sym is));
      joined = λ p is. is;
      once = tt;
    },
    one,
  )
    where
      one : AllFit start [] (unsized ∷ [])
      one zero v e = subst (SeatFits start [] 0) (some-injective _ _ e)
          (record {
            kind = record {
              here = refl;
              capacity = refl;
              settled = refl;
              last = refl;
              noted = refl;
              joined = refl;
              awaited = (λ c is. absurd cc);
              heard = ([], refl);
            };
            spent = λ p is. absurd (true≢false (sym is));
          })
      one (suc j) v e = absurd (some-ne-none v (sym e))

  -- the lists of the same length
  pub longer : (w : World A) (items : List (Item A)) (m n : ℕ) → m ≤ n → IsSound w items m → IsSound w items n
  longer w items m n le so =
      record {
        room = so.room;
        unnoted = so.unnoted;
        orderly = so.orderly;
        made = λ p is. (let h = so.made p is in omega arith);
        apart = so.apart;
        joined = so.joined;
        once = so.once;
      }

  pub spent_not : (w : World A) (all : List (Item A)) (port : ℕ) (v : View A) → (v ≡ Spent → ⊥)
      → SeatFits w all port v → (u : View A) → (p : ℕ) → has p w.joined ≡ true → w.seat p ≡ port → u ≡ Spent
  spent_not w all port v not f u p is at = absurd (not (f.spent p is at))

  pub looks : (port : ℕ) (v : View A) → Learns Rule port v (Stands v)
  looks port v items views h at = (views, port, h, at)

  pub seats : (port : ℕ) (v : View A) → Forks Rule port v v (AsVisitor [])
  seats port v items views h at =
      let same : set views port v ≡ views = set_again views port v at in
      subst (λ l. Rule items (l ++ AsVisitor [] ∷ [])) (sym same) (
        h.0,
        longer h.0 items (length views) (length (views ++ AsVisitor [] ∷ []))
            (omega (arith, length-append views (AsVisitor [] ∷ []))) h.1,
        grown h.0 (whole h.0 items) views (AsVisitor []) h.2
            (record {
              kind = record {
                seen = (h.0.settled, refl);
                apart = new_apart h.0 items (length views) h.1;
              };
              spent = new_spent h.0 items (length views) (AsVisitor []) h.1;
            }),
      )

  -- no push was noted, so nothing was put
  nothing : (w : World A) (items : List (Item A)) (n : ℕ) → IsSound w items n → w.noted ≡ []
      → whole w items ≡ []
  nothing w items n so none = of_nobody (whole w items) (λ p. so.unnoted p (ap (has p) none))

  no_note : (w : World A) (p : ℕ) → w.noted ≡ [] → has p w.noted ≡ true → ⊥
  no_note w p none is = true≢false (sym is ∙ ap (has p) none)

  append_last : (xs ys : List (Item A)) → xs ++ ys ≡ [] → ys ≡ []
  append_last [] ys e = e
  append_last (x ∷ xs) ys e = absurd cc

  sized_kind : (w : World A) (n : ℕ) (all : List (Item A)) (j : ℕ) (u : View A) → w.noted ≡ [] → j ≢ w.taker
      → Kind w all j u → Kind (record w { capacity = n }) all j u
  sized_kind w n all j (AsTaker t) none apart k = absurd (apart k.here)
  sized_kind w n all j (AsPutter v) none apart k = absurd (no_note w v.push none k.noted)
  sized_kind w n all j (AsMarked c) none apart k = absurd (no_note w c.push none k.1.noted)
  sized_kind w n all j (AsVisitor h) none apart k =
      record { seen = k.seen; apart = λ p is. absurd (no_note w p none is) }
  sized_kind w n all j Spent none apart k = k

  pub sizes : (port n : ℕ) → Forks (Rule {A = A}) port unsized (sized n unsized) Spent
  sizes port n items views h at =
      let w = h.0 in
      let mine = h.2 port unsized at in
      let none : w.noted ≡ [] = sym mine.kind.noted in
      let empty : items ≡ [] = append_last (log_of w) items (nothing w items (length views) h.1 none) in
      let w' : World A = record w { capacity = n } in
      let vs = set views port (sized n unsized) in
      let long : length vs ≡ length views = length-set views port (sized n unsized) in
      let m = mine.kind in (
        w',
        record {
          room = subst (λ (l : List (Item A)). length l ≤ n) (sym empty) (omega arith);
          unnoted = h.1.unnoted;
          orderly = h.1.orderly;
          made = λ p is. absurd (no_note w p none is);
          apart = h.1.apart;
          joined = h.1.joined;
          once = h.1.once;
        },
        grown w' (whole w items) vs Spent
            (stepped w' (whole w items) views port (sized n unsized)
            (record {
              kind = record {
                here = m.here;
                capacity = refl;
                settled = m.settled;
                last = m.last;
                noted = m.noted;
                joined = m.joined;
                awaited = (λ c is. absurd cc);
                heard = (w.settled, refl);
              };
              spent = λ p is. absurd (no_note w p none (h.1.joined p is));
            })
            (λ j u apart e. let f = h.2 j u e in
            record {
              kind = sized_kind w n (whole w items) j u none
                  (λ s. apart (s ∙ sym m.here)) f.kind;
              spent = f.spent;
            }))
            (record { kind = tt; spent = λ p is. absurd (no_note w p none (h.1.joined p is)) }),
      )

  -- a put of one item x of the push p by its Putter

  grow_claim : (w : World A) (all : List (Item A)) (x : Item A) (c : Claim A) → x.push ≢ c.push
      → IsClaim w all c → IsClaim w (all ++ x ∷ []) c
  grow_claim w all x c other k = record {
    same = k.same ∙ sym (of_other c.push all x other);
    noted = k.noted;
    mark = k.mark;
    at = get_front all (x ∷ []) c.place k.mark k.at;
    mine = k.mine;
    marks = k.marks;
    ends = k.ends;
    near = k.near;
  }

  -- a claim is of another push than the one whose items are all parts
  other_claim : (w : World A) (all : List (Item A)) (x : Item A) (c : Claim A) → AllParts (of x.push all)
      → IsClaim w all c → x.push ≢ c.push
  other_claim w all x c parts k same = k.ends (subst AllParts (ap (λ p. of p all) same ∙ sym k.same) parts)

  put_kind : (w : World A) (all : List (Item A)) (x : Item A) (port : ℕ) (j : ℕ) (u : View A)
      → AllParts (of x.push all) → port ≡ w.seat x.push → j ≢ port → Kind w all j u
      → Kind w (all ++ x ∷ []) j u
  put_kind w all x port j (AsTaker t) parts seat apart k =
      record {
        here = k.here;
        capacity = k.capacity;
        settled = k.settled;
        last = k.last;
        noted = k.noted;
        joined = k.joined;
        awaited =
            (λ c is. grow_claim w all x c (other_claim w all x c parts (k.awaited c is)) (k.awaited c is));
        heard = k.heard;
      }
  put_kind w all x port j (AsPutter v) parts seat apart k =
      let other : x.push ≢ v.push = λ e. apart (k.seat ∙ sym (seat ∙ ap w.seat e)) in
      record {
        seat = k.seat;
        noted = k.noted;
        capacity = k.capacity;
        same = k.same
            ∙ sym (of_other v.push all x other);
        parts = k.parts;
      }
  put_kind w all x port j (AsMarked c) parts seat apart k =
      (k.0, grow_claim w all x c (other_claim w all x c parts k.1) k.1)
  put_kind w all x port j (AsVisitor h) parts seat apart k = k
  put_kind w all x port j Spent parts seat apart k = k

  put_sound : (w : World A) (items : List (Item A)) (n : ℕ) (x : Item A) → length items < w.capacity
      → has x.push w.noted ≡ true → AllParts (of x.push (whole w items))
      → x.index ≡ length (of x.push (whole w items)) → IsSound w items n → IsSound w (items ++ x ∷ []) n
  put_sound w items n x room is parts index so =
      let same : whole w (items ++ x ∷ []) ≡ whole w items ++ x
      ∷ [] = sym (append_assoc (log_of w) items (x ∷ [])) in
      record {
        room = omega (arith, length-append items (x ∷ []));
        unnoted = λ p none.
            let other : x.push ≢ p = λ e. true≢false (sym is ∙ ap (λ q. has q w.noted) e ∙ none) in
            ap (of p) same ∙ of_other p (whole w items) x other ∙ so.unnoted p none;
        orderly = λ p. same_or x.push p
            (λ e.
            let now : of p (whole w (items ++ x ∷ [])) ≡ of p (whole w items) ++ x ∷ [] = ap (of p) same
            ∙ of_mine p (whole w items) x e in
            let parts' : AllParts (of p (whole w items)) = subst
            (λ q. AllParts (of q (whole w items))) e parts in
            let index' : x.index ≡ length (of p (whole w items)) = index
            ∙ ap (λ q. length (of q (whole w items))) e in
            subst (IsOrderly 0) (sym now)
            (orderly_more 0 (of p (whole w items)) x (so.orderly p) parts' (omega arith)))
            (λ other. subst (IsOrderly 0) (sym (ap (of p) same ∙ of_other p (whole w items) x other))
            (so.orderly p));
        made = so.made;
        apart = so.apart;
        joined = so.joined;
        once = so.once;
      }

  -- the rule after x was put, and the seat's view became v'
  put_step : (w : World A) (items : List (Item A)) (views : List (View A)) (port : ℕ) (x : Item A)
      (v' : View A) → length items < w.capacity → port ≡ w.seat x.push → has x.push w.noted ≡ true
      → AllParts (of x.push (whole w items)) → x.index ≡ length (of x.push (whole w items))
      → IsSound w items (length views) → AllFit w (whole w items) views
      → SeatFits w (whole w items ++ x ∷ []) port v' → Rule (items ++ x ∷ []) (set views port v')
  put_step w items views port x v' room seat is parts index so fit mine =
      let same : whole w items ++ x
      ∷ [] ≡ whole w (items ++ x ∷ []) = append_assoc (log_of w) items (x ∷ []) in
      let long : length (set views port v') ≡ length views = length-set views port v' in (
        w,
        longer w (items ++ x ∷ []) (length views) (length (set views port v')) (omega arith)
            (put_sound w items (length views) x room is parts index so),
        subst (λ (l : List (Item A)). AllFit w l (set views port v')) same
            (stepped w (whole w items ++ x ∷ []) views port v' mine
            (λ j u apart e. let f = fit j u e in
            record {
              kind = put_kind w (whole w items) x port j u parts seat apart f.kind;
              spent = f.spent;
            })),
      )

  -- what a put asks of the Putter and of the item
  pub record MayPut (capacity : ℕ) (v : PutterView A) (x : Item A) : Type 0 where
    pub room : v.capacity ≡ capacity
    pub push : x.push ≡ v.push
    pub index : x.index ≡ length v.put

  pub puts : (capacity port : ℕ) (v : PutterView A) (x : Item A) → MayPut capacity v x → is_part x.what ≡ true
      → Pushes Rule capacity port (AsPutter v) x (λ w. w ≡ put_by (AsPutter v) x)
  puts capacity port v x may part items views room h at =
      let w = h.0 in
      let f = h.2 port (AsPutter v) at in
      let k = f.kind in
      let mine : of x.push (whole w items) ≡ v.put = ap (λ q. of q (whole w items)) may.push ∙ sym k.same in
      let now : v.put ++ x ∷ [] ≡ of v.push (whole w items ++ x ∷ []) = ap (λ (l : List (Item A)). l ++ x
      ∷ []) k.same ∙ sym (of_mine v.push (whole w items) x may.push) in
      let v' = put_by (AsPutter v) x in (
        v',
        put_step w items views port x v' (subst (λ n. length items < n) (sym may.room ∙ k.capacity) room)
            (k.seat ∙ ap w.seat (sym may.push)) (ap (λ q. has q w.noted) may.push ∙ k.noted)
            (subst AllParts (sym mine) k.parts) (may.index ∙ ap length (sym mine)) h.1 h.2
            (record {
              kind = record {
                seat = k.seat;
                noted = k.noted;
                capacity = k.capacity;
                same = now;
                parts = parts_more v.put x k.parts part;
              };
              spent = spent_not w (whole w items) port (AsPutter v) (λ e. cc) f v';
            }),
        refl,
      )

  pub marks : (capacity port : ℕ) (v : PutterView A) (x : Item A) → MayPut capacity v x
      → is_part x.what ≡ false → Pushes Rule capacity port (AsPutter v) x (Marks (AsPutter v) x)
  marks capacity port v x may part items views room h at =
      let w = h.0 in
      let f = h.2 port (AsPutter v) at in
      let k = f.kind in
      let all = whole w items in
      let mine : of x.push all ≡ v.put = ap (λ q. of q all) may.push ∙ sym k.same in
      let now : v.put ++ x ∷ [] ≡ of v.push (all ++ x ∷ []) = ap (λ (l : List (Item A)). l ++ x ∷ []) k.same
      ∙ sym (of_mine v.push all x may.push) in
      let place = length all in
      let room' : length items < w.capacity = subst (λ n. length items < n) (sym may.room
      ∙ k.capacity) room in
      let v' = AsMarked (claim v x place) in
      let ends : AllParts (v.put ++ x ∷ []) → ⊥ = λ p. true≢false (sym (parts_end v.put x p) ∙ part) in (
        v',
        put_step w items views port x v' room' (k.seat ∙ ap w.seat (sym may.push))
            (ap (λ q. has q w.noted) may.push ∙ k.noted) (subst AllParts (sym mine) k.parts) (may.index
            ∙ ap length (sym mine)) h.1 h.2
            (record {
              kind = (
                k.seat,
                record {
                  same = now;
                  noted = k.noted;
                  mark = x;
                  at = get_end all x;
                  mine = may.push;
                  marks = part;
                  ends = ends;
                  near = omega (arith, length-append (log_of w) items);
                },
              );
              spent = spent_not w all port (AsPutter v) (λ e. cc) f v';
            }),
        (place, refl),
      )

  -- the Taker's side after more was settled
  abbrev further : World A → List (Taken A) → Option (Item A) → World A
  further w s l = record w { settled = s; last = l }

  far_claim : (w : World A) (s : List (Taken A)) (l : Option (Item A)) (all : List (Item A)) (c : Claim A)
      → length (log_of w) ≤ length (log_of (further w s l)) → IsClaim w all c → IsClaim (further w s l) all c
  far_claim w s l all c long k =
      record {
        same = k.same;
        noted = k.noted;
        mark = k.mark;
        at = k.at;
        mine = k.mine;
        marks = k.marks;
        ends = k.ends;
        near = (let n = k.near in omega arith);
      }

  far_kind : (w : World A) (s : List (Taken A)) (l : Option (Item A)) (all : List (Item A)) (j : ℕ)
      (u : View A) → (more : List (Taken A)) → w.settled ++ more ≡ s
      → length (log_of w) ≤ length (log_of (further w s l)) → j ≢ w.taker → Kind w all j u
      → Kind (further w s l) all j u
  far_kind w s l all j (AsTaker t) more is long apart k = absurd (apart k.here)
  far_kind w s l all j (AsPutter v) more is long apart k =
      record { seat = k.seat; noted = k.noted; capacity = k.capacity; same = k.same; parts = k.parts }
  far_kind w s l all j (AsMarked c) more is long apart k = (k.0, far_claim w s l all c long k.1)
  far_kind w s l all j (AsVisitor h) more is long apart k =
      record { seen = subst (IsPrefix h) is (prefix_longer h w.settled more k.seen); apart = k.apart }
  far_kind w s l all j Spent more is long apart k = k

  -- the rule after the Taker took the item x, or none, and settled the refusal before
  far_fit : (w : World A) (t : TakerView A) (refused : Bool) (l : Option (Item A)) (empties : ℕ)
      (all : List (Item A)) (views : List (View A)) (port : ℕ) → AllFit w all views
      → get_elem? views port ≡ some (AsTaker t)
      → length (log_of w) ≤ length (log_of (further w (w.settled ++ settle w.last refused) l))
      → AllFit (further w (w.settled ++ settle w.last refused) l) all
      (set views port (AsTaker (record (settled_view refused t) { last = l; empties = empties })))
  far_fit w t refused l empties all views port fit at long =
      let f = fit port (AsTaker t) at in
      let k = f.kind in
      let w' = further w (w.settled ++ settle w.last refused) l in
      let v' = AsTaker (record (settled_view refused t) { last = l; empties = empties }) in
      stepped w' all views port v'
      (record {
        kind = record {
          here = k.here;
          capacity = k.capacity;
          settled = λ i. k.settled i ++ settle (k.last i) refused;
          last = refl;
          noted = k.noted;
          joined = k.joined;
          awaited = λ c is. far_claim w (w.settled ++ settle w.last refused) l all c long (k.awaited c is);
          heard = prefix_longer t.heard w.settled (settle w.last refused) k.heard;
        };
        spent = spent_not w all port (AsTaker t) (λ e. cc) f v';
      })
      (λ j u apart e. let g = fit j u e in
      record {
        kind = far_kind w (w.settled ++ settle w.last refused) l all j u
            (settle w.last refused) refl long (λ s. apart (s ∙ sym k.here)) g.kind;
        spent = g.spent;
      })

  far_sound : (w w' : World A) (items items' : List (Item A)) (m n : ℕ) → m ≤ n → w'.noted ≡ w.noted
      → w'.joined ≡ w.joined → w'.seat ≡ w.seat → w'.capacity ≡ w.capacity → length items' ≤ length items
      → whole w' items' ≡ whole w items → IsSound w items m → IsSound w' items' n
  far_sound w w' items items' m n le noted' joined' seat' capacity' fewer same so = record {
    room = (let r = so.room in omega arith);
    unnoted = λ p none. ap (of p) same ∙ so.unnoted p (ap (has p) (sym noted') ∙ none);
    orderly = λ p. subst (λ l. IsOrderly 0 (of p l)) (sym same) (so.orderly p);
    made = λ p is. (let r = so.made p (ap (has p) (sym noted') ∙ is) in
        let e = ap (λ (f : ℕ → ℕ). f p) seat' in omega arith);
    apart = λ p q is isn e. so.apart p q (ap (has p) (sym noted') ∙ is) (ap (has q) (sym noted') ∙ isn)
        (sym (ap (λ (f : ℕ → ℕ). f p) seat') ∙ (e ∙ ap (λ (f : ℕ → ℕ). f q) seat'));
    joined = λ p is. ap (has p) noted' ∙ so.joined p (ap (has p) (sym joined') ∙ is);
    once = subst IsDistinct (sym joined') so.once;
  }

  -- all items stay the same when the last refusal is settled
  taken_settled : (w : World A) (refused : Bool) (l : Option (Item A))
      → log_of (further w (w.settled ++ settle w.last refused) l) ≡ log_of w ++ option_to_list l
  taken_settled w refused l = ap (λ xs. xs ++ option_to_list l) (items_settle w.settled w.last refused)

  pub takes : (port : ℕ) (t : TakerView A) (refused : Bool)
      → Pops Rule port (AsTaker t) (TakesOne refused (AsTaker t))
  takes port t refused x items views h at =
      let w = h.0 in
      let w' = further w (w.settled ++ settle w.last refused) (Some x) in
      let now : log_of w' ≡ log_of w ++ x ∷ [] = taken_settled w refused (Some x) in
      let same : whole w' items ≡ whole w (x ∷ items) = ap (λ l. l ++ items) now
      ∙ append_assoc (log_of w) (x ∷ []) items in
      let long : length (log_of w) ≤ length (log_of w') = omega
      (arith, ap length now, length-append (log_of w) (x ∷ [])) in
      let v' = took refused (AsTaker t) x in
      let seats' : length (set views port v') ≡ length views = length-set views port v' in
      let stays : Rule items (set views port v') = (
        w',
        far_sound w w' (x ∷ items) items (length views) (length (set views port v'))
            (omega arith) refl refl refl refl (omega arith) same h.1,
        subst (λ (l : List (Item A)). AllFit w' l (set views port v')) (sym same)
            (far_fit w t refused (Some x) t.empties (whole w (x ∷ items)) views port h.2 at long),
      ) in (
        v',
        stays,
        (
          refl,
          (
            items,
            (set views port v', port, stays, set_here views port v' (within views port (AsTaker t) at)),
          ),
        ),
      )

  -- the refusal is settled, the count of empty takes becomes any, and there is a new seat
  far_fork : (port : ℕ) (t : TakerView A) (refused : Bool) (empties : ℕ) (r : View A)
      → ((w : World A) (all : List (Item A)) (j : ℕ) → t.settled ≡ w.settled → t.last ≡ w.last
      → ((p : ℕ) → has p w.noted ≡ true → w.seat p ≢ j)
      → Kind (further w (w.settled ++ settle w.last refused) None) all j r)
      → Forks Rule port (AsTaker t) (AsTaker (record (settled_view refused t) { empties = empties })) r
  far_fork port t refused empties r kind items views h at =
      let w = h.0 in
      let k = (h.2 port (AsTaker t) at).kind in
      let w' = further w (w.settled ++ settle w.last refused) None in
      let now : log_of w' ≡ log_of w ++ [] = taken_settled w refused None in
      let same : whole w' items ≡ whole w items = ap (λ l. l ++ items) now
      ∙ append_assoc (log_of w) [] items in
      let long : length (log_of w) ≤ length (log_of w') = omega
      (arith, ap length now, length-append (log_of w) []) in
      let v' = AsTaker (record (settled_view refused t) { empties = empties }) in
      let vs = set views port v' in
      let seats' : length (vs ++ r ∷ []) ≡ length views + 1 = omega
      (arith, length-append vs (r ∷ []), length-set views port v') in
      let so : IsSound w' items (length views) = far_sound w w' items items (length views) (length views)
      (omega arith) refl refl refl refl (omega arith) same h.1 in
      let ends : length vs ≡ length views = length-set views port v' in (
        w',
        longer w' items (length views) (length (vs ++ r ∷ [])) (omega arith) so,
        grown w' (whole w' items) vs r
            (subst (λ (l : List (Item A)). AllFit w' l vs) (sym same)
            (far_fit w t refused None empties (whole w items) views port h.2 at long))
            (record {
              kind = kind w (whole w' items) (length vs) k.settled k.last
                  (λ p is e. new_apart w items (length views) h.1 p is (e ∙ ends));
              spent = λ p is e. new_spent w' items (length views) r so p is (e ∙ ends);
            }),
      )

  pub counts_empty : (port : ℕ) (t : TakerView A) (refused : Bool)
      → Forks Rule port (AsTaker t) (counted_empty refused (AsTaker t)) Spent
  counts_empty port t refused = far_fork port t refused (t.empties + 1) Spent (λ w all j a b new. tt)

  pub settles : (port : ℕ) (t : TakerView A) (refused : Bool)
      → Forks Rule port (AsTaker t) (settling refused (AsTaker t)) (history_note refused (AsTaker t))
  settles port t refused =
      far_fork port t refused t.empties (history_note refused (AsTaker t))
      (λ w all j a b new. record { seen = ([], end _ ∙ (λ i. a i ++ settle (b i) refused)); apart = new })
    where
      end : (h : List (Taken A)) → h ++ [] ≡ h
      end [] = refl
      end (e ∷ h) = ap (λ l. e ∷ l) (end h)

  -- a put that found the queue full
  pub counts_full : (port : ℕ) (v : PutterView A)
      → Forks Rule port (AsPutter v) (counted_full (AsPutter v)) Spent
  counts_full port v items views h at =
      let w = h.0 in
      let f = h.2 port (AsPutter v) at in
      let k = f.kind in
      let v' = counted_full (AsPutter v) in
      let vs = set views port v' in
      let ends : length vs ≡ length views = length-set views port v' in (
        w,
        longer w items (length views) (length (vs ++ Spent ∷ []))
            (omega (arith, length-append vs (Spent ∷ []))) h.1,
        grown w (whole w items) vs Spent
            (stepped w (whole w items) views port v'
            (record {
              kind = record {
                seat = k.seat;
                noted = k.noted;
                capacity = k.capacity;
                same = k.same;
                parts = k.parts;
              };
              spent = spent_not w (whole w items) port (AsPutter v) (λ e. cc) f v';
            })
            (λ j u apart e. h.2 j u e))
            (record {
              kind = tt;
              spent = λ p is e. new_spent w items (length views) Spent h.1 p is (e
                  ∙ ends);
            }),
      )
