-- Each kind of step that makes a seat, or makes one of two, keeps the rule.
use Rattle.std.proofs.Common.{◌≡◌, ◌≢◌, ◌⊎◌, ℕ, ◌<◌, Bool, true, false, true≢false}
use Rattle.std.proofs.Common.{List, [], ◌∷◌, ◌++◌, length, Some, set, refl, sym, ap, ◌∙◌}
use Rattle.std.proofs.Common.{subst, inl, inr, ⊎_elim, arith, length-append}
use Rattle.std.proofs.Math.ListN.{length-set}
use mathlib.Core.Option.{some}
use lib.ListN.{get_elem?}
use Rattle.crossbeam_queue.specs.Fifo.{Forks, Merges}
use Rattle.crossbeam_queue.proofs.Lists.{at_set, set_again}
use Rattle.hg_parts.specs.declared.item.Item.{Item}
use Rattle.hg_parts.specs.declared.item.Taken.{Taken}
use Rattle.hg_queue.specs.declared.view.Claim.{Claim}
use Rattle.hg_queue.specs.declared.view.TakerView.{TakerView}
use Rattle.hg_queue.specs.declared.view.View.{View}
use Rattle.hg_queue.specs.declared.view.View.TheVariants.{AsTaker, AsPutter, AsMarked, AsVisitor, Spent}
use Rattle.hg_queue.specs.History.{has}
use Rattle.hg_queue.specs.Rules.{World, whole, IsClaim, Kind, SeatFits, IsSound, AllFit, Rule}
use Rattle.hg_queue.specs.code.Steps.{noting, opened, joined, heard}
use Rattle.hg_queue.proofs.Lists.{same_or}
use Rattle.hg_queue.proofs.Lists.{has_here, has_more, has_less, has_split}
use Rattle.hg_queue.proofs.Lists.{within}
use Rattle.hg_queue.proofs.Steps.{seated, seated_new, seated_old, stepped, grown, new_spent, new_apart}
use Rattle.hg_queue.proofs.Steps.{longer, spent_not}

module _ {A : Type 0} where
  -- a new number is noted, and a new seat is its Putter

  abbrev with_number : World A → ℕ → ℕ → World A
  with_number w n new = record w { noted = n ∷ w.noted; seat = seated w.seat n new }

  not_it : (w : World A) (n p : ℕ) → has n w.noted ≡ false → has p w.noted ≡ true → p ≢ n
  not_it w n p free is e = true≢false (sym is ∙ ap (λ q. has q w.noted) e ∙ free)

  note_claim : (w : World A) (n new : ℕ) (all : List (Item A)) (c : Claim A) → IsClaim w all c
      → IsClaim (with_number w n new) all c
  note_claim w n new all c k =
      record {
        same = k.same;
        noted = has_more c.push n w.noted k.noted;
        mark = k.mark;
        at = k.at;
        mine = k.mine;
        marks = k.marks;
        ends = k.ends;
        near = k.near;
      }

  note_kind : (w : World A) (n new : ℕ) (all : List (Item A)) (j : ℕ) (u : View A) → has n w.noted ≡ false
      → j < new → j ≢ w.taker → Kind w all j u → Kind (with_number w n new) all j u
  note_kind w n new all j (AsTaker t) free old apart k = absurd (apart k.here)
  note_kind w n new all j (AsPutter v) free old apart k =
      record {
        seat = k.seat ∙ sym (seated_old w.seat n new v.push (not_it w n v.push free k.noted));
        noted = has_more v.push n w.noted k.noted;
        capacity = k.capacity;
        same = k.same;
        parts = k.parts;
      }
  note_kind w n new all j (AsMarked c) free old apart k = (
    k.0 ∙ sym (seated_old w.seat n new c.push (not_it w n c.push free k.1.noted)),
    note_claim w n new all c k.1,
  )
  note_kind w n new all j (AsVisitor h) free old apart k = record {
    seen = k.seen;
    apart = λ p is at. same_or p n
        (λ e. let s = seated_new w.seat n new p e in absurd (omega arith))
        (λ e. k.apart p (⊎_elim (λ (s : n ≡ p). absurd (e (sym s))) (λ (s : has p w.noted ≡ true). s)
        (has_split p n w.noted is)) (sym (seated_old w.seat n new p e) ∙ at));
  }
  note_kind w n new all j Spent free old apart k = k

  note_fits : (w : World A) (n new : ℕ) (items : List (Item A)) (seats : ℕ) (j : ℕ) (u : View A)
      → has n w.noted ≡ false → IsSound w items seats → Kind (with_number w n new) (whole w items) j u
      → SeatFits w (whole w items) j u → SeatFits (with_number w n new) (whole w items) j u
  note_fits w n new items seats j u free so kind f =
      record {
        kind = kind;
        spent = λ p is e. f.spent p is
            (sym (seated_old w.seat n new p (not_it w n p free (so.joined p is))) ∙ e);
      }

  note_sound : (w : World A) (n : ℕ) (items : List (Item A)) (seats seats' : ℕ) → has n w.noted ≡ false
      → seats < seats' → IsSound w items seats → IsSound (with_number w n seats) items seats'
  note_sound w n items seats seats' free more so = record {
    room = so.room;
    unnoted = λ p none. so.unnoted p (has_less p n w.noted none).1;
    orderly = so.orderly;
    made = λ p is. same_or p n
        (λ e. let s = seated_new w.seat n seats p e in omega arith)
        (λ e. let s = seated_old w.seat n seats p e in let m = so.made p (old p is e) in omega arith);
    apart = λ p q is isn e. same_or p n
        (λ a. same_or q n
        (λ b. a ∙ sym b)
        (λ b. let s = seated_new w.seat n seats p a in let t = seated_old w.seat n seats q b in
        let m = so.made q (old q isn b) in absurd (omega arith)))
        (λ a. same_or q n
        (λ b. let s = seated_old w.seat n seats p a in let t = seated_new w.seat n seats q b in
        let m = so.made p (old p is a) in absurd (omega arith))
        (λ b. so.apart p q (old p is a) (old q isn b) (sym (seated_old w.seat n seats p a)
        ∙ (e ∙ seated_old w.seat n seats q b))));
    joined = λ p is. has_more p n w.noted (so.joined p is);
    once = so.once;
  }
    where
      old : (p : ℕ) → has p (n ∷ w.noted) ≡ true → p ≢ n → has p w.noted ≡ true
      old p is e = ⊎_elim (λ (s : n ≡ p). absurd (e (sym s))) (λ (s : has p w.noted ≡ true). s)
          (has_split p n w.noted is)

  pub opens : (port n : ℕ) (t : TakerView A) → has n t.noted ≡ false
      → Forks Rule port (AsTaker t) (noting n (AsTaker t)) (opened n (AsTaker t))
  opens port n t free' items views h at =
      let w = h.0 in
      let f = h.2 port (AsTaker t) at in
      let k = f.kind in
      let so = h.1 in
      let free : has n w.noted ≡ false = ap (has n) (sym k.noted) ∙ free' in
      let new = length views in
      let w' = with_number w n new in
      let all = whole w items in
      let l = noting n (AsTaker t) in
      let r = opened n (AsTaker t) in
      let vs = set views port l in
      let ends : length vs ≡ new = length-set views port l in
      let mine : Kind w' all port l = record {
        here = k.here;
        capacity = k.capacity;
        settled = k.settled;
        last = k.last;
        noted = ap (λ ns. n ∷ ns) k.noted;
        joined = k.joined;
        awaited = (λ c is. note_claim w n new all c (k.awaited c is));
        heard = k.heard;
      } in
      let fit : AllFit w' all vs = stepped w' all views port l
      (record {
        kind = mine;
        spent = λ p is e.
            absurd (taker_not (f.spent p is
            (sym (seated_old w.seat n new p (not_it w n p free (so.joined p is))) ∙ e)));
      })
      (λ j u apart e. note_fits w n new items (length views) j u free so
      (note_kind w n new all j u free (within views j u e) (λ s. apart (s ∙ sym k.here))
      (h.2 j u e).kind) (h.2 j u e)) in
      let theirs : Kind w' all (length vs) r = record {
        seat = ends ∙ sym (seated_new w.seat n new n refl);
        noted = has_here n w.noted;
        capacity = k.capacity;
        same = sym (so.unnoted n free);
        parts = tt;
      } in (
        w',
        note_sound w n items new (length (vs ++ r ∷ [])) free (omega (arith, length-append vs (r ∷ []))) so,
        grown w' all vs r fit (record {
          kind = theirs;
          spent = λ p is e. new_spent w items new r so p is
              (sym (seated_old w.seat n new p (not_it w n p free (so.joined p is))) ∙ (e ∙ ends));
        }),
      )
    where
      taker_not : {u : TakerView A} → AsTaker u ≡ Spent → ⊥
      taker_not e = cc

  -- two seats become one: the first takes in the other's view

  merged : (w : World A) (all : List (Item A)) (views : List (View A)) (port : ℕ) (v both : View A)
      (other : ℕ) → AllFit w all views → ((j : ℕ) (u : View A) → get_elem? views j ≡ some u → SeatFits w all j u)
      → SeatFits w all port both → AllFit w all (set (set views port both) other Spent)
  merged w all views port v both other fit old mine =
      stepped w all (set views port both) other Spent (record { kind = tt; spent = λ p is e. refl })
      (λ j u apart e. stepped w all views port both mine (λ i y n e'. old i y e') j u e)

  -- the view of the other seat, before the first one's changed
  was_there : (views : List (View A)) (port other : ℕ) (both u : View A) → (other ≡ port → ⊥)
      → get_elem? (set views port both) other ≡ some u → get_elem? views other ≡ some u
  was_there views port other both u apart there =
      ⊎_elim (λ (t : (other ≡ port) × (both ≡ u)). absurd (apart t.0))
      (λ (t : (other ≢ port) × (get_elem? views other ≡ some u)). t.1)
      (at_set views port other both u there)

  long_twice : (views : List (View A)) (port other : ℕ) (both : View A)
      → length (set (set views port both) other Spent) ≡ length views
  long_twice views port other both = length-set (set views port both) other Spent ∙ length-set views port both

  pub copies : (port other : ℕ) (old new : List (Taken A))
      → Merges Rule port (AsVisitor old) other (AsVisitor new) (AsVisitor new) Spent
  copies port other old new items views h at apart there =
      let w = h.0 in
      let f = h.2 port (AsVisitor old) at in
      let g = h.2 other (AsVisitor new)
      (was_there views port other (AsVisitor new) (AsVisitor new) apart there) in
      let long = long_twice views port other (AsVisitor new) in (
        w,
        longer w items (length views) (length (set (set views port (AsVisitor new)) other Spent))
            (omega arith) h.1,
        merged w (whole w items) views port (AsVisitor old) (AsVisitor new) other h.2 h.2
            (record {
              kind = record { seen = g.kind.seen; apart = f.kind.apart };
              spent = spent_not w (whole w items) port (AsVisitor old) (λ e. cc) f (AsVisitor new);
            }),
      )

  pub dismisses : (port other : ℕ) (t : TakerView A) (u : View A)
      → Merges Rule port (AsTaker t) other u (AsTaker t) Spent
  dismisses port other t u items views h at apart there =
      let w = h.0 in
      let long = long_twice views port other (AsTaker t) in (
        w,
        longer w items (length views) (length (set (set views port (AsTaker t)) other Spent))
            (omega arith) h.1,
        merged w (whole w items) views port (AsTaker t) (AsTaker t) other h.2 h.2 (h.2 port (AsTaker t) at),
      )

  -- the Taker takes in a Marked

  abbrev with_joined : World A → ℕ → World A
  with_joined w n = record w { joined = n ∷ w.joined }

  join_claim : (w : World A) (n : ℕ) (all : List (Item A)) (c : Claim A) → IsClaim w all c
      → IsClaim (with_joined w n) all c
  join_claim w n all c k =
      record {
        same = k.same;
        noted = k.noted;
        mark = k.mark;
        at = k.at;
        mine = k.mine;
        marks = k.marks;
        ends = k.ends;
        near = k.near;
      }

  join_kind : (w : World A) (n : ℕ) (all : List (Item A)) (j : ℕ) (u : View A) → j ≢ w.taker → Kind w all j u
      → Kind (with_joined w n) all j u
  join_kind w n all j (AsTaker t) apart k = absurd (apart k.here)
  join_kind w n all j (AsPutter v) apart k =
      record { seat = k.seat; noted = k.noted; capacity = k.capacity; same = k.same; parts = k.parts }
  join_kind w n all j (AsMarked c) apart k = (k.0, join_claim w n all c k.1)
  join_kind w n all j (AsVisitor h) apart k = record { seen = k.seen; apart = k.apart }
  join_kind w n all j Spent apart k = k

  pub joins : (port other : ℕ) (t : TakerView A) (c : Claim A)
      → Merges Rule port (AsTaker t) other (AsMarked c) (joined (AsTaker t) (AsMarked c)) Spent
  joins port other t c items views h at apart there =
      let w = h.0 in
      let all = whole w items in
      let both = joined (AsTaker t) (AsMarked c) in
      let f = h.2 port (AsTaker t) at in
      let k = f.kind in
      let m = (h.2 other (AsMarked c) (was_there views port other both (AsMarked c) apart there)).kind in
      let w' = with_joined w c.push in
      let vs = set (set views port both) other Spent in
      let long = long_twice views port other both in
      let so = h.1 in
      let seat : (p : ℕ) → has p (c.push ∷ w.joined) ≡ true → (w.seat p ≡ other)
      ⊎ (has p w.joined ≡ true) = λ p is. ⊎_elim (λ (s : c.push ≡ p). inl (sym (ap w.seat s) ∙ sym m.0))
      (λ (s : has p w.joined ≡ true). inr s) (has_split p c.push w.joined is) in
      let known : (d : Claim A) → Some c ≡ Some d
      → IsClaim w' all d = λ d is. subst (IsClaim w' all) (some_same is)
      (join_claim w c.push all c m.1) in
      let mine : Kind w' all port both = record {
        here = k.here;
        capacity = k.capacity;
        settled = k.settled;
        last = k.last;
        noted = k.noted;
        joined = ap (λ ns. c.push ∷ ns) k.joined;
        awaited = known;
        heard = k.heard;
      } in (
        w',
        record {
          room = so.room;
          unnoted = so.unnoted;
          orderly = so.orderly;
          made = λ p is. (let r = so.made p is in omega arith);
          apart = so.apart;
          joined = λ p is. ⊎_elim (λ (s : c.push ≡ p). ap (λ q. has q w.noted) (sym s) ∙ m.1.noted)
              (λ (s : has p w.joined ≡ true). so.joined p s) (has_split p c.push w.joined is);
          once = (first_time (has c.push w.joined) refl, so.once);
        },
        stepped w' all (set views port both) other Spent (record { kind = tt; spent = λ p is e. refl })
            (λ j u other' e. stepped' w' all views port both other mine
            (λ p is e'. ⊎_elim (λ (s : w.seat p ≡ other). absurd (apart (sym s ∙ e')))
            (λ (s : has p w.joined ≡ true). spent_not w all port (AsTaker t) (λ x. cc) f both p s e')
            (seat p is))
            (λ i y n there' e'. record {
              kind = join_kind w c.push all i y (λ s. n (s ∙ sym k.here))
                  (h.2 i y e').kind;
              spent = λ p is at'.
                  ⊎_elim (λ (s : w.seat p ≡ other). absurd (there' (sym at' ∙ s)))
                  (λ (s : has p w.joined ≡ true). (h.2 i y e').spent p s at') (seat p is);
            })
            j u other' e),
      )
    where
      some_same : {d : Claim A} → Some c ≡ Some d → c ≡ d
      some_same e = cc

      marked_not : AsMarked c ≡ Spent → ⊥
      marked_not e = cc

      first_time : (b : Bool) → has c.push (h.0).joined ≡ b → has c.push (h.0).joined ≡ false
      first_time false is = is
      first_time true is = let old = h.2 other (AsMarked c)
          (was_there views port other (joined (AsTaker t) (AsMarked c)) (AsMarked c) apart there) in
          absurd (marked_not (old.spent c.push is (sym old.kind.0)))

      -- away from the other seat
      stepped' : (w : World A) (all : List (Item A)) (views : List (View A)) (port : ℕ) (v : View A)
          (other : ℕ) → Kind w all port v → ((p : ℕ) → has p w.joined ≡ true → w.seat p ≡ port → v ≡ Spent)
          → ((j : ℕ) (u : View A) → j ≢ port → j ≢ other → get_elem? views j ≡ some u → SeatFits w all j u)
          → (j : ℕ) (u : View A) → j ≢ other → get_elem? (set views port v) j ≡ some u → SeatFits w all j u
      stepped' w all views port v other kind spent others j u away e =
          ⊎_elim
          (λ (x : (j ≡ port) × (v ≡ u)). subst (λ (y : ℕ × View A). SeatFits w all y.0 y.1)
          (λ i. (sym x.0 i, x.1 i)) (record { kind = kind; spent = spent }))
          (λ (x : (j ≢ port) × (get_elem? views j ≡ some u)). others j u x.0 away x.1)
          (at_set views port j v u e)

  -- a note of what a Visitor has seen

  pub notes : (port : ℕ) (h : List (Taken A)) → Forks Rule port (AsVisitor h) (AsVisitor h) (AsVisitor h)
  notes port l items views h at =
      let v = AsVisitor l in
      let same : set views port v ≡ views = set_again views port v at in
      subst (λ vs. Rule items (vs ++ v ∷ [])) (sym same) (
        h.0,
        longer h.0 items (length views) (length (views ++ v ∷ []))
            (omega (arith, length-append views (v ∷ []))) h.1,
        grown h.0 (whole h.0 items) views v h.2
            (record {
              kind = record {
                seen = (h.2 port v at).kind.seen;
                apart = new_apart h.0 items (length views) h.1;
              };
              spent = new_spent h.0 items (length views) v h.1;
            }),
      )

  pub hears : (port other : ℕ) (t : TakerView A) (l : List (Taken A))
      → Merges Rule port (AsTaker t) other (AsVisitor l) (heard (AsTaker t) (AsVisitor l)) Spent
  hears port other t l items views h at apart there =
      let w = h.0 in
      let both = heard (AsTaker t) (AsVisitor l) in
      let f = h.2 port (AsTaker t) at in
      let k = f.kind in
      let g = h.2 other (AsVisitor l) (was_there views port other both (AsVisitor l) apart there) in
      let long = long_twice views port other both in (
        w,
        longer w items (length views) (length (set (set views port both) other Spent)) (omega arith) h.1,
        merged w (whole w items) views port (AsTaker t) both other h.2 h.2
            (record {
              kind = record {
                here = k.here;
                capacity = k.capacity;
                settled = k.settled;
                last = k.last;
                noted = k.noted;
                joined = k.joined;
                awaited = k.awaited;
                heard = g.kind.seen;
              };
              spent = spent_not w (whole w items) port (AsTaker t)
                  (λ e. cc) f both;
            }),
      )
