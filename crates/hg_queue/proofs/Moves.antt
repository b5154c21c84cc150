-- The steps, at a view that is known by an equation.
use Rattle.std.proofs.Common.{◌≡◌, ℕ, Bool, true, false, List, sym, subst}
use Rattle.crossbeam_queue.specs.Fifo.{Pushes, Pops, Forks, Merges}
use Rattle.hg_parts.specs.declared.item.Item.{Item}
use Rattle.hg_parts.specs.declared.item.Taken.{Taken}
use Rattle.hg_queue.specs.declared.view.Claim.{Claim}
use Rattle.hg_queue.specs.declared.view.TakerView.{TakerView}
use Rattle.hg_queue.specs.declared.view.PutterView.{PutterView}
use Rattle.hg_queue.specs.declared.view.View.{View}
use Rattle.hg_queue.specs.declared.view.View.TheVariants.{AsTaker, AsPutter, AsMarked, AsVisitor, Spent}
use Rattle.hg_queue.specs.History.{is_part, has}
use Rattle.hg_queue.specs.Rules.{Rule}
use Rattle.hg_queue.specs.code.Steps.{unsized, sized, noting, opened, put_by, Marks, counted_full, TakesOne}
use Rattle.hg_queue.specs.code.Steps.{counted_empty, settling, history_note, joined, heard}
use Rattle.hg_queue.proofs.Steps.{MayPut, sizes, puts, marks, counts_full, takes, counts_empty, settles}
use Rattle.hg_queue.proofs.SeatSteps.{opens, copies, dismisses, joins, notes, hears}

module _ {A : Type 0} where
  pub sizes_as : (port n : ℕ) (v : View A) → v ≡ unsized → Forks Rule port v (sized n v) Spent
  sizes_as port n v is = subst (λ (u : View A). Forks Rule port u (sized n u) Spent) (sym is) (sizes port n)

  pub opens_as : (port n : ℕ) (v : View A) (t : TakerView A) → v ≡ AsTaker t → has n t.noted ≡ false
      → Forks Rule port v (noting n v) (opened n v)
  opens_as port n v t is free =
      subst (λ (u : View A). Forks Rule port u (noting n u) (opened n u)) (sym is) (opens port n t free)

  pub puts_as : (capacity port : ℕ) (v : View A) (x : Item A) (p : PutterView A) → v ≡ AsPutter p
      → MayPut capacity p x → is_part x.what ≡ true → Pushes Rule capacity port v x (λ w. w ≡ put_by v x)
  puts_as capacity port v x p is may part =
      subst (λ (u : View A). Pushes Rule capacity port u x (λ w. w ≡ put_by u x)) (sym is)
      (puts capacity port p x may part)

  pub marks_as : (capacity port : ℕ) (v : View A) (x : Item A) (p : PutterView A) → v ≡ AsPutter p
      → MayPut capacity p x → is_part x.what ≡ false → Pushes Rule capacity port v x (Marks v x)
  marks_as capacity port v x p is may part =
      subst (λ (u : View A). Pushes Rule capacity port u x (Marks u x)) (sym is)
      (marks capacity port p x may part)

  pub counts_full_as : (port : ℕ) (v : View A) (p : PutterView A) → v ≡ AsPutter p
      → Forks Rule port v (counted_full v) Spent
  counts_full_as port v p is =
      subst (λ (u : View A). Forks Rule port u (counted_full u) Spent) (sym is) (counts_full port p)

  pub takes_as : (port : ℕ) (v : View A) (t : TakerView A) (refused : Bool) → v ≡ AsTaker t
      → Pops Rule port v (TakesOne refused v)
  takes_as port v t refused is =
      subst (λ (u : View A). Pops Rule port u (TakesOne refused u)) (sym is) (takes port t refused)

  pub counts_empty_as : (port : ℕ) (v : View A) (t : TakerView A) (refused : Bool) → v ≡ AsTaker t
      → Forks Rule port v (counted_empty refused v) Spent
  counts_empty_as port v t refused is =
      subst (λ (u : View A). Forks Rule port u (counted_empty refused u) Spent) (sym is)
      (counts_empty port t refused)

  pub settles_as : (port : ℕ) (v : View A) (t : TakerView A) (refused : Bool) → v ≡ AsTaker t
      → Forks Rule port v (settling refused v) (history_note refused v)
  settles_as port v t refused is =
      subst (λ (u : View A). Forks Rule port u (settling refused u) (history_note refused u)) (sym is)
      (settles port t refused)

  pub copies_as : (port other : ℕ) (v u : View A) (old new : List (Taken A)) → v ≡ AsVisitor old
      → u ≡ AsVisitor new → Merges Rule port v other u u Spent
  copies_as port other v u old new is are =
      subst (λ (y : View A × View A). Merges Rule port y.0 other y.1 y.1 Spent) (λ i. (sym is i, sym are i))
      (copies port other old new)

  pub joins_as : (port other : ℕ) (v u : View A) (t : TakerView A) (c : Claim A) → v ≡ AsTaker t
      → u ≡ AsMarked c → Merges Rule port v other u (joined v u) Spent
  joins_as port other v u t c is are =
      subst (λ (y : View A × View A). Merges Rule port y.0 other y.1 (joined y.0 y.1) Spent)
      (λ i. (sym is i, sym are i)) (joins port other t c)

  pub dismisses_as : (port other : ℕ) (v u : View A) (t : TakerView A) → v ≡ AsTaker t
      → Merges Rule port v other u v Spent
  dismisses_as port other v u t is =
      subst (λ (y : View A). Merges Rule port y other u y Spent) (sym is) (dismisses port other t u)

  pub notes_as : (port : ℕ) (v : View A) (h : List (Taken A)) → v ≡ AsVisitor h → Forks Rule port v v v
  notes_as port v h is = subst (λ (u : View A). Forks Rule port u u u) (sym is) (notes port h)

  pub hears_as : (port other : ℕ) (v u : View A) (t : TakerView A) (h : List (Taken A)) → v ≡ AsTaker t
      → u ≡ AsVisitor h → Merges Rule port v other u (heard v u) Spent
  hears_as port other v u t h is are =
      subst (λ (y : View A × View A). Merges Rule port y.0 other y.1 (heard y.0 y.1) Spent)
      (λ i. (sym is i, sym are i)) (hears port other t h)
