-- How a run of device calls goes on.
use Rattle.std.proofs.Common.{inl, inr, ⊎_elim, ℕ, List, arith}
use Rattle.hg_store.specs.Device.{Elapses, LeavesOnly}

module _ {D : Type 0} (moment : D → ℕ) (left_since : D → ℕ → List ℕ → Type 0) where
  -- before the first call
  pub started : (old : D) (P : List ℕ → Type 0) → ((c : List ℕ) → left_since old (moment old) c → P c) → LeavesOnly moment left_since old old P
  started old P here = record { later = omega arith; each = here; before = λ t c le left. inl left }

  -- one call more, after which a crash leaves what has P
  pub goes_on : (old mid new : D) (P may_leave : List ℕ → Type 0) → LeavesOnly moment left_since old mid P → Elapses (moment mid) (moment new) (left_since mid) (left_since new) may_leave
      → ((c : List ℕ) → may_leave c → P c) → LeavesOnly moment left_since old new P
  goes_on old mid new P may_leave so_far time here = record {
    later = omega (arith, so_far.later, time.later);
    each = λ c left. ⊎_elim (so_far.each c) (here c) (time.nothing_else (moment old) c so_far.later left);
    before = λ t c le left. ⊎_elim (so_far.before t c le) (λ now. inr (here c now)) (time.nothing_else t c (omega (arith, le, so_far.later)) left);
  }

  -- one run after another
  pub one_behind : (old mid new : D) (P Q R : List ℕ → Type 0) → LeavesOnly moment left_since old mid P
      → LeavesOnly moment left_since mid new Q → ((c : List ℕ) → P c → R c) → ((c : List ℕ) → Q c → R c)
      → LeavesOnly moment left_since old new R
  one_behind old mid new P Q R first second p q = record {
    later = omega (arith, first.later, second.later);
    each = λ c left. ⊎_elim (λ before. p c (first.each c before)) (q c)
        (second.before (moment old) c first.later left);
    before = λ t c le left. ⊎_elim (λ before. ⊎_elim (λ past. inl past) (λ now. inr (p c now))
        (first.before t c le before)) (λ now. inr (q c now))
        (second.before t c (omega (arith, le, first.later)) left);
  }

  -- a run leaves what another says too
  pub weakly : (old new : D) (P R : List ℕ → Type 0) → LeavesOnly moment left_since old new P
      → ((c : List ℕ) → P c → R c) → LeavesOnly moment left_since old new R
  weakly old new P R run p = record {
    later = run.later;
    each = λ c left. p c (run.each c left);
    before = λ t c le left. ⊎_elim (λ past. inl past) (λ now. inr (p c now)) (run.before t c le left);
  }

  -- a call that leaves nothing else than before
  pub no_more : (old new : D) (P before now : List ℕ → Type 0)
      → ((c : List ℕ) → left_since old (moment old) c → before c) → ((c : List ℕ) → before c → P c)
      → Elapses (moment old) (moment new) (left_since old) (left_since new) now
      → ((c : List ℕ) → now c → before c) → LeavesOnly moment left_since old new P
  no_more old new P before now only_now here time less =
      goes_on old old new P now (started old P (λ c left. here c (only_now c left))) time
      (λ c left. here c (less c left))
