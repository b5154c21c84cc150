-- What a step at a tally makes of a seat's receipt.
use Rattle.std.proofs.Common.{◌≡◌, ◌++◌, ℕ, sym, ap, subst, refl, arith}
use Rattle.hg_commit.specs.declared.known.Known.{Known}
use Rattle.hg_commit.specs.Orders.{AreNumbered, Asks, Comes, HasGrown, promises_in}
use Rattle.hg_commit.specs.code.Tallies.{AreAmong, AskedAt, CameTo, receipt_of, Sees, united}

-- whoever saw the order has its promises there
pub saw_among : (v w : Known) → Sees v w → AreAmong w.promises (promises_in w.order)
saw_among v w s = subst (λ (u : Known). AreAmong u.promises (promises_in u.order)) (sym s.is) s.among

-- after it took in what another knew
pub united_promises : (v grant w : Known) → Sees (united v grant) w → w.promises ≡ v.promises ++ grant.promises
united_promises v grant w s = ap (λ u. u.promises) s.is

pub united_grows : (v grant w : Known) → Sees (united v grant) w → HasGrown (receipt_of v) (receipt_of w)
united_grows v grant w s =
    subst (λ (u : Known). HasGrown (receipt_of v) (receipt_of u)) (sym s.is)
    (record { promises = (grant.promises, refl); order = s.begins; came = omega arith })

-- a request came to it
pub comes_of : (v w : Known) (n : ℕ) → CameTo v n w → Comes (receipt_of v) (receipt_of w) n
comes_of v w n t = record {
  seat = t.seat;
  between = t.between;
  last = ap (λ u. u.order) t.is;
  number = ap (λ u. u.came) t.is;
  own = t.own;
  same = ap (λ u. u.promises) t.is;
  counts = t.counts;
}

pub came_spent : (v w : Known) (n : ℕ) → CameTo v n w → w.is_spent ≡ v.is_spent
came_spent v w n t = ap (λ u. u.is_spent) t.is

pub saw_spent : (v w : Known) → Sees v w → w.is_spent ≡ v.is_spent
saw_spent v w s = ap (λ u. u.is_spent) s.is

-- a beat was asked for at it
pub asks_of : (v w : Known) (n : ℕ) → AskedAt v n w → Asks (receipt_of v) (receipt_of w) n
asks_of v w n t = record {
  seat = t.seat;
  between = t.between;
  last = ap (λ u. u.order) t.is;
  number = ap (λ u. u.asked) t.is;
  own = t.own;
  same = ap (λ u. u.promises) t.is;
  came = ap (λ u. u.came) t.is;
  counts = t.counts;
}

pub asked_spent : (v w : Known) (n : ℕ) → AskedAt v n w → w.is_spent ≡ v.is_spent
asked_spent v w n t = ap (λ u. u.is_spent) t.is

-- whoever saw the order knows which write each promise was made after
pub saw_numbered : (v w : Known) → Sees v w → AreNumbered 0 0 w.order
saw_numbered v w s = subst (λ (u : Known). AreNumbered 0 0 u.order) (sym s.is) s.numbered
