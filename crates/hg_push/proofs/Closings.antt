-- The place that closed a push.
use Rattle.std.proofs.Common.{ℕ, Bool, true, false, ◌≡◌, ◌&&◌, ◌||◌, [], ◌∷◌, ◌++◌, refl, sym}
use Rattle.std.proofs.Common.{◌∙◌, ap, arith}
use Rattle.std.proofs.lemmas.Bool.Decides.{nat_tests}
use Rattle.hg_parts.specs.declared.item.Taken.{Taken}
use Rattle.hg_push.specs.History.{History, IsClosing, closes, is_closed, is_of}
use Rattle.hg_push.specs.Changed.{IsClosedAt}
use Rattle.hg_push.proofs.Trims.{either_way}
use Rattle.hg_push.proofs.Leaving.{closed_later, closing_closes}

later : {A : Type 0} (p : ℕ) (y : Taken A) (h : History A) → IsClosedAt p h → IsClosedAt p (y ∷ h)
later p y h at = record {
  late = y ∷ at.late;
  place = at.place;
  before = at.before;
  spelled = ap (λ b. y ∷ b) at.spelled;
  closing = at.closing;
}

both : (a b : Bool) → (a && b) ≡ true → (a ≡ true) × (b ≡ true)
both true b h = (refl, h)
both false b h = cc

now_shut : (was now : Bool) → (was || now) ≡ true → was ≡ false → now ≡ true
now_shut false now h o = h
now_shut true now h o = cc

same_push : {A : Type 0} (p : ℕ) (x : Taken A) → is_of p x ≡ true → x.item.push ≡ p
same_push p x t = grind (arith, nat_tests)

-- a closed push has a place that closed it
pub closed_at : {A : Type 0} (p : ℕ) (h : History A) → is_closed p h ≡ true → IsClosedAt p h
closed_at p [] shut = cc
closed_at p (x ∷ before) shut =
    either_way (is_closed p before)
    (λ c. later p x before (closed_at p before c))
    (λ o.
    let ends = both (is_of p x) (closes x) (now_shut (is_closed p before) _ shut o) in
    record {
      late = [];
      place = x;
      before = before;
      spelled = refl;
      closing = record { mine = same_push p x ends.0; shuts = ends.1; was_open = o };
    })

-- a place that closes closes for good
pub closing_stays : {A : Type 0} (p : ℕ) (late before : History A) (x : Taken A) → IsClosing p x before
    → is_closed p (late ++ x ∷ before) ≡ true
closing_stays p late before x closing = closed_later p late (x ∷ before) (closing_closes p x before closing)

-- what stands before the place that closed is open, and so there is one such place
pub one_closing : {A : Type 0} (p : ℕ) (late before : History A) (x : Taken A) (late' before' : History A)
    (x' : Taken A) → IsClosing p x before → IsClosing p x' before'
    → late ++ x ∷ before ≡ late' ++ x' ∷ before' → (x ≡ x') × (before ≡ before')
one_closing p [] before x [] before' x' one two same = (cc, cc)
one_closing p [] before x (y ∷ late') before' x' one two same =
    let rest : before ≡ late' ++ x' ∷ before' = cc in
    let shut : is_closed p before ≡ true = ap (is_closed p) rest ∙ closing_stays p late' before' x' two in
    let here : is_closed p before ≡ false = one.was_open in
    cc
one_closing p (y ∷ late) before x [] before' x' one two same =
    let rest : late ++ x ∷ before ≡ before' = cc in
    let shut : is_closed p before' ≡ true = ap (is_closed p) (sym rest) ∙ closing_stays p late before x one in
    let here : is_closed p before' ≡ false = two.was_open in
    cc
one_closing p (y ∷ late) before x (y' ∷ late') before' x' one two same =
    let rest : late ++ x ∷ before ≡ late' ++ x' ∷ before' = cc in
    one_closing p late before x late' before' x' one two rest
