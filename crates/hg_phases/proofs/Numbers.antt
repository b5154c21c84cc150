-- Phases in their order.
use Rattle.std.proofs.Common.{◌≡◌, ℕ, ◌≤◌, leb, refl, arith}
use Rattle.std.proofs.lemmas.Bool.{leb-true, leb-false, le-leb, cond-true, cond_both}
use Rattle.hg_types.specs.declared.phase.Phase.{Phase}
use Rattle.hg_types.specs.declared.phase.Phase.TheVariants.{Public, Draft, Secret}
use Rattle.hg_types.specs.Phase.{number_of}
use Rattle.hg_phases.specs.Order.{lesser, greater}

-- one number, one phase
pub same_number : (a b : Phase) → number_of a ≡ number_of b → a ≡ b
same_number Public Public e = refl
same_number Public Draft e = absurd (omega (arith, e))
same_number Public Secret e = absurd (omega (arith, e))
same_number Draft Public e = absurd (omega (arith, e))
same_number Draft Draft e = refl
same_number Draft Secret e = absurd (omega (arith, e))
same_number Secret Public e = absurd (omega (arith, e))
same_number Secret Draft e = absurd (omega (arith, e))
same_number Secret Secret e = refl

pub greater_first : (a b : Phase) → number_of a ≤ number_of (greater a b)
greater_first a b = cond_both (leb (number_of a) (number_of b)) b a (λ x. number_of a ≤ number_of x)
    (λ e. leb-true (number_of a) (number_of b) e) (λ e. omega arith)

pub greater_second : (a b : Phase) → number_of b ≤ number_of (greater a b)
greater_second a b = cond_both (leb (number_of a) (number_of b)) b a (λ x. number_of b ≤ number_of x)
    (λ e. omega arith) (λ e. omega (arith, leb-false (number_of a) (number_of b) e))

pub greater_least : (a b : Phase) (n : ℕ) → number_of a ≤ n → number_of b ≤ n → number_of (greater a b) ≤ n
greater_least a b n a_low b_low =
    cond_both (leb (number_of a) (number_of b)) b a (λ x. number_of x ≤ n) (λ e. b_low) (λ e. a_low)

pub lesser_first : (a b : Phase) → number_of a ≤ number_of b → lesser a b ≡ a
lesser_first a b low = cond-true (leb (number_of a) (number_of b)) a b
    (le-leb (number_of a) (number_of b) low)

pub lesser_second : (a b : Phase) → number_of b ≤ number_of a → lesser a b ≡ b
lesser_second a b low = cond_both (leb (number_of a) (number_of b)) a b (λ x. x ≡ b)
    (λ e. same_number a b (let le = leb-true (number_of a) (number_of b) e in omega arith)) (λ e. refl)

pub lesser_low : (a b : Phase) → number_of (lesser a b) ≤ number_of b
lesser_low a b = cond_both (leb (number_of a) (number_of b)) a b (λ x. number_of x ≤ number_of b)
    (λ e. leb-true (number_of a) (number_of b) e) (λ e. omega arith)

-- the lesser of t and a lower phase is not above the lesser of t and a higher one
pub lesser_rises : (t a b : Phase) → number_of a ≤ number_of b
    → number_of (lesser t a) ≤ number_of (lesser t b)
lesser_rises t a b low =
    cond_both (leb (number_of t) (number_of b)) t b (λ x. number_of (lesser t a) ≤ number_of x)
    (λ e. cond_both (leb (number_of t) (number_of a)) t a (λ x. number_of x ≤ number_of t) (λ f. omega arith)
    (λ f. omega (arith, leb-false (number_of t) (number_of a) f)))
    (λ e. let lower = lesser_low t a in omega arith)
