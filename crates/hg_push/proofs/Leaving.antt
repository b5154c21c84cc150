-- What is left of a history where the late items of a push are taken out, and which places can have a
-- refusal.
use Rattle.std.proofs.Common.{ℕ, Bool, true, false, ◌≡◌, ◌≢◌, ◌==◌, ◌&&◌, ◌||◌, not, [], ◌∷◌, ◌++◌, refl, sym}
use Rattle.std.proofs.Common.{◌∙◌, ap, subst, arith, length}
use Rattle.std.proofs.lemmas.Bool.Decides.{nat_tests}
use Rattle.hg_parts.specs.declared.item.CutReason.{CutReason}
use Rattle.hg_parts.specs.declared.item.Taken.{Taken}
use Rattle.hg_parts.specs.declared.item.What.{What}
use Rattle.hg_parts.specs.declared.item.What.TheVariants.{Part as a_part, End, Cut}
use Rattle.hg_push.specs.History.{History, IsClosing, IsHistory, closes, is_of, is_closed, parts}
use Rattle.hg_push.specs.History.{takes_memory}
use Rattle.hg_push.specs.Changed.{trimmed}
use Rattle.hg_push.specs.World.{items_in, items_of}
use Rattle.hg_push.proofs.Trims.{either_way}
use Rattle.hg_push.proofs.Worlds.{items_same}
use Rattle.hg_push.proofs.Withouts.{items_kept, of_another}

pub trimmed_others : {A : Type 0} (p q : ℕ) (h : History A) → q ≢ p
    → items_of q (items_in (trimmed p h)) ≡ items_of q (items_in h)
trimmed_others p q [] other = refl
trimmed_others p q (x ∷ before) other =
    either_way (is_of p x && is_closed p before)
    (λ t. let mine : is_of p x ≡ true = grind (arith, t) in
    rw t (trimmed_others p q before other ∙ sym (items_same q x before (of_another p q x other mine))))
    (λ f. rw f (items_kept q x before (trimmed p before) (trimmed_others p q before other)))

either_false : (a b : Bool) → (a || b) ≡ false → a ≡ false
either_false false b h = refl
either_false true b h = cc

and_false : (a b : Bool) → b ≡ false → (a && b) ≡ false
and_false true b h = h
and_false false b h = refl

-- of an open push nothing is taken out
open_untrimmed : {A : Type 0} (p : ℕ) (h : History A) → is_closed p h ≡ false → trimmed p h ≡ h
open_untrimmed p [] here = refl
open_untrimmed p (x ∷ before) here =
    let was = either_false (is_closed p before) (is_of p x && closes x) here in
    let stays : (is_of p x && is_closed p before) ≡ false = and_false (is_of p x) (is_closed p before) was in
    rw stays (ap (λ b. x ∷ b) (open_untrimmed p before was))

pub closing_closes : {A : Type 0} (p : ℕ) (x : Taken A) (before : History A) → IsClosing p x before
    → is_closed p (x ∷ before) ≡ true
closing_closes p x before closing = let mine = closing.mine in let shuts = closing.shuts in
    rw (mine, shuts) (grind (arith, nat_tests))

pub closed_later : {A : Type 0} (p : ℕ) (late h : History A) → is_closed p h ≡ true
    → is_closed p (late ++ h) ≡ true
closed_later p [] h closed = closed
closed_later p (x ∷ late) h closed = rw (closed_later p late h closed) refl

both_true : (a b : Bool) → a ≡ true → b ≡ true → (a && b) ≡ true
both_true a b ha hb = rw (ha, hb) refl

pub trimmed_left : {A : Type 0} (p : ℕ) (late before : History A) (x : Taken A) → IsClosing p x before
    → items_of p (items_in (trimmed p (late ++ x ∷ before))) ≡ items_of p (items_in (x ∷ before))
trimmed_left p [] before x closing =
    let stays : (is_of p x && is_closed p before) ≡ false = and_false (is_of p x)
    (is_closed p before) closing.was_open in
    rw stays (ap (λ b. items_of p (items_in (x ∷ b))) (open_untrimmed p before closing.was_open))
trimmed_left p (y ∷ late) before x closing =
    let closed = closed_later p late (x ∷ before) (closing_closes p x before closing) in
    either_way (is_of p y)
    (λ t. rw (both_true (is_of p y) (is_closed p (late ++ x ∷ before)) t closed)
    (trimmed_left p late before x closing))
    (λ f.
    let stays : (is_of p y && is_closed p (late ++ x ∷ before)) ≡ false = rw f refl in
    rw stays (items_same p y (trimmed p (late ++ x ∷ before)) f ∙ trimmed_left p late before x closing))

-- ---- refusals

legal_before : {A : Type 0} (late h : History A) → IsHistory (late ++ h) → IsHistory h
legal_before [] h legal = legal
legal_before (x ∷ late) h legal = legal_before late h legal.1

both_parts : (a b : Bool) → (a && b) ≡ true → (a ≡ true) × (b ≡ true)
both_parts true b h = (refl, h)
both_parts false b h = cc

not_true : (b : Bool) → not b ≡ true → b ≡ false
not_true false h = refl
not_true true h = cc

due : {A : Type 0} (late before : History A) (x : Taken A) → IsHistory (late ++ x ∷ before) → x.refused ≡ true
    → (not (is_closed x.item.push before) ≡ true)
    × (takes_memory (length (parts x.item.push before)) x.item.index x.item.what ≡ true)
due late before x legal refused = both_parts _ _ ((legal_before late (x ∷ before) legal).0 refused)

pub refused_open : {A : Type 0} (late before : History A) (x : Taken A) → IsHistory (late ++ x ∷ before)
    → x.refused ≡ true → is_closed x.item.push before ≡ false
refused_open late before x legal refused =
    not_true (is_closed x.item.push before) (due late before x legal refused).0

no_cut_taken : {A : Type 0} (count index : ℕ) (what : What A) (reason : CutReason)
    → takes_memory count index what ≡ true → what ≢ Cut reason
no_cut_taken count index (a_part part) reason takes is = cc
no_cut_taken count index End reason takes is = cc
no_cut_taken count index (Cut other) reason takes is = cc

pub refused_no_cut : {A : Type 0} (late before : History A) (x : Taken A) (reason : CutReason)
    → IsHistory (late ++ x ∷ before) → x.refused ≡ true → x.item.what ≢ Cut reason
refused_no_cut late before x reason legal refused =
    no_cut_taken (length (parts x.item.push before)) x.item.index x.item.what reason
    (due late before x legal refused).1

equal : (a b : ℕ) → (a == b) ≡ true → a ≡ b
equal a b e = grind (arith, nat_tests)

pub refused_right : {A : Type 0} (late before : History A) (x : Taken A) → IsHistory (late ++ x ∷ before)
    → x.refused ≡ true → x.item.what ≡ End → x.item.index ≡ length (parts x.item.push before)
refused_right late before x legal refused is =
    equal x.item.index (length (parts x.item.push before))
    (subst (λ w. takes_memory (length (parts x.item.push before)) x.item.index w ≡ true) is
    (due late before x legal refused).1)
