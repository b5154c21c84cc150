-- The place of a push, as a book tells it.
use Rattle.std.proofs.Common.{ℕ, false, ◌≡◌, ◌==◌, ◌<◌, List, [], ◌∷◌, ◌++◌, refl, sym, ◌∙◌, ap, arith, length}
use Rattle.std.proofs.Common.{Option, Some, None, zero, suc}
use Rattle.std.specs.Prelude.{IfNone, IfSome}
use Rattle.std.specs.List.{list_any}
use Rattle.std.proofs.Math.ListN.{get_or}
use Rattle.hg_push.specs.History.{History, Running, outcome, serial}
use Rattle.hg_push.specs.Changed.{is_done}
use Rattle.hg_push.specs.Book.{Book, HoldsHistory}
use Rattle.hg_push.specs.Places.{IsPlace, TellsPlace}
use Rattle.hg_push.proofs.Journals.{done_journal}

-- a number at its place of a list
record Splits (p place : ℕ) (ns : List ℕ) : Type 0 where
  pub front : List ℕ
  pub back : List ℕ
  pub spelled : ns ≡ front ++ p ∷ back
  pub count : length front ≡ place

splits : (p place : ℕ) (ns : List ℕ) → place < length ns → p ≡ get_or ns place p → Splits p place ns
splits p place [] low is = absurd (omega (arith, low))
splits p zero (n ∷ ns) low is =
    record { front = []; back = ns; spelled = ap (λ m. m ∷ ns) (sym is); count = refl }
splits p (suc k) (n ∷ ns) low is =
    let rest = splits p k ns (omega (arith, low)) is in
    record {
      front = n ∷ rest.front;
      back = rest.back;
      spelled = ap (λ l. n ∷ l) rest.spelled;
      count = omega (arith, rest.count);
    }

module _ {A R D E : Type 0} (run : Running A R D E) (first : R) (h : History A) (b : Book A R D E) (p : ℕ)
    (holds : HoldsHistory run first h b) where
  journal_is : (serial run first h).journal ≡ b.journal
  journal_is = ap (λ s. s.journal) holds.state

  place_found : (place : ℕ) → place < length b.journal → p ≡ get_or b.journal place p
      → IsPlace run first h p place
  place_found place low is =
      let at = splits p place b.journal low is in
      record { front = at.front; back = at.back; spelled = journal_is ∙ at.spelled; count = at.count }

  not_found : list_any (λ q. q == p) b.journal ≡ false → is_done (outcome run first p h) ≡ false
  not_found none = sym (done_journal run first p h)
      ∙ (ap (λ ns. list_any (λ q. q == p) ns) journal_is ∙ none)

  pub tells_place : (found : Option ℕ) → IfNone found (list_any (λ q. q == p) b.journal ≡ false)
      → IfSome found (λ place. (place < length b.journal) × (p ≡ get_or b.journal place p))
      → TellsPlace run first h p found
  tells_place None none some = not_found none
  tells_place (Some place) none some = place_found place some.0 some.1
