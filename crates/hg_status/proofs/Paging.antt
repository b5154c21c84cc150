-- The rows of pushes, one after the other.
use Rattle.std.proofs.Common.{◌≡◌, ◌∙◌, ◌++◌, ◌==◌, ℕ, List, [], ◌∷◌, Bool, true, false, ap, codes, length, refl, sym}
use Rattle.std.proofs.Common.{if◌then◌else◌}
use Rattle.hg_status.specs.declared.date.Date.{Date}
use Rattle.hg_status.specs.declared.push.Push.{Push}
use Rattle.hg_status.specs.declared.push_counts.Counters.{Counters}
use Rattle.hg_status.specs.Page.{end_text, push_row_of, put, refusals_line, with_piece, with_push_rows, with_push_table}
use Rattle.hg_status.specs.Page.{with_pushes}
use Rattle.hg_status.specs.Page.{HasEnd, HasPushes, HasPushRows, IsPushRow}

rows_after : (rows : List (Push × Date)) (row : Push × Date) (text : List ℕ) → with_push_rows (rows ++ row ∷ []) text
    ≡ with_piece 64000 (with_push_rows rows text) (push_row_of row.0 row.1)
rows_after [] row text = refl
rows_after (first ∷ rows) row text = rows_after rows row (with_piece 64000 text (push_row_of first.0 first.1))

-- no row yet
pub no_rows : (text : List ℕ) → HasPushRows text text
no_rows text = record { rows = []; says = refl }

-- one more
pub one_row_more : (push : Push) (row before between after : List ℕ) → IsPushRow push row → HasPushRows before between
    → after ≡ with_piece 64000 between row → HasPushRows before after
one_row_more push row before between after is so more =
    record {
      rows = so.rows ++ (push, is.date) ∷ [];
      says = more ∙ (rw (so.says, is.says) (sym (rows_after so.rows (push, is.date) before)));
    }

-- one of two values
chosen : (b : Bool) (x y : List ℕ) → b ≡ true → (if b then x else y) ≡ x
chosen b x y is = rw is refl

other : (b : Bool) (x y : List ℕ) → b ≡ false → (if b then x else y) ≡ y
other b x y is = rw is refl

-- no pushes
pub pushes_none : (recent : List Push) (before after : List ℕ) → (length recent == 0) ≡ true
    → after ≡ put (put before (codes "<h2>Pushes <i>the latest first</i></h2>\n"))
    (codes "<p><i>None since the start.</i></p>\n") → HasPushes recent before after
unfolding with_pushes
pushes_none recent before after none is =
    record { rows = []; says = is ∙ sym (chosen (length recent == 0) _ _ none) }

-- some pushes
pub pushes_some : (recent : List Push) (before table rows after : List ℕ) → (length recent == 0) ≡ false
    → table ≡ put (put before (codes "<h2>Pushes <i>the latest first</i></h2>\n"))
    (codes "<div class=t><table class=u><thead><tr><th>Time<th>Place or reason<th>Change&shy;sets<th>Bytes<th>Lock ms<th>Disk ms<tbody>\n")
    → HasPushRows table rows → after ≡ put rows (codes "</table></div>\n") → HasPushes recent before after
unfolding with_pushes with_push_table
pushes_some recent before table rows after some begun so is =
    record {
      rows = so.rows;
      says = is ∙ ap (λ (t : List ℕ). put t (codes "</table></div>\n"))
          (so.says ∙ ap (with_push_rows so.rows) begun) ∙ sym (other (length recent == 0) _ _ some);
    }

-- some requests that were refused
pub refusals_some : (items : List ℕ) → (length items == 0) ≡ false
    → refusals_line items ≡ codes "<p class=k>" ++ (items ++ codes "</p>\n")
unfolding refusals_line
refusals_some items some = other (length items == 0) _ _ some

-- the end
pub ended : (counters : Counters) (aborted : ℕ) (start time : Date) (before after text old : List ℕ) → old ≡ []
    → text ≡ old ++ end_text counters aborted start time → after ≡ put before text → HasEnd counters before after
ended counters aborted start time before after text old none is put_is =
    record {
      aborted = aborted;
      start = start;
      time = time;
      says = put_is ∙ ap (put before) (is ∙ ap (λ (t : List ℕ). t ++ end_text counters aborted start time) none);
    }
