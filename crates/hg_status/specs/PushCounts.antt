-- The pushes since a start, counted, and the last hundred of them.
use Rattle.std.specs.Prelude.{ℕ, ◌+◌, ◌-◌, ◌^◌, min, nat_lt, List, [], ◌∷◌, ◌++◌, drop, length, replicate}
use Rattle.std.specs.Prelude.{slice_index, slice_set, if◌then◌else◌}
use Rattle.hg_status.specs.declared.push.ShownOutcome.{ShownOutcome}
use Rattle.hg_status.specs.declared.push.ShownOutcome.TheVariants.{Done, Aborted}
use Rattle.hg_status.specs.declared.push.Push.{Push}
use Rattle.hg_status.specs.declared.push_counts.Counters.{Counters}
use Rattle.hg_queries.specs.declared.around.Dismissal.{Dismissal}
use Rattle.hg_status.specs.Dismissed.{place_of_dismissal}
use Rattle.hg_status.specs.Reasons.{place_of}

-- no push was added since that second
abbrev pub no_pushes : ℕ → Counters
no_pushes start = record {
  start = start;
  done = 0;
  aborted = replicate 16 0;
  dismissed = replicate 11 0;
  changesets = 0;
  bytes = 0;
  locked = 0;
  synced = 0;
}

-- a sum that stays at the greatest number
abbrev pub sum_of : ℕ → ℕ → ℕ
sum_of a b = min (a + b) (2 ^ 64 - 1)

-- how many pushes were done, and how many aborted for each kind of reason, with one more
abbrev pub done_with : ℕ → ShownOutcome → ℕ
done_with done (Done place) = sum_of done 1
done_with done (Aborted reason) = done

abbrev pub aborted_with : List ℕ → ShownOutcome → List ℕ
aborted_with aborted (Done place) = aborted
aborted_with aborted (Aborted reason) =
    slice_set aborted (place_of reason) (sum_of (slice_index aborted (place_of reason)) 1)

-- the numbers with one push more
unfoldable pub counted : Counters → Push → Counters
counted counters push = record {
  start = counters.start;
  done = done_with counters.done push.outcome;
  aborted = aborted_with counters.aborted push.outcome;
  dismissed = counters.dismissed;
  changesets = sum_of counters.changesets push.changesets;
  bytes = sum_of counters.bytes push.bytes;
  locked = sum_of counters.locked push.locked;
  synced = sum_of counters.synced push.synced;
}

-- the numbers with one request more that was refused before a push was opened
abbrev pub with_dismissed : Counters → Dismissal → Counters
with_dismissed counters why = record counters {
  dismissed = slice_set counters.dismissed (place_of_dismissal why)
      (sum_of (slice_index counters.dismissed (place_of_dismissal why)) 1);
}

-- the last hundred with one more
unfoldable pub recent_with : List Push → Push → List Push
recent_with recent push = (if nat_lt (length recent) 100 then recent else drop 1 recent) ++ push ∷ []
