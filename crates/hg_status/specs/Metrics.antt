-- The numbers in the text form that Prometheus reads.
use Rattle.std.specs.Prelude.{ℕ, List, ◌++◌, codes, decimal, slice_index}
use Rattle.hg_status.specs.declared.push.AbortReason.{AbortReason}
use Rattle.hg_status.specs.declared.push.AbortReason.TheVariants.{HeadsChanged, PhasesChanged, BookmarksChanged}
use Rattle.hg_status.specs.declared.push.AbortReason.TheVariants.{Unsupported, KeyFailed, BadPart, BadChangeset}
use Rattle.hg_status.specs.declared.push.AbortReason.TheVariants.{UnknownNode, ClientAborted, BadEnd, StreamFault}
use Rattle.hg_status.specs.declared.push.AbortReason.TheVariants.{ConnectionLost, Dropped, NoMemory, NotLet, NoHook}
use Rattle.hg_phases.specs.declared.counts.PhaseCounts.{PhaseCounts}
use Rattle.hg_status.specs.declared.push_counts.Counters.{Counters}
use Rattle.hg_status.specs.declared.summary.Summary.{Summary}
use Rattle.hg_status.specs.Numbers.{seconds}
use Rattle.hg_status.specs.Reasons.{name_of_reason, place_of}
use Rattle.hg_queries.specs.declared.around.Dismissal.{Dismissal}
use Rattle.hg_queries.specs.declared.around.Dismissal.TheVariants as Why
use Rattle.hg_status.specs.Dismissed.{name_of_dismissal, place_of_dismissal}

-- a line with what a number is, and one with its type
unfoldable pub head_lines : List ℕ → List ℕ → List ℕ → List ℕ
head_lines name kind help = codes "# HELP hg_pushd_" ++ (name ++ (codes " " ++ (help ++ (codes "\n# TYPE hg_pushd_"
    ++ (name ++ (codes " " ++ (kind ++ codes "\n")))))))

-- the line of a value
unfoldable pub value_line : List ℕ → List ℕ → List ℕ
value_line name value = codes "hg_pushd_" ++ (name ++ (codes " " ++ (value ++ codes "\n")))

-- and that of a value for one value of a label
unfoldable pub labelled_line : List ℕ → List ℕ → List ℕ → ℕ → List ℕ
labelled_line name label of value = codes "hg_pushd_" ++ (name ++ (codes "{" ++ (label ++ (codes "=\""
    ++ (of ++ (codes "\"} " ++ (decimal value ++ codes "\n")))))))

-- a number with its kind: what it is, and its value
unfoldable pub number_lines : List ℕ → List ℕ → List ℕ → List ℕ → List ℕ
number_lines kind name help value = head_lines name kind help ++ value_line name value

-- a number that goes up and down, and one that only goes up
abbrev pub gauge : List ℕ → List ℕ → ℕ → List ℕ
gauge name help value = number_lines (codes "gauge") name help (decimal value)

abbrev pub counter : List ℕ → List ℕ → List ℕ → List ℕ
counter name help value = number_lines (codes "counter") name help value

unfoldable pub holdings_lines : {A : Type 0} → Summary A → List ℕ
holdings_lines summary =
    gauge (codes "changesets") (codes "Changesets in the repository.") summary.holdings.changesets
    ++ (gauge (codes "heads") (codes "Changesets that are nobody's parent.") summary.holdings.heads
    ++ (gauge (codes "bookmarks") (codes "Bookmarks.") summary.holdings.bookmarks
    ++ (gauge (codes "markers") (codes "Obsolescence markers.") summary.holdings.markers
    ++ (gauge (codes "store_bytes") (codes "Bytes of the store.") summary.store
    ++ (gauge (codes "store_pushes") (codes "Pushes in the store, each durable.") summary.stored
    ++ gauge (codes "connections") (codes "Open connections.") summary.connections)))))

abbrev pub phase_line : List ℕ → ℕ → List ℕ
phase_line phase value = labelled_line (codes "phase_changesets") (codes "phase") phase value

unfoldable pub phase_lines : PhaseCounts → List ℕ
phase_lines counts =
    head_lines (codes "phase_changesets") (codes "gauge")
    (codes "Changesets in each phase.")
    ++ (phase_line (codes "public") counts.public
    ++ (phase_line (codes "draft") counts.draft ++ phase_line (codes "secret") counts.secret))

unfoldable pub aborted_line : Counters → AbortReason → List ℕ
aborted_line counters reason = labelled_line (codes "pushes_aborted_total") (codes "reason")
    (name_of_reason reason) (slice_index counters.aborted (place_of reason))

unfoldable pub refused_lines : Counters → List ℕ
refused_lines counters =
    aborted_line counters HeadsChanged
    ++ (aborted_line counters PhasesChanged
    ++ (aborted_line counters BookmarksChanged
    ++ (aborted_line counters Unsupported
    ++ (aborted_line counters KeyFailed
    ++ (aborted_line counters BadPart
    ++ (aborted_line counters BadChangeset
    ++ (aborted_line counters UnknownNode
    ++ aborted_line counters ClientAborted)))))))

unfoldable pub cut_lines : Counters → List ℕ
cut_lines counters =
    aborted_line counters BadEnd
    ++ (aborted_line counters (StreamFault 0)
    ++ (aborted_line counters ConnectionLost
    ++ (aborted_line counters Dropped
    ++ aborted_line counters NoMemory)))

unfoldable pub denied_lines : Counters → List ℕ
denied_lines counters = aborted_line counters NotLet ++ aborted_line counters NoHook

unfoldable pub push_lines : Counters → List ℕ
push_lines counters =
    gauge (codes "start_time_seconds") (codes "When the server started, in seconds since 1970.") counters.start
    ++ (head_lines (codes "pushes_aborted_total") (codes "counter") (codes "Pushes that were aborted, by reason.")
    ++ (refused_lines counters ++ (cut_lines counters ++ (denied_lines counters
    ++ counter (codes "pushes_done_total") (codes "Pushes that were done.") (decimal counters.done)))))

unfoldable pub dismissed_line : Counters → Dismissal → List ℕ
dismissed_line counters why = labelled_line (codes "requests_refused_total") (codes "reason")
    (name_of_dismissal why) (slice_index counters.dismissed (place_of_dismissal why))

-- requests that were not read whole or found no room
unfoldable pub unread_lines : Counters → List ℕ
unread_lines counters =
    dismissed_line counters Why.LongBody
    ++ (dismissed_line counters Why.LongHead
    ++ (dismissed_line counters Why.NoRequest
    ++ (dismissed_line counters Why.Lost
    ++ dismissed_line counters Why.NoRoom)))

-- and those that were refused for what they ask
unfoldable pub untaken_lines : Counters → List ℕ
untaken_lines counters =
    dismissed_line counters Why.OtherServer
    ++ (dismissed_line counters Why.NotFound
    ++ (dismissed_line counters Why.Unclear
    ++ (dismissed_line counters Why.Forbidden
    ++ (dismissed_line counters Why.NotTaken
    ++ dismissed_line counters Why.NotOpened))))

unfoldable pub dismissed_lines : Counters → List ℕ
dismissed_lines counters =
    head_lines (codes "requests_refused_total") (codes "counter")
    (codes "Requests that were refused before a push was opened, by reason.")
    ++ (unread_lines counters ++ untaken_lines counters)

unfoldable pub cost_lines : Counters → List ℕ
cost_lines counters =
    counter (codes "pushed_changesets_total") (codes "Changesets that pushes added.") (decimal counters.changesets)
    ++ (counter (codes "pushed_bytes_total") (codes "Bytes of the bundles of pushes.") (decimal counters.bytes)
    ++ (counter (codes "lock_seconds_total") (codes "Seconds that pushes held the lock.") (seconds counters.locked)
    ++ counter (codes "sync_seconds_total") (codes "Seconds that pushes waited for the disk.")
    (seconds counters.synced)))

-- all of them
abbrev pub metrics_of : {A : Type 0} → Summary A → List ℕ
metrics_of summary = holdings_lines summary
    ++ (phase_lines summary.phases ++ (push_lines summary.counters ++ (dismissed_lines summary.counters
    ++ cost_lines summary.counters)))
