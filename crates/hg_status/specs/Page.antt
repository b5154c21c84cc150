-- The page of a summary.
use Rattle.std.specs.Prelude.{◌≡◌, ℕ, ◌-◌, ◌/◌, ◌%◌, ◌^◌, ◌==◌, Bool, false, not, nat_lt, min, List, [], ◌∷◌, ◌++◌}
use Rattle.std.specs.Prelude.{length, codes, decimal}
use Rattle.std.specs.Prelude.{if◌then◌else◌, slice_index}
use Rattle.std.specs.Fmt.{format_spec, padded_integral}
use Rattle.hg_status.specs.declared.date.Date.{Date}
use Rattle.hg_status.specs.declared.heads.ShownHead.{ShownHead}
use Rattle.hg_status.specs.declared.holdings.Holdings.{Holdings}
use Rattle.hg_phases.specs.declared.counts.PhaseCounts.{PhaseCounts}
use Rattle.hg_status.specs.declared.push.Push.{Push}
use Rattle.hg_status.specs.declared.push.ShownOutcome.{ShownOutcome}
use Rattle.hg_status.specs.declared.push.ShownOutcome.TheVariants.{Done, Aborted}
use Rattle.hg_status.specs.declared.push_counts.Counters.{Counters}
use Rattle.hg_status.specs.declared.summary.Summary.{Summary}
use Rattle.hg_queries.specs.declared.around.Dismissal.{Dismissal}
use Rattle.hg_queries.specs.declared.around.Dismissal.TheVariants as Why
use Rattle.hg_status.specs.Dismissed.{name_of_dismissal, place_of_dismissal}
use Rattle.hg_status.specs.Line.{reason_text, waits_text}
use Rattle.hg_status.specs.PushCounts.{sum_of}
use Rattle.hg_status.specs.Rows.{row_of}

-- ---- what there is room for

-- whether a text with a piece more has at most so many bytes, and no more than a page
unfoldable pub fits : ℕ → List ℕ → List ℕ → Bool
fits most text piece = not (nat_lt (min most 65535 - length text) (length piece))

-- the text with the piece, where that fits
abbrev pub with_piece : ℕ → List ℕ → List ℕ → List ℕ
with_piece most text piece = if fits most text piece then text ++ piece else text

unfoldable pub put : List ℕ → List ℕ → List ℕ
put text piece = with_piece 65535 text piece

-- ---- its front

abbrev pub publishing_text : Bool → List ℕ
publishing_text publishing = if publishing then codes "Publishing, " else []

unfoldable pub title_text : {A : Type 0} → Summary A → List ℕ
title_text summary = codes "<h1>hg_pushd</h1>\n<p>" ++ (publishing_text summary.publishing ++ (decimal summary.connections ++ (codes " open connections, a store of "
    ++ (decimal summary.store ++ codes " bytes</p>\n"))))

-- how many there are of something
unfoldable pub held_text : ℕ → List ℕ → List ℕ
held_text count of = codes "<div><b>" ++ (decimal count ++ (codes "</b>" ++ (of ++ codes "</div>")))

unfoldable pub numbers_text : {A : Type 0} → Holdings A → List ℕ
numbers_text holdings = codes "<div class=n>" ++ (held_text holdings.changesets (codes "changesets")
    ++ (held_text holdings.heads (codes "heads") ++ (held_text holdings.bookmarks (codes "bookmarks")
    ++ (held_text holdings.markers (codes "markers") ++ codes "</div>\n"))))

-- how many changesets are in each phase, as a bar and in numbers
unfoldable pub phases_text : PhaseCounts → List ℕ
phases_text counts = codes "<div class=bar>" ++ (codes "<i class=p0 style=\"flex:" ++ (decimal counts.public
    ++ (codes "\"></i><i class=p1 style=\"flex:" ++ (decimal counts.draft
    ++ (codes "\"></i>" ++ (codes "<i class=p2 style=\"flex:" ++ (decimal counts.secret
    ++ (codes "\"></i></div>\n<p class=k>" ++ (codes "<span class=p0><b>" ++ (decimal counts.public
    ++ (codes " public</b></span><span class=p1><b>" ++ (decimal counts.draft
    ++ (codes " draft</b></span>" ++ (codes "<span class=p2><b>" ++ (decimal counts.secret
    ++ codes " secret</b></span></p>\n")))))))))))))))

-- ---- its heads

-- how many of something are left out
unfoldable pub left_out_text : ℕ → List ℕ → List ℕ
left_out_text count what =
    codes "<p><i>" ++ (decimal count ++ (codes " more " ++ (what ++ codes ".</i></p>\n")))

unfoldable pub with_left_out : List ℕ → ℕ → List ℕ → List ℕ
with_left_out text count what = if count == 0 then text else put text (left_out_text count what)

-- the rows of heads up to the first that does not fit, and how many these are
abbrev pub with_head_rows : {A : Type 0} → List (ShownHead A) → List ℕ → ℕ → List ℕ × ℕ
with_head_rows [] text shown = (text, shown)
with_head_rows (head ∷ heads) text shown = if fits 36000 text (row_of head)
    then with_head_rows heads (text ++ row_of head) (sum_of shown 1) else (text, shown)

-- the table, and what is left out of it
unfoldable pub with_rows : {A : Type 0} → Holdings A → List ℕ × ℕ → List ℕ
with_rows holdings rows =
    with_left_out
    (with_left_out (put rows.0 (codes "</table></div>\n")) (holdings.heads - rows.1) (codes "heads are not shown"))
    (holdings.bookmarks - holdings.looked_at) (codes "bookmarks were not looked at")

unfoldable pub with_head_table : {A : Type 0} → Holdings A → List ℕ → List ℕ
with_head_table holdings text = with_rows holdings (with_head_rows holdings.shown
    (put text (codes "<div class=t><table class=h><thead><tr><th>Id<th>Phase<th>Branch<th>Bookmarks<tbody>\n")) 0)

unfoldable pub with_heads : {A : Type 0} → Holdings A → List ℕ → List ℕ
with_heads holdings text = let titled = put text (codes "<h2>Heads <i>the latest first</i></h2>\n") in
    if length holdings.shown == 0 then put titled (codes "<p><i>No changesets yet.</i></p>\n")
    else with_head_table holdings titled

-- ---- its pushes

-- a number with zeros before it, in so many digits at least
abbrev pub in_digits : ℕ → ℕ → List ℕ
in_digits width n = padded_integral (format_spec 32 0 4 width (2 ^ 64 - 1)) false [] (decimal n)

-- a date is four numbers
unfoldable pub day_text : Date → List ℕ
day_text date = in_digits 4 date.year ++ (codes "-" ++ (in_digits 2 date.month ++ (codes "-" ++ in_digits 2 date.day)))

unfoldable pub time_text : Date → List ℕ
time_text date = in_digits 2 (date.second / 3600) ++ (codes ":" ++ (in_digits 2 (date.second / 60 % 60)
    ++ (codes ":" ++ in_digits 2 (date.second % 60))))

unfoldable pub moment_text : Date → List ℕ
moment_text date = day_text date ++ (codes " " ++ time_text date)

unfoldable pub when_cell : Date → List ℕ
when_cell date = codes "<tr><td><i>" ++ (day_text date ++ (codes "</i> " ++ time_text date))

abbrev pub outcome_cell : ShownOutcome → List ℕ
outcome_cell (Done place) = codes "<td>" ++ decimal place
outcome_cell (Aborted reason) = codes "<td class=no>" ++ reason_text reason

unfoldable pub cost_cells : Push → List ℕ
cost_cells push = codes "<td>" ++ (decimal push.changesets ++ (codes "<td>" ++ (decimal push.bytes
    ++ (codes "<td>" ++ waits_text push (codes "<td>") (codes "\n")))))

-- the row of a push
unfoldable pub push_row_of : Push → Date → List ℕ
push_row_of push date = when_cell date ++ (outcome_cell push.outcome ++ cost_cells push)

pub record IsPushRow (push : Push) (row : List ℕ) : Type 0 where
  pub date : Date
  pub says : row ≡ push_row_of push date

-- the rows that fit
abbrev pub with_push_rows : List (Push × Date) → List ℕ → List ℕ
with_push_rows [] text = text
with_push_rows (row ∷ rows) text = with_push_rows rows (with_piece 64000 text (push_row_of row.0 row.1))

pub record HasPushRows (before after : List ℕ) : Type 0 where
  pub rows : List (Push × Date)
  pub says : after ≡ with_push_rows rows before

-- the table of these rows
unfoldable pub with_push_table : List (Push × Date) → List ℕ → List ℕ
with_push_table rows text = put (with_push_rows rows (put text
    (codes "<div class=t><table class=u><thead><tr><th>Time<th>Place or reason<th>Change&shy;sets<th>Bytes<th>Lock ms<th>Disk ms<tbody>\n")))
    (codes "</table></div>\n")

unfoldable pub with_pushes : List Push → List (Push × Date) → List ℕ → List ℕ
with_pushes recent rows text = let titled = put text (codes "<h2>Pushes <i>the latest first</i></h2>\n") in
    if length recent == 0 then put titled (codes "<p><i>None since the start.</i></p>\n") else with_push_table rows titled

pub record HasPushes (recent : List Push) (before after : List ℕ) : Type 0 where
  pub rows : List (Push × Date)
  pub says : after ≡ with_pushes recent rows before

-- ---- its refused requests

-- how many requests were refused for a reason, where some were
abbrev pub refused_item : ℕ → List ℕ → List ℕ
refused_item count reason = if count == 0 then []
    else codes "<span class=no><b>" ++ (decimal count ++ (codes " " ++ (reason ++ codes "</b></span>\n")))

unfoldable pub dismissed_item : Counters → Dismissal → List ℕ
dismissed_item counters why = refused_item (slice_index counters.dismissed (place_of_dismissal why)) (name_of_dismissal why)

-- requests that were not read whole or found no room
unfoldable pub unread_items : Counters → List ℕ
unread_items counters =
    dismissed_item counters Why.LongBody
    ++ (dismissed_item counters Why.LongHead
    ++ (dismissed_item counters Why.NoRequest
    ++ (dismissed_item counters Why.Lost
    ++ dismissed_item counters Why.NoRoom)))

-- and those that were refused for what they ask
unfoldable pub untaken_items : Counters → List ℕ
untaken_items counters =
    dismissed_item counters Why.OtherServer
    ++ (dismissed_item counters Why.NotFound
    ++ (dismissed_item counters Why.Unclear
    ++ (dismissed_item counters Why.Forbidden
    ++ (dismissed_item counters Why.NotTaken
    ++ dismissed_item counters Why.NotOpened))))

unfoldable pub dismissed_items : Counters → List ℕ
dismissed_items counters = unread_items counters ++ untaken_items counters

-- a line of them, or that there were none
unfoldable pub refusals_line : List ℕ → List ℕ
refusals_line items = if length items == 0 then codes "<p><i>None since the start.</i></p>\n"
    else codes "<p class=k>" ++ (items ++ codes "</p>\n")

unfoldable pub refusals_text : Counters → List ℕ
refusals_text counters = codes "<h2>Refused requests <i>before a push was opened</i></h2>\n"
    ++ refusals_line (dismissed_items counters)

-- ---- its end

unfoldable pub end_text : Counters → ℕ → Date → Date → List ℕ
end_text counters aborted start time = codes "<footer>Since " ++ (moment_text start ++ (codes " " ++ (decimal counters.done
    ++ (codes " pushes were done and " ++ (decimal aborted ++ (codes " aborted, " ++ (codes "with "
    ++ (decimal counters.changesets ++ (codes " changesets and " ++ (decimal counters.bytes
    ++ (codes " bytes. This page is of " ++ (moment_text time
    ++ codes ", in coordinated universal time.</footer></main></html>\n"))))))))))))

pub record HasEnd (counters : Counters) (before after : List ℕ) : Type 0 where
  pub aborted : ℕ
  pub start : Date
  pub time : Date
  pub says : after ≡ put before (end_text counters aborted start time)

-- ---- the whole page

-- its title, its numbers and its heads, after the text that every page has
unfoldable pub front_of : {A : Type 0} → List ℕ → Summary A → List ℕ
front_of top summary = with_heads summary.holdings (put (put (put (put [] top) (title_text summary))
    (numbers_text summary.holdings)) (phases_text summary.phases))

-- Of the front each byte is told. After it stand rows of pushes, how many requests were refused and the end, which have
-- the numbers of some pushes and some dates: no name.
pub record IsPageOf {A : Type 0} (top : List ℕ) (summary : Summary A) (text : List ℕ) : Type 0 where
  pub heads : List ℕ
  pub is_front : heads ≡ front_of top summary
  pub rows : List ℕ
  pub has_pushes : HasPushes summary.recent heads rows
  pub has_end : HasEnd summary.counters (put rows (refusals_text summary.counters)) text
