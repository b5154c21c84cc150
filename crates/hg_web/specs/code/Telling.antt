-- Why the last request of a stretch is told as refused.
use Rattle.std.specs.Prelude.{Bool, Option, Some, None, Result, Ok, Err, if◌then◌else◌}
use Rattle.http_server.specs.declared.state.State.{State}
use Rattle.hg_queries.specs.declared.around.Dismissal.{Dismissal}
use Rattle.hg_queries.specs.declared.around.Dismissal.TheVariants.{Lost, NoRoom}
use Rattle.hg_web.specs.declared.serve.Stretch.{Stretch}
use Rattle.hg_web.specs.declared.serve.Stretch.TheVariants.{Answered, Done, Refused}
use Rattle.hg_web.specs.Dismissals.{unread_of}

-- By how the connection stands, whether its input has ended, whether some of a request came, and how the stretch ended.
abbrev pub last_told : {E : Type 0} → State → Bool → Bool → Result Stretch E → Option Dismissal
last_told state has_ended is_begun (Ok Done) = unread_of state
last_told state has_ended is_begun (Ok Answered) = None
last_told state has_ended is_begun (Ok (Refused is_whole)) = Some (if has_ended then Lost else NoRoom)
last_told state has_ended is_begun (Err error) = if is_begun then Some Lost else None
