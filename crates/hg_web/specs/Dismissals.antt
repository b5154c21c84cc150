-- Why a request was refused, as who watches the connection hears it.
use Rattle.std.specs.Prelude.{ℕ, ◌==◌, Option, Some, None, if◌then◌else◌}
use Rattle.http1.specs.ReadError.{status_of}
use Rattle.http_server.specs.declared.state.Refusal.{Refusal}
use Rattle.http_server.specs.declared.state.Refusal.TheVariants as Unread
use Rattle.http_server.specs.declared.state.Reason.TheVariants.{Asked, EndOfInput, Refused as IsRefused}
use Rattle.http_server.specs.declared.state.State.{State}
use Rattle.http_server.specs.declared.state.State.TheVariants.{Open, Closing, Upgraded, Aborted}
use Rattle.hg_http.specs.declared.address.AddressFault.{AddressFault}
use Rattle.hg_http.specs.declared.address.AddressFault.TheVariants.{OtherName, OtherPath, UnclearCommand}
use Rattle.hg_http.specs.declared.answer.HttpAnswer.{HttpAnswer}
use Rattle.hg_http.specs.declared.answer.HttpAnswer.TheVariants as Answers
use Rattle.hg_http.specs.declared.answer.RequestRefusal.{RequestRefusal}
use Rattle.hg_http.specs.declared.answer.RequestRefusal.TheVariants.{NotForced, BadBatch, PushesAlone, LongBatch}
use Rattle.hg_http.specs.declared.answer.RequestRefusal.TheVariants as Lines
use Rattle.hg_queries.specs.declared.around.Dismissal.{Dismissal}
use Rattle.hg_queries.specs.declared.around.Dismissal.TheVariants.{LongBody, LongHead, NoRequest, Lost, NoRoom}
use Rattle.hg_queries.specs.declared.around.Dismissal.TheVariants.{OtherServer, NotFound, Unclear, Forbidden}
use Rattle.hg_queries.specs.declared.around.Dismissal.TheVariants.{NotTaken, NotOpened}

-- an address that is not the server's, and a command that may be read otherwise
abbrev pub fault_dismisses : AddressFault → Dismissal
fault_dismisses OtherName = OtherServer
fault_dismisses OtherPath = NotFound
fault_dismisses UnclearCommand = Unclear

-- A line that says why a command is not answered: but for a push that has ended, or that nobody let through.
abbrev pub refusal_dismisses : RequestRefusal → Option Dismissal
refusal_dismisses NotForced = Some NotTaken
refusal_dismisses BadBatch = Some NotTaken
refusal_dismisses PushesAlone = Some NotTaken
refusal_dismisses LongBatch = Some NotTaken
refusal_dismisses Lines.NotOpened = Some NotOpened
refusal_dismisses Lines.NoMemory = Some NoRoom
refusal_dismisses Lines.NoAnswer = None
refusal_dismisses Lines.NoHook = None

-- what an answer says of that
abbrev pub answer_dismisses : {A : Type 0} → HttpAnswer A → Option Dismissal
answer_dismisses (Answers.Text text) = None
answer_dismisses (Answers.Refused why) = refusal_dismisses why
answer_dismisses (Answers.NotLet why) = None
answer_dismisses Answers.Forbidden = Some Forbidden
answer_dismisses Answers.NotFound = Some NotFound
answer_dismisses (Answers.Misaddressed fault) = Some (fault_dismisses fault)
answer_dismisses (Answers.Shown view text) = None
answer_dismisses (Answers.Moved address) = None

-- by the status that says what was wrong with what was read: another one is for what passed a limit
abbrev pub unread_for : ℕ → Dismissal
unread_for status = if status == 400 then NoRequest else LongHead

-- A request that HTTP could not read to its end: its body or its head is too long, it broke off, or it is none.
abbrev pub unread_as : Refusal → Dismissal
unread_as Unread.Truncated = Lost
unread_as (Unread.Unreadable fault) = unread_for (status_of fault)
unread_as Unread.BodyTooLarge = LongBody
unread_as (Unread.InvalidPart fault) = NoRequest
unread_as Unread.InvalidHost = NoRequest
unread_as Unread.UnknownCoding = NoRequest
unread_as (Unread.InvalidResponse fault) = NoRequest

-- Why HTTP could not read the last request of a connection that stands so, if it could not.
abbrev pub unread_of : State → Option Dismissal
unread_of Open = None
unread_of (Closing Asked) = None
unread_of (Closing EndOfInput) = None
unread_of (Closing (IsRefused why)) = Some (unread_as why)
unread_of Upgraded = None
unread_of Aborted = None
