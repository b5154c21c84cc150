-- Why requests were refused before a push was opened, as it is shown.
use Rattle.std.specs.Prelude.{ℕ, List, codes}
use Rattle.hg_queries.specs.declared.around.Dismissal.{Dismissal}
use Rattle.hg_queries.specs.declared.around.Dismissal.TheVariants.{LongBody, LongHead, NoRequest, Lost, NoRoom}
use Rattle.hg_queries.specs.declared.around.Dismissal.TheVariants.{OtherServer, NotFound, Unclear, Forbidden}
use Rattle.hg_queries.specs.declared.around.Dismissal.TheVariants.{NotTaken, NotOpened}

-- the place of a reason among the counters
abbrev pub place_of_dismissal : Dismissal → ℕ
place_of_dismissal LongBody = 0
place_of_dismissal LongHead = 1
place_of_dismissal NoRequest = 2
place_of_dismissal Lost = 3
place_of_dismissal NoRoom = 4
place_of_dismissal OtherServer = 5
place_of_dismissal NotFound = 6
place_of_dismissal Unclear = 7
place_of_dismissal Forbidden = 8
place_of_dismissal NotTaken = 9
place_of_dismissal NotOpened = 10

-- what a reason is called
abbrev pub name_of_dismissal : Dismissal → List ℕ
name_of_dismissal LongBody = codes "body over the limit"
name_of_dismissal LongHead = codes "head over the limit"
name_of_dismissal NoRequest = codes "no request"
name_of_dismissal Lost = codes "connection lost"
name_of_dismissal NoRoom = codes "out of memory"
name_of_dismissal OtherServer = codes "for another server"
name_of_dismissal NotFound = codes "not found"
name_of_dismissal Unclear = codes "unclear command"
name_of_dismissal Forbidden = codes "forbidden"
name_of_dismissal NotTaken = codes "command not taken"
name_of_dismissal NotOpened = codes "no push opened"
