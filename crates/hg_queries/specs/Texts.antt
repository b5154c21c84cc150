-- What the commands that only read are answered.
use Rattle.std.specs.Prelude.{ℕ, ◌≡◌, Bool, ◌&&◌, List, [], Option, Some, None, is_some, codes, count_by, length}
use Rattle.std.specs.Prelude.{bytes_eq, if◌then◌else◌, nat_le}
use Rattle.std.specs.List.{AllZip, list_all}
use Rattle.hg_parts.specs.Repository.{Repository}
use Rattle.hg_wireproto.specs.declared.batch.BatchCommand.{BatchCommand}
use Rattle.hg_wireproto.specs.Batch.{answers_joined}
use Rattle.hg_wireproto.specs.BranchMap.{IsBranchMap}
use Rattle.hg_wireproto.specs.Heads.{IsHeadsText, known_text}
use Rattle.hg_wireproto.specs.ListKeys.{listkeys_text}
use Rattle.hg_wireproto.specs.Lookup.{lookup_text}
use Rattle.hg_http.specs.declared.answer.RequestRefusal.{RequestRefusal}
use Rattle.hg_http.specs.declared.answer.RequestRefusal.TheVariants.{BadBatch, LongBatch}
use Rattle.hg_http.specs.declared.command.Read.{Read}
use Rattle.hg_http.specs.declared.command.Read.TheVariants.{Heads, Known, ListKeys, Lookup, BranchMap}
use Rattle.hg_http.specs.Commands.{read_of, subject_of}
use Rattle.hg_http.specs.Requests.{argument_in}

-- Asked about that, the repository answers this text.
abbrev pub IsTextOf : {A : Type 0} → Repository A → Read → List ℕ → List ℕ → Type 0
IsTextOf repo Heads about text = IsHeadsText repo.rows text
IsTextOf repo Known about text = text ≡ known_text repo.rows about
IsTextOf repo ListKeys about text =
    text ≡ listkeys_text repo.rows repo.phases repo.bookmarks repo.settings.publishing about
IsTextOf repo Lookup about text = text ≡ lookup_text repo.rows repo.bookmarks about
IsTextOf repo BranchMap about text = IsBranchMap repo.rows repo.markers repo.phases text

-- a name of no command that reads has no answer; a batch with one is refused
abbrev pub IsTextIf : {A : Type 0} → Repository A → BatchCommand A → Option Read → List ℕ → Type 0
IsTextIf repo command None text = text ≡ []
IsTextIf repo command (Some read) text =
    IsTextOf repo read (argument_in command.arguments (subject_of read)) text

-- a command of a batch is answered this text
abbrev pub IsCommandText : {A : Type 0} → Repository A → BatchCommand A → List ℕ → Type 0
IsCommandText repo command text = IsTextIf repo command (read_of command.name) text

-- A batch is answered this text: those of its commands, in order, escaped, with a `;` between, all of the same
-- repository.
pub record IsBatchText {A : Type 0} (repo : Repository A) (commands : List (BatchCommand A))
    (text : List ℕ) : Type 0 where
  pub texts : List (List ℕ)
  pub each : AllZip (IsCommandText repo) commands texts
  pub joined : text ≡ answers_joined texts

-- a command only reads
abbrev pub is_read : {A : Type 0} → BatchCommand A → Bool
is_read command = is_some (read_of command.name)

-- all of a batch's commands do
abbrev pub are_reads : {A : Type 0} → List (BatchCommand A) → Bool
are_reads commands = list_all is_read commands

-- a command looks up a key
abbrev pub is_lookup : {A : Type 0} → BatchCommand A → Bool
is_lookup command = bytes_eq command.name (codes "lookup")

-- a batch has at most 16 commands, of which at most 4 look up a key
abbrev pub is_short : {A : Type 0} → List (BatchCommand A) → Bool
is_short commands = nat_le (length commands) 16 && nat_le (count_by is_lookup commands) 4

-- Why a batch is refused, if it is: a command of it does not only read, or it is not short.
unfoldable pub refusal_of : {A : Type 0} → List (BatchCommand A) → Option RequestRefusal
refusal_of commands =
    if are_reads commands then (if is_short commands then None else Some LongBatch) else Some BadBatch
