-- What has been read of the requests of a connection.
use Rattle.std.specs.Prelude.{◌≡◌, ℕ, ◌+◌, ◌≤◌, true, false, List, [], ◌++◌, length, take}
use Rattle.http1.specs.declared.conn.Limits.{Limits}
use Rattle.http1.specs.declared.conn.Reading.{Reading}
use Rattle.http1.specs.declared.conn.Reading.TheVariants as Reads
use Rattle.http1.specs.declared.conn.Writing.TheVariants as Writes
use Rattle.http1.specs.declared.server.Server.{Server}
use Rattle.http1.specs.Message.{Request, ReadsRequests}
use Rattle.http1.specs.ServerTrace.{Seen, Trace}
use Rattle.hg_http.specs.declared.follow.Follower.{Follower}
use Rattle.hg_http.specs.declared.follow.Reader.{Reader}
use Rattle.hg_http.specs.declared.follow.RequestEnd.{RequestEnd}
use Rattle.hg_http.specs.declared.follow.RequestEnd.TheVariants.{More, End, Nothing}

-- the stream begins with so many requests, and the rest follows them
abbrev pub BeginsWith : Limits → List ℕ → ℕ → List ℕ → Type 0
BeginsWith limits stream count rest = (ms : List Request) × ReadsRequests limits stream ms rest × (length ms ≡ count)

-- the stream is so many whole requests, and nothing more
abbrev pub AreRequests : Limits → List ℕ → ℕ → Type 0
AreRequests limits stream count = BeginsWith limits stream count []

-- how many requests have begun and are not left yet
abbrev pub begun : Reading → ℕ
begun Reads.Head = 0
begun (Reads.Body d) = 1
begun Reads.Done = 1
begun Reads.Upgraded = 0
begun Reads.Closed = 0
begun (Reads.Failed e) = 0

-- whatever comes, what the server reads from here on are the requests after so many
abbrev pub LeadsOn : Limits → Server → List ℕ → List ℕ → ℕ → Type 0
LeadsOn limits server held stream count =
    (more : List ℕ) (later : Seen) (rest : List ℕ) → Trace server (held ++ more) later rest →
    BeginsWith limits (stream ++ more) (count + begun server.reading + length later.requests) rest

-- the stream was read so far: it begins with so many whole requests, and the server goes on in the one after them
pub record Goes (limits : Limits) (server : Server) (held stream : List ℕ) (count : ℕ) : Type 0 where
  pub same_limits : server.limits ≡ limits
  pub silent : server.writing ≡ Writes.Head
  pub leads : LeadsOn limits server held stream count
  pub rest : List ℕ
  pub whole : BeginsWith limits stream count rest

-- a reader is there in the stream, of which it has not read these bytes
abbrev pub IsAt : Reader → List ℕ → List ℕ → ℕ → Type 0
IsAt r held stream count = Goes r.limits r.server held stream count

-- by which limits it reads
abbrev pub limits_of : Follower → Limits
limits_of f = f.reader.limits

-- it could follow all that came
abbrev pub KeepsUp : Follower → Type 0
KeepsUp f = f.is_lost ≡ false

-- it has read the stream so far, which begins with so many whole requests
abbrev pub FollowsAt : Follower → List ℕ → ℕ → Type 0
FollowsAt f stream count = IsAt f.reader f.held.items stream count

-- Bytes came after those that it had read. It has read so many of them: all, where the request goes on, and those up
-- to its end, where it ends. It may have read all without being able to follow.
abbrev pub Finds : RequestEnd → Follower → Follower → List ℕ → ℕ → Type 0
Finds More old new bytes read = KeepsUp old × (read ≡ length bytes)
    × ((stream : List ℕ) (count : ℕ) → FollowsAt old stream count → FollowsAt new (stream ++ bytes) count)
Finds End old new bytes read = KeepsUp old × (read ≤ length bytes)
    × ((stream : List ℕ) (count : ℕ) → FollowsAt old stream count →
    AreRequests (limits_of new) (stream ++ take read bytes) (count + 1)
    × FollowsAt new (stream ++ take read bytes) (count + 1))
Finds Nothing old new bytes read = (new.is_lost ≡ true) × (read ≡ length bytes)

-- the same, by the limits that it had
abbrev pub Follows : Follower → Follower → List ℕ → RequestEnd → ℕ → Type 0
Follows old new bytes found read = (limits_of new ≡ limits_of old) × Finds found old new bytes read
