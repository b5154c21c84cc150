-- What an end leaves of a store, opened again.
use Rattle.std.specs.Prelude.{ℕ, ◌≡◌, ◌≤◌, ◌<◌, Bool, List, ◌++◌, All, length, take}
use mathlib.Core.List.{IsPrefix}
use Rattle.hg_parts.specs.declared.item.Taken.{Taken}
use Rattle.hg_store.specs.Entries.{Entry}
use Rattle.hg_store.specs.declared.head.Head.{Head}
use Rattle.hg_store.specs.Files.{StandsFor}
use Rattle.hg_push.specs.Changed.{OneByOne}
use Rattle.hg_push.specs.History.{parts}
use Rattle.hg_push.specs.Places.{IsPlace}
use Rattle.hg_push.specs.Run.{RepositoryOf, run_push}
use Rattle.hg_serve.specs.Histories.{newest_first, serial_run}
use Rattle.hg_commit.specs.Clients.{KeptSeen}
use Rattle.hg_commit.specs.Promises.{Promise}
use Rattle.hg_commit.specs.Records.{done_in}
use Rattle.hg_recovery.specs.Opening.{IsRecovered}

-- So many pushes at least are done in the history. The first so many of its journal, run one by one from the first
-- repository, lead to this one.
pub record IsAfter {A : Type 0} (first : RepositoryOf A) (h : List (Taken A)) (count : ℕ) (repo : RepositoryOf A) :
    Type 0 where
  pub done : count ≤ done_in first h
  pub ran : OneByOne run_push (λ p. parts p (newest_first h)) first (take count (serial_run first h).journal) repo

-- The server had this repository itself, after the first items of its history, when so many pushes were done.
pub record WasThere {A : Type 0} (first : RepositoryOf A) (h : List (Taken A)) (count : ℕ) (repo : RepositoryOf A) :
    Type 0 where
  pub before : List (Taken A)
  pub began : IsPrefix before h
  pub number : done_in first before ≡ count
  pub had : repo ≡ (serial_run first before).repo

-- The file stands for the records that the server began with and, after them, so many more at least. Run one by one on
-- the empty repository, all of them lead to the one to which as many pushes lead, the first of the server's journal. No
-- opening of the file finds other records, or serves another repository.
pub record Recovers {A : Type 0} (publishing : Bool) (head : Head) (stored : List Entry) (first : RepositoryOf A)
    (h : List (Taken A)) (least : ℕ) (file : List ℕ) : Type 0 where
  pub records : List Entry
  pub stands : StandsFor head (stored ++ records) file
  pub enough : least ≤ length records
  pub repo : RepositoryOf A
  pub recovered : IsRecovered publishing head (stored ++ records) repo
  pub after : IsAfter first h (length records) repo
  pub alone : (other : Head) (found : List Entry) (served : RepositoryOf A) → StandsFor other found file
      → IsRecovered publishing other found served → (found ≡ stored ++ records) × (served ≡ repo)

-- A push that is done by the history of a client is one of the first so many of a journal, at the same place and with
-- the same parts.
pub record IsAmong {A : Type 0} (first : RepositoryOf A) (client h : List (Taken A)) (count p place : ℕ) : Type 0
  where
    pub at : IsPlace run_push first (newest_first h) p place
    pub below : place < count
    pub same : parts p (newest_first h) ≡ parts p (newest_first client)

-- Whatever an end has left since this promise, opened again, gives the repository of the first pushes of a journal, as
-- many as the promise counts or more. Each push that is done by what the client has seen, at a place that the promise
-- counts, is one of these.
pub record FindsAgain {A D : Type 0} (left_since : D → ℕ → List ℕ → Type 0) (publishing : Bool) (head : Head)
    (stored : List Entry) (first : RepositoryOf A) (h : List (Taken A)) (device : D) (client : KeptSeen A)
    (promise : Promise) : Type 0 where
  pub opened : (file : List ℕ) → left_since device promise.moment file
      → Recovers publishing head stored first h promise.count file
  pub among : (p place : ℕ) → IsPlace run_push first (newest_first client.history) p place → place < promise.count
      → (file : List ℕ) → (left : left_since device promise.moment file)
      → IsAmong first client.history h (length (opened file left).records) p place

-- A server ended with this history, and these clients. Whatever an end leaves from now on, opened again, gives the
-- repository of the first pushes of the journal of one history, which begins the server's: all that were brought to
-- the device. And all that these clients were answered rests on is found again, whatever an end has left since.
pub record FindsAll {A D : Type 0} (left_since : D → ℕ → List ℕ → Type 0) (may_leave : D → List ℕ → Type 0)
    (publishing : Bool) (head : Head) (stored : List Entry) (first : RepositoryOf A)
    (clients : List (KeptSeen A)) (whole : List (Taken A)) (kept : ℕ) (device : D) : Type 0 where
  pub h : List (Taken A)
  pub begins : IsPrefix h whole
  pub now : (file : List ℕ) → may_leave device file → Recovers publishing head stored first h kept file
  pub each : All (λ c. All (FindsAgain left_since publishing head stored first h device c) c.receipt.promises)
      clients
