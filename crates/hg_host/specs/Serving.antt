-- A connection to a store that is served, and the end of its service.
use Rattle.std.specs.Prelude.{ℕ, ◌≡◌, Bool, List, Option, All}
use Rattle.hg_parts.specs.Repository.{Repository}
use Rattle.hg_push.specs.Run.{RepositoryOf}
use Rattle.hg_queue.specs.Words.{history}
use Rattle.hg_serve.specs.Histories.{serial_run}
use Rattle.hg_store.specs.Entries.{Entry}
use Rattle.hg_store.specs.declared.head.Head.{Head}
use Rattle.hg_commit.specs.Clients.{IsKept, KeptSeen}
use Rattle.hg_commit.specs.Orders.{ReceiptView}
use Rattle.hg_durable.specs.Closing.{ClosesKept}
use Rattle.hg_durable.specs.declared.closing.ClosedKept.{ClosedKept}
use Rattle.hg_http.specs.Policies.{Asked}
use Rattle.hg_web.specs.declared.serve.ConnectionEnd.{ConnectionEnd}
use Rattle.hg_web.specs.declared.terms.WebTerms.{WebTerms}
use Rattle.hg_web.specs.Serving.{ServesHttp}
use Rattle.hg_recovery.specs.Opening.{IsRecovered}

-- what contracts see of a service: how many pushes the store had when it was opened, and whether it publishes
pub record HostView : Type 0 where
  pub stored : ℕ
  pub publishing : Bool

-- The records of the store led to the repository that the server began with. A client was served over HTTP, on
-- terms that count the records, with answers that rest on what is on the device, by its receipt, and maybe on beats.
pub record HostsHttp {A S : Type 0} (capacity : ℕ) (first : RepositoryOf A) (head : Head)
    (stored : List Entry) (kept : Bool → ReceiptView → KeptSeen A → ℕ → Type 0)
    (page metrics : S → Repository A → List ℕ → Type 0) (beats : Bool) (view : HostView) (asked said : Asked A) (before : KeptSeen A)
    (input left out sent : Option (List ℕ)) (end : ConnectionEnd) (after : KeptSeen A) : Type 0 where
  pub recovered : IsRecovered view.publishing head stored first
  pub terms : WebTerms S
  pub count : terms.stored ≡ view.stored
  pub serves : ServesHttp capacity first kept page metrics terms beats asked said before input left out sent end after

-- A client came back from a connection to the service that was served, from some reader to some writer.
pub record WasHosted {A S : Type 0} (capacity : ℕ) (first : RepositoryOf A) (head : Head)
    (stored : List Entry) (kept : Bool → ReceiptView → KeptSeen A → ℕ → Type 0)
    (page metrics : S → Repository A → List ℕ → Type 0) (beats : Bool) (after : KeptSeen A) : Type 0 where
  pub view : HostView
  pub asked : Asked A
  pub said : Asked A
  pub before : KeptSeen A
  pub input : Option (List ℕ)
  pub left : Option (List ℕ)
  pub out : Option (List ℕ)
  pub sent : Option (List ℕ)
  pub end : ConnectionEnd
  pub hosts : HostsHttp capacity first head stored kept page metrics beats view asked said before input left out sent end
      after

-- The service of a store was closed, with clients that came back from its connections, and left this. What the law
-- of recovery asks of an end holds with them: the records of the store led to the repository that the server began
-- with, and what an end of the process or the machine might have left since one of them was answered has all that the
-- answer rests on. The repository and the journal are those of the whole history. Each client was served with beats, if
-- there were any.
pub record EndsHost {A D S : Type 0} (seen : D → List ℕ) (may_leave : D → List ℕ → Type 0) (moment : D → ℕ)
    (left_since : D → ℕ → List ℕ → Type 0) (capacity : ℕ) (first : RepositoryOf A) (head : Head)
    (stored : List Entry) (opened : ℕ) (page metrics : S → Repository A → List ℕ → Type 0) (beats : Bool)
    (left : ClosedKept D A) : Type 0 where
  pub recovered : IsRecovered head.publishing head stored first
  pub clients : List (KeptSeen A)
  pub hosted : All (WasHosted capacity first head stored (IsKept seen may_leave moment head stored first) page
      metrics beats) clients
  pub closes : ClosesKept moment left_since may_leave head stored first opened clients (history left.closed.taker)
      left.kept left.log.device
  pub serial : serial_run first (history left.closed.taker)
      ≡ record { repo = left.closed.repo; journal = left.closed.journal.items }
