-- What a client has seen of a ledger that keeps its server's pushes.
use Rattle.std.specs.Prelude.{ℕ, ◌≡◌, ◌≤◌, Bool, true, List, Option, Some, None, Contains}
use mathlib.Core.List.{IsPrefix}
use Rattle.hg_parts.specs.declared.item.Taken.{Taken}
use Rattle.hg_store.specs.Entries.{Entry}
use Rattle.hg_store.specs.declared.head.Head.{Head}
use Rattle.hg_push.specs.Run.{RepositoryOf}
use Rattle.hg_commit.specs.Orders.{AreSeen, HasBeat, HasGrown, no_receipt, ReceiptView}
use Rattle.hg_commit.specs.Promises.{Promise}
use Rattle.hg_commit.specs.Records.{AreKept}

-- What a client has seen whose server keeps its pushes, and its receipt: all that it was answered rests on the
-- promises of it.
pub record KeptSeen (A : Type 0) : Type 0 where
  pub history : List (Taken A)
  pub receipt : ReceiptView

-- a receipt; where there is none yet, it has nothing
abbrev pub promised : Option ReceiptView → ReceiptView
promised None = no_receipt
promised (Some receipt) = receipt

-- it has seen that or more, and its receipt has all that it had, and maybe more
pub record IsLater {A : Type 0} (before after : KeptSeen A) : Type 0 where
  pub seen : IsPrefix before.history after.history
  pub grows : HasGrown before.receipt after.receipt

-- It has seen what it had. Its receipt has all that it had, and maybe more; no further request of it came.
pub record IsGranted {A : Type 0} (before after : KeptSeen A) : Type 0 where
  pub same : after.history ≡ before.history
  pub grows : HasGrown before.receipt after.receipt
  pub came : after.receipt.came ≡ before.receipt.came

-- A client, and how many done pushes that it was answered by are kept for it; and the record that was handed in for it,
-- if one was.
pub record KeptView (A : Type 0) : Type 0 where
  pub client : KeptSeen A
  pub rests : ℕ
  pub handed : List Entry

-- So many done pushes of a history were on a device, in a log. Among these promises is one of as many, or more, and
-- the moment of it is the one that the log's device had reached then.
pub record Covers {A D : Type 0} (seen : D → List ℕ) (may_leave : D → List ℕ → Type 0) (moment : D → ℕ)
    (head : Head) (stored : List Entry) (first : RepositoryOf A) (history : List (Taken A))
    (promises : List Promise) (rests : ℕ) : Type 0
  where
    pub kept : AreKept seen may_leave head stored first history rests
    pub promise : Promise
    pub has : Contains promises promise
    pub counts : rests ≤ promise.count
    pub reached : promise.moment ≡ moment kept.log.device

-- One of these promises is of so many records or more, and was made after the write of that number had begun, or a
-- later one.
pub record AreWritten (promises : List Promise) (rests write : ℕ) : Type 0 where
  pub promise : Promise
  pub has : Contains promises promise
  pub counts : rests ≤ promise.count
  pub written : write ≤ promise.write

-- So many done pushes that a client was answered by were on a device, and its receipt has a promise of them. The
-- client has seen its promises in the one order of all that happened.
pub record IsCovered {A D : Type 0} (seen : D → List ℕ) (may_leave : D → List ℕ → Type 0) (moment : D → ℕ)
    (head : Head) (stored : List Entry) (first : RepositoryOf A) (client : KeptSeen A) (rests : ℕ) : Type 0
  where
    pub covers : Covers seen may_leave moment head stored first client.history client.receipt.promises rests
    pub stands : AreSeen client.receipt

-- So many done pushes that a client was answered by were on a device, and its receipt has a promise of them. With beats
-- that rests on one which began behind its request: it had this receipt as that came.
pub record IsKept {A D : Type 0} (seen : D → List ℕ) (may_leave : D → List ℕ → Type 0) (moment : D → ℕ)
    (head : Head) (stored : List Entry) (first : RepositoryOf A) (beats : Bool) (asked : ReceiptView)
    (client : KeptSeen A) (rests : ℕ) : Type 0 where
  pub is_covered : IsCovered seen may_leave moment head stored first client rests
  pub has_beat : beats ≡ true → HasBeat asked client.receipt rests
