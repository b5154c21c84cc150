-- A look at the repository, given once it is kept.
use Rattle.std.specs.Prelude.{ℕ, ◌≡◌, ◌≤◌}
use Rattle.hg_commit.specs.Clients.{KeptSeen}
use Rattle.hg_commit.specs.Orders.{Comes, HasGrown, ReceiptView}
use Rattle.hg_commit.specs.Records.{done_in}
use Rattle.hg_parts.specs.Repository.{Repository}
use Rattle.hg_push.specs.Run.{RepositoryOf}
use Rattle.hg_serve.specs.Answers.{Looks}

-- A request came, and so many done pushes were promised to be on the device by then, to whatever client. Then the
-- repository at one point of the serial order was looked at, which has as many done pushes or more, and is not of
-- before what the client was answered. All pushes that are done by then were on the device, and the client's receipt
-- has a promise of them; with beats this rests on one that began behind the request. It is one look for one request: no
-- other request of this client came until it was answered.
pub record LooksKept {A : Type 0} (first : RepositoryOf A) (kept : ReceiptView → KeptSeen A → ℕ → Type 0)
    (before after : KeptSeen A) (Answers : Repository A → Type 0) : Type 0 where
  pub asked : ReceiptView
  pub promised : ℕ
  pub comes : Comes before.receipt asked promised
  pub one : after.receipt.came ≡ asked.came
  pub repo : Repository A
  pub looks : Looks first before.history after.history repo
  pub has_all : promised ≤ done_in first after.history
  pub grows : HasGrown asked after.receipt
  pub is_kept : kept asked after (done_in first after.history)
  pub answers : Answers repo
