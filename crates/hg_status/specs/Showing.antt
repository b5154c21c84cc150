-- What is shown of a repository.
use Rattle.std.specs.Prelude.{ℕ, ◌≡◌, ◌≤◌, List, length}
use Rattle.hg_phases.specs.Counts.{counts_of}
use Rattle.hg_parts.specs.Repository.{Repository}
use Rattle.hg_status.specs.declared.summary.Summary.{Summary}
use Rattle.hg_status.specs.Holdings.{AreCounted, AreShown}
use Rattle.hg_status.specs.Metrics.{metrics_of}
use Rattle.hg_status.specs.Page.{IsPageOf}

-- The page of a summary whose numbers and heads are those of the repository. It has less than 64 KiB.
pub record IsRepositoryPage {A : Type 0} (top : List ℕ) (repo : Repository A) (text : List ℕ) : Type 0 where
  pub summary : Summary A
  pub publishing : summary.publishing ≡ repo.settings.publishing
  pub counted : AreCounted repo.rows repo.markers repo.bookmarks summary.holdings
  pub phases : summary.phases ≡ counts_of repo.phases
  pub heads : AreShown repo.rows repo.phases repo.bookmarks summary.holdings
  pub told : IsPageOf top summary text
  pub short : length text ≤ 65535

-- The counters of a summary whose numbers are those of the repository, each phase's too.
pub record ArePageMetrics {A : Type 0} (repo : Repository A) (text : List ℕ) : Type 0 where
  pub summary : Summary A
  pub counted : AreCounted repo.rows repo.markers repo.bookmarks summary.holdings
  pub phases : summary.phases ≡ counts_of repo.phases
  pub told : text ≡ metrics_of summary
