-- What running a push gives: the one place in which the book's words meet those of the repository.
use Rattle.hg_parts.specs.declared.refusal.Refusal.{Refusal}
use Rattle.hg_parts.specs.declared.source.Source.TheVariants.{Push}
use Rattle.hg_parts.specs.Repository.{Repository}
use Rattle.hg_repo.specs.declared.done.Done.{Done}
use Rattle.hg_repo.specs.Run.{run_of}
use Rattle.hg_push.specs.Book.{Book}
use Rattle.hg_push.specs.History.{Running}

-- the value of a repository
abbrev pub RepositoryOf : Type 0 → Type 0
RepositoryOf A = Repository A

-- the value of a book over such a repository
abbrev pub BookOf : Type 0 → Type 0
BookOf A = Book A (RepositoryOf A) (Done A) (Refusal A)

-- a push's parts are run as a client's
abbrev pub run_push : {A : Type 0} → Running A (RepositoryOf A) (Done A) (Refusal A)
run_push = run_of Push
