-- What is shown without a command.
use Rattle.std.specs.Prelude.{ℕ, ◌≡◌, ◌⊎◌, List, ◌++◌, Result, Ok, Err}
use Rattle.hg_parts.specs.Repository.{Repository}
use Rattle.hg_repo.specs.Report.{journal_lines, report_of}
use Rattle.hg_http.specs.declared.view.StatusView.{StatusView}
use Rattle.hg_http.specs.declared.view.StatusView.TheVariants.{Page, Report, Metrics}
use Rattle.hg_http.specs.declared.answer.HttpAnswer.{HttpAnswer}
use Rattle.hg_http.specs.declared.answer.HttpAnswer.TheVariants.{Shown, Refused}
use Rattle.hg_http.specs.declared.answer.RequestRefusal.TheVariants.{NoMemory}

-- the repository is shown by this text: a page and counters are what is asked to show them
abbrev pub IsViewed : {A : Type 0} → (Repository A → List ℕ → Type 0) → (Repository A → List ℕ → Type 0) →
    StatusView → Repository A → List ℕ → Type 0
IsViewed page metrics Page repo text = page repo text
IsViewed page metrics Metrics repo text = metrics repo text
IsViewed page metrics Report repo text = text ≡ report_of repo

-- after a report stands a line for each stored push
abbrev pub finished : StatusView → ℕ → List ℕ → List ℕ
finished Page count text = text
finished Metrics count text = text
finished Report count text = text ++ journal_lines count

-- the answer shows a view with so many stored pushes, or there was no memory for it
abbrev pub IsShown : {A E : Type 0} → StatusView → ℕ → Result (List ℕ) E → HttpAnswer A → Type 0
IsShown view count (Ok text) answer =
    (answer ≡ Shown view (finished view count text)) ⊎ (answer ≡ Refused NoMemory)
IsShown view count (Err e) answer = answer ≡ Refused NoMemory
