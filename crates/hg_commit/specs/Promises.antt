-- Promises of a ledger. They are of contracts alone.
use Rattle.std.specs.Prelude.{ℕ, ◌≤◌, List, All}
use Rattle.std.specs.Coded.{Coded, coded_list, coded×, coded_ℕ}
use base.Stored.{coded_via}

-- At this moment of a device so many records were on it for good, after those that it was opened with. It was made as
-- so many writes had begun: after the one of that number, if there was one. And the device had had so many beats then.
pub record Promise : Type 0 where
  pub count : ℕ
  pub moment : ℕ
  pub write : ℕ
  pub beats : ℕ

abbrev pub promise_coded : Coded Promise
promise_coded =
    coded_via (coded× (coded× coded_ℕ coded_ℕ) (coded× coded_ℕ coded_ℕ))
    (λ (p : Promise). ((p.count, p.moment), (p.write, p.beats)))
    (λ x y e i. record { count = (e i).0.0; moment = (e i).0.1; write = (e i).1.0; beats = (e i).1.1 })

-- a struct may have a list of promises as a ghost field
abbrev pub promises_coded : Coded (List Promise)
promises_coded = coded_list promise_coded

-- none of them says that the device had had more beats than these
abbrev pub SayAtMost : ℕ → List Promise → Type 0
SayAtMost beats promises = All (λ p. p.beats ≤ beats) promises

-- What a keeper knows: all promises that were made, how many writes began, and how many beats the device had had as the
-- last of them did.
pub record KeeperView : Type 0 where
  pub promises : List Promise
  pub begun : ℕ
  pub beats : ℕ
