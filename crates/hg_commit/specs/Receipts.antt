-- What a tally promised.
use Rattle.std.specs.Prelude.{ℕ, ◌≡◌, List}
use Rattle.atomic_table.specs.Seated.{TableId}
use Rattle.hg_commit.specs.Orders.{Event}
use Rattle.hg_commit.specs.Promises.{Promise}

-- Which tally it is: no other has that name. And all that was promised, the latest last, how many writes began, and
-- what was seen of the one order of all that happened at it. And the name by which rooms for records are counted, and
-- how many parts that has.
pub record TallyView : Type 0 where
  pub id : TableId
  pub promises : List Promise
  pub begun : ℕ
  pub order : List Event
  pub name : ℕ
  pub parts : ℕ

-- it is the tally of these names, and no write began
abbrev pub IsTallyOf : TableId → ℕ → ℕ → TallyView → Type 0
IsTallyOf id name parts t = (t.id ≡ id) × (t.name ≡ name) × (t.parts ≡ parts) × (t.begun ≡ 0)
