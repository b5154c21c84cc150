-- What the taker of a desk waits for.
use Rattle.std.specs.Prelude.{◌≡◌, ℕ}
use Rattle.std.specs.Prelude.{Option, Some, None}
use Rattle.hg_queue.specs.declared.view.Claim.{Claim}
use Rattle.hg_serve.specs.Desks.{DeskView}

-- this push's mark is awaited
pub record Awaits {A : Type 0} (d : DeskView A) (push : ℕ) : Type 0 where
  pub claim : Claim A
  pub awaited : d.taker.awaited ≡ Some claim
  pub mine : claim.push ≡ push

-- where the awaited mark stands among all items that were ever put
abbrev pub mark_place : {A : Type 0} → Option (Claim A) → ℕ
mark_place None = 0
mark_place (Some c) = c.place
