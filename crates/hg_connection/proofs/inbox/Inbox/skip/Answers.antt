use Rattle.std.proofs.Common.{ℕ, ◌≡◌, ◌≤◌, ◌+◌, ◌-◌, List, ap, ◌∙◌, arith, length, take, drop}
use Rattle.std.proofs.lemmas.List.{length-take}
use Rattle.hg_connection.proofs.Waiting.{skips}
use Rattle.hg_connection.proofs.inbox.Inbox.skip.Goals as goal

pub returns : goal.returns
returns c =
    let b = c.self.inside.buffer in
    let from = c.self.inside.from in
    let to = c.self.inside.to in
    let is = c.self.view_is in
    let long : length (take (to - from) (drop from b)) ≡ length c.args.self.now =
    ap (λ (l : List ℕ). length l) is in
    let fits : from + c.args.count ≤ to = omega
    (arith, long, c.requires, length-take (to - from) (drop from b), c.self.invariant.0) in
    skips b from to c.args.count fits ∙ ap (λ (l : List ℕ). drop c.args.count l) is
