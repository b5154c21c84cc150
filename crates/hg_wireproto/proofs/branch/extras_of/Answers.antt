use Rattle.std.proofs.Common.{ap, ◌∙◌, List, ℕ, Bor}
use Rattle.std.specs.Option.{option_map}
use Rattle.hg_wireproto.proofs.Extras.{extras_some, extras_none}
use Rattle.hg_wireproto.proofs.Fields.{unwrapped}
use Rattle.hg_wireproto.proofs.branch.extras_of.Goals as goal

pub returns-in-Some : goal.returns-in-Some
returns-in-Some c =
    extras_some c.args.text.now c.in-Some.line.now c.unwrap_or.result.now _ _ c.third_line.ensures
    (ap (option_map (λ (t : Bor (List ℕ)). t.now)) c.in-Some.is) c.behind_second.ensures
    (ap (λ (t : Bor (List ℕ)). t.now) c.unwrap_or.ensures
    ∙ unwrapped c.behind_second.result c.as_slice.result c.as_slice.ensures)

pub returns-in-None : goal.returns-in-None
returns-in-None c =
    extras_none c.args.text.now c.as_slice-in-None.result.now _ c.third_line.ensures
    (ap (option_map (λ (t : Bor (List ℕ)). t.now)) c.in-None.is) c.as_slice-in-None.ensures
