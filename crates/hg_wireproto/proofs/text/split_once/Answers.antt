use Rattle.std.proofs.Common.{◌+◌, ◌==◌, sym, ap, ◌∙◌, Some}
use Rattle.hg_wireproto.proofs.Pieces.{behind_some, behind_none, rest_whole}
use Rattle.hg_wireproto.proofs.text.split_once.Goals as goal

pub returns-in-Some-clause-behind : goal.returns-in-Some-clause-behind
returns-in-Some-clause-behind c =
    ap (λ xs. Some xs) (rest_whole (c.in-Some.place + 1) c.args.text.now)
    ∙ sym (behind_some (λ b. b == c.args.byte) c.args.text.now c.in-Some.place c.in-Some.ensures)

pub returns-in-None-clause-behind : goal.returns-in-None-clause-behind
returns-in-None-clause-behind c = sym (behind_none (λ b. b == c.args.byte) c.args.text.now c.in-None.ensures)
