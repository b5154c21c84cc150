use Rattle.std.proofs.Common.{◌∙◌, sym}
use Rattle.std.proofs.lemmas.Bool.{true≢false}
use Rattle.hg_queries.proofs.long.heads_for.Goals as goal

-- no piece asks for it
pub returns : goal.returns
returns g c asked = absurd (true≢false (sym asked ∙ sym c.ask_heads.ensures ∙ c.if-ask_heads.false))
