use Rattle.hg_keys.proofs.GrammarLemmas.{grammar}
use Rattle.hg_keys.proofs.laws.reading_is_the_grammar.Goals as goal

pub returns : goal.returns
returns c = λ bytes entries are. grammar bytes entries are
