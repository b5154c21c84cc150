-- The text of an entry, as the code has it.
use Rattle.std.specs.Prelude.{ℕ, List, drop}
use Rattle.hg_types.specs.declared.entry.Entry.{Entry}
use Rattle.hg_log.specs.declared.add.Text.{Text}
use Rattle.hg_log.specs.declared.add.Text.TheVariants.{Behind, Made}

-- what its delta has after so many bytes, or bytes that were made of it
abbrev pub text_in : {A : Type 0} → Entry A → Text A → List ℕ
text_in entry (Behind head) = drop head entry.delta
text_in entry (Made text) = text
