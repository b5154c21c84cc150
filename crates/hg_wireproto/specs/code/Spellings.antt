-- How the fields of a form and those of a command in a batch are spelled.
use Rattle.std.specs.Prelude.{ℕ, ◌==◌, List}
use Rattle.std.specs.List.{flat_map, slice_split}
use Rattle.hg_wireproto.specs.declared.form.Field.{Field}
use Rattle.hg_wireproto.specs.declared.form.Spelling.{Spelling}
use Rattle.hg_wireproto.specs.declared.form.Spelling.TheVariants.{Form, Batch}
use Rattle.hg_wireproto.specs.Form.{fields_by, plain_of}
use Rattle.hg_wireproto.specs.Batch.{unescaped}

-- the byte between fields
abbrev pub separator_of : Spelling → ℕ
separator_of Form = 38
separator_of Batch = 44

-- what a name or a value stands for
abbrev pub spelled : Spelling → List ℕ → List ℕ
spelled Form text = plain_of text
spelled Batch text = unescaped text

-- the fields of a text, in order
abbrev pub fields_spelled : {A : Type 0} → Spelling → List ℕ → List (Field A)
fields_spelled spelling text = flat_map (fields_by (spelled spelling)) (slice_split (λ b. b == separator_of spelling) text)
