use Rattle.std.proofs.Common.{◌≡◌, take}
use Rattle.std.specs.List.{flat_map}
use Rattle.hg_wireproto.specs.Form.{fields_by}
use Rattle.hg_wireproto.specs.code.Spellings.{spelled}
use Rattle.hg_wireproto.proofs.Pieces.{texts}
use Rattle.hg_wireproto.proofs.form.read_fields.Given as goal

-- the fields of the pieces so far
abbrev pub invariant-loop-piece : goal.invariant-loop-piece
invariant-loop-piece g l = l.fields ≡ flat_map (fields_by (spelled l.spelling)) (texts (take l.piece-index l.piece-items))
