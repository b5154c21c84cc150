-- Parts that were read from a bundle.
use Rattle.std.specs.Prelude.{ℕ, ◌<◌, ◌^◌, List, length}
use Rattle.hg_types.specs.declared.part.Part.{Part}
use Rattle.hg_params.specs.declared.head.Head.{Head}
use Rattle.hg_params.specs.Header.{IsHeader}

-- what the header of a part says
abbrev pub head_of : {A : Type 0} → Part A → Head A
head_of part = record { kind = part.kind; id = part.id; params = part.params }

-- the part is what some header says, with a payload that one chunk can have
pub record WasRead {A : Type 0} (part : Part A) : Type 0 where
  pub header : List ℕ
  pub reads : IsHeader header (head_of part)
  pub payload : length part.payload < 2 ^ 31
