-- What the answers of a connection hold of a budget.
use Rattle.std.specs.Prelude.{ℕ, ◌≡◌, ◌+◌, ◌-◌, ◌⊎◌, List, [], length}
use Rattle.hg_http.specs.declared.answer.HttpAnswer.{HttpAnswer}
use Rattle.hg_http.specs.declared.answer.HttpAnswer.TheVariants.{Forbidden, Misaddressed, Moved, NotFound, NotLet, Refused, Shown, Text}
use Rattle.hg_http.specs.declared.answer.RequestRefusal.TheVariants.{NoMemory}

-- the text of an answer that may be long
abbrev pub text_in : {A : Type 0} → HttpAnswer A → List ℕ
text_in (Text text) = text
text_in (Shown view text) = text
text_in (Refused why) = []
text_in (NotLet why) = []
text_in Forbidden = []
text_in NotFound = []
text_in (Misaddressed fault) = []
text_in (Moved address) = []

-- how many bytes of an answer count: a short one is free
abbrev pub counted : {A : Type 0} → HttpAnswer A → ℕ
counted answer = length (text_in answer) - 16384

-- There is room for an answer, and so many more bytes are held; or there is none, and it is as if there were no memory
-- for it.
abbrev pub IsHeld : {A : Type 0} → HttpAnswer A → ℕ → HttpAnswer A → ℕ → Type 0
IsHeld answer before held after =
    ((held ≡ answer) × (after ≡ before + counted answer)) ⊎ ((held ≡ Refused NoMemory) × (after ≡ before))
