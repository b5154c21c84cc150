-- The command `pushkey`: a push that sets one key.
use Rattle.std.specs.Prelude.{ℕ, ◌≡◌, nat_le, Bool, true, ◌&&◌, List, [], ◌∷◌, length, codes}
use Rattle.hg_types.specs.declared.part.Part.{Part}
use Rattle.hg_types.specs.declared.part.Param.{Param}
use Rattle.hg_wireproto.specs.declared.form.Field.{Field}
use Rattle.hg_http.specs.declared.key.KeyChange.{KeyChange}
use Rattle.hg_http.specs.Requests.{argument_in}

-- the change is what these arguments ask for
pub record IsChange {A : Type 0} (fields : List (Field A)) (change : KeyChange) : Type 0 where
  pub namespace : change.namespace.now ≡ argument_in fields (codes "namespace")
  pub key : change.key.now ≡ argument_in fields (codes "key")
  pub old : change.old.now ≡ argument_in fields (codes "old")
  pub new : change.new.now ≡ argument_in fields (codes "new")

-- a part's parameter holds no longer value
abbrev pub is_short : List ℕ → Bool
is_short value = nat_le (length value) 255

-- each of the four values is short enough for a parameter of a part
abbrev pub fits : List ℕ → List ℕ → List ℕ → List ℕ → Bool
fits namespace key old new = is_short namespace && (is_short key && (is_short old && is_short new))

-- a mandatory parameter
abbrev pub key_param : {A : Type 0} → List ℕ → List ℕ → Param A
key_param key value = record { mandatory = true; key = key; value = value }

-- the client wants a reply
abbrev pub replycaps_part : {A : Type 0} → Part A
replycaps_part = record { kind = codes "REPLYCAPS"; id = 0; params = []; payload = [] }

-- an advisory part, which may fail
abbrev pub key_part : {A : Type 0} → List ℕ → List ℕ → List ℕ → List ℕ → Part A
key_part namespace key old new = record {
  kind = codes "pushkey";
  id = 0;
  params = key_param (codes "namespace") namespace ∷ key_param (codes "key") key
      ∷ key_param (codes "old") old ∷ key_param (codes "new") new ∷ [];
  payload = [];
}

-- the parts of a push that sets one key
abbrev pub key_parts : {A : Type 0} → List ℕ → List ℕ → List ℕ → List ℕ → List (Part A)
key_parts namespace key old new = replycaps_part ∷ key_part namespace key old new ∷ []
