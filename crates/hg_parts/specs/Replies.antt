-- The parts of a reply: advisory, with two advisory parameters and no payload.
use Rattle.std.specs.Prelude.{◌≡◌, ℕ, Bool, true, false, List, [], ◌∷◌, codes}
use Rattle.std.specs.Prelude.{decimal, Option, Some, None}
use Rattle.hg_types.specs.declared.part.Part.{Part}
use Rattle.hg_types.specs.declared.part.Param.{Param}
use Rattle.hg_params.specs.Writing.{IsWritable}

-- an advisory parameter
abbrev pub answering : {A : Type 0} → List ℕ → List ℕ → Param A
answering key value = record { mandatory = false; key = key; value = value }

-- The reply of that type to the part with that id: it has the id, and under that name one value more. Its
-- own id is given by its place among the replies.
unfoldable pub reply_part : {A : Type 0} → List ℕ → ℕ → List ℕ → List ℕ → Part A
reply_part kind id key value = record {
  kind = kind;
  id = 0;
  params = answering (codes "in-reply-to") (decimal id) ∷ answering key value ∷ [];
  payload = [];
}

-- the reply, where the client reads one
abbrev pub reply_where : {A : Type 0} → Bool → Part A → Option (Part A)
reply_where true reply = Some reply
reply_where false reply = None

-- It can be written: its header by its own, and no bytes are in its payload.
pub record IsReply {A : Type 0} (reply : Part A) : Type 0 where
  pub writable : IsWritable reply
  pub bare : reply.payload ≡ []
