-- What a run leaves for the reply to its push.
use Rattle.std.specs.Prelude.{ℕ, ◌≡◌, ◌≤◌, List, [], All, length}
use Rattle.hg_types.specs.declared.part.Part.{Part}
use Rattle.hg_params.specs.Writing.{IsWritable}

-- The replies to so many parts: at most one for each, with a header that can be written and no payload.
pub record AreReplies {A : Type 0} (count : ℕ) (replies : List (Part A)) : Type 0 where
  pub few : length replies ≤ count
  pub writable : All IsWritable replies
  pub bare : All (λ reply. reply.payload ≡ []) replies
