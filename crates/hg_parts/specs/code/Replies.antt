-- What code needs to know of a reply before it makes it.
use Rattle.std.specs.Prelude.{◌≡◌, ◌≢◌, ◌<◌, ℕ, true, List, length, codes}
use Rattle.hg_params.specs.Header.{is_kind}

-- the type, the name and the value can stand in the header of a reply
pub record CanReply (kind key value : List ℕ) : Type 0 where
  pub kind_is : is_kind kind ≡ true
  pub kind_fits : length kind < 256
  pub key_fits : length key < 256
  pub key_differs : codes "in-reply-to" ≢ key
  pub value_fits : length value < 256
