-- A question to a hook over HTTP, and its answer.
use Rattle.std.specs.Prelude.{ℕ, ◌≡◌, ⊤, List, ◌++◌, Option, None, Some}
use Rattle.std.specs.Io.KnownBytes.{Appends, Consumes}
use Rattle.httparse.specs.Grammar.{IsResponseHead, print_response, ResponseHead, status_code}

-- What was sent: a head, and then the bundle, byte for byte.
pub record Sends (before after : Option (List ℕ)) (bundle : List ℕ) : Type 0 where
  pub head : List ℕ
  pub written : Appends before after (head ++ bundle)

-- In these bytes stands the head of a response with this status.
pub record HoldsHead (bytes : List ℕ) (status : ℕ) : Type 0 where
  pub before : List ℕ
  pub head : ResponseHead
  pub after : List ℕ
  pub is_head : IsResponseHead head
  pub bytes_are : bytes ≡ before ++ (print_response head ++ after)
  pub status_is : status ≡ status_code head

-- What was read of an answer with this status: bytes in which its head stands.
pub record Receives (input left : Option (List ℕ)) (status : ℕ) : Type 0 where
  pub text : List ℕ
  pub given : Consumes input left text
  pub holds : HoldsHead text status

-- a status that was read stands in these bytes
abbrev pub HoldsStatus : List ℕ → Option ℕ → Type 0
HoldsStatus bytes None = ⊤
HoldsStatus bytes (Some status) = HoldsHead bytes status
