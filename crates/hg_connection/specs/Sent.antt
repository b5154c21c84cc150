-- What becomes of bytes that are sent to a writer.
use Rattle.std.specs.Prelude.{ℕ, ◌≡◌, ◌≢◌, ◌≤◌, ◌⊎◌, List, [], ◌∷◌, ◌++◌, All, drop, length, map, take}
use Rattle.std.specs.List.{concat}
use Rattle.std.specs.Io.KnownBytes.{Appends}
use Rattle.hg_connection.specs.declared.sending.Sending.{Sending}
use Rattle.hg_connection.specs.declared.sending.Sending.TheVariants.{Whole, Broken, NoMemory}
use Rattle.hg_connection.specs.Devices.{Output, WriteAnswer, Took, Refused, Flushed, NotFlushed, TellsMore}

-- what was not written, and the last write, where it took none of that or failed
abbrev pub StopsShort : List ℕ → List WriteAnswer → Type 0
StopsShort rest last = (rest ≢ []) × ((last ≡ Took [] ∷ []) ⊎ (last ≡ Refused ∷ []))

-- So many of the bytes were written, by these writes, one after the other. Each of them took some bytes;
-- then all were written, or one more write took none or failed, and no further one was made.
pub record Writes (before after : Output) (all : List ℕ) (sent : ℕ) : Type 0 where
  pub pieces : List (List ℕ)
  pub last : List WriteAnswer
  pub each : All (λ piece. 1 ≤ length piece) pieces
  pub sent_is : concat pieces ≡ take sent all
  pub bytes : Appends before.taken after.taken (concat pieces)
  pub uses : TellsMore before.uses after.uses (map Took pieces ++ last)
  pub ends : ((sent ≡ length all) × (last ≡ [])) ⊎ ((sent ≤ length all) × StopsShort (drop sent all) last)

-- what was not written, and the last use of the writer
abbrev pub LastUse : Sending → List (List ℕ) → List ℕ → List WriteAnswer → Type 0
LastUse Whole pieces rest last = (rest ≡ []) × (last ≡ Flushed ∷ [])
LastUse Broken pieces rest last = StopsShort rest last ⊎ ((rest ≡ []) × (last ≡ NotFlushed ∷ []))
LastUse NoMemory pieces rest last = (pieces ≡ []) × (last ≡ [])

-- Of a reply these bytes went out, by these uses of the writer: writes, one after the other, of which each
-- took some bytes. Then it was whole and was flushed; or one more write took none or failed, or the flush
-- failed, and the writer was not used again; or memory was refused for the reply, and the writer was not
-- used.
pub record IsSent (sending : Sending) (gone : List ℕ) (uses : List WriteAnswer)
    (reply : List ℕ) : Type 0 where
  pub pieces : List (List ℕ)
  pub rest : List ℕ
  pub last : List WriteAnswer
  pub each : All (λ piece. 1 ≤ length piece) pieces
  pub gone_is : gone ≡ concat pieces
  pub uses_are : uses ≡ map Took pieces ++ last
  pub reply_is : reply ≡ gone ++ rest
  pub ends : LastUse sending pieces rest last

-- A reply was sent so, and the writer took so many bytes of it.
pub record Sends (sending : Sending) (count : ℕ) (before after : Output) (reply : List ℕ) : Type 0 where
  pub gone : List ℕ
  pub uses : List WriteAnswer
  pub sent : IsSent sending gone uses reply
  pub count_is : count ≡ length gone
  pub bytes : Appends before.taken after.taken gone
  pub told : TellsMore before.uses after.uses uses
