-- What is written of data is a whole payload with that data.
use Rattle.std.proofs.Common.{ℕ, ◌<◌, ◌^◌, List, [], ◌∷◌, ◌++◌, length, refl, sym, ap, arith}
use Rattle.std.proofs.lemmas.List.{append-nil}
use Rattle.hg_chunks.specs.Payload.{Chunk, chunk_bytes, closing, IsPayload, payload_bytes}

pub written_payload : (bytes : List ℕ) → length bytes < 2 ^ 31 → IsPayload (payload_bytes bytes) bytes
written_payload [] small = record { items = []; each = tt; spelled = refl; joins = refl }
written_payload (byte ∷ bytes) small = record {
  items = Chunk (byte ∷ bytes) ∷ [];
  each = ((omega arith, small), tt);
  spelled = ap (λ (x : List ℕ). x ++ closing) (sym (append-nil (chunk_bytes (byte ∷ bytes))));
  joins = sym (append-nil (byte ∷ bytes));
}
