-- The readers of the payloads that may be open at once.
use Rattle.hg_chunks.specs.declared.payload.PayloadIn.{PayloadIn}
use Rattle.hg_stream.specs.declared.payloads.Level.{Level}
use Rattle.hg_stream.specs.declared.payloads.Level.TheVariants as level
use Rattle.hg_stream.specs.declared.payloads.Payloads.{Payloads}

-- the reader at that level
abbrev pub reader_at : {A : Type 0} → Level → Payloads A → PayloadIn A
reader_at level.Part payloads = payloads.part
reader_at level.Interrupting payloads = payloads.interrupting
