-- What a writer took of bundles.
use Rattle.std.proofs.Common.{◌≡◌, ◌⊎◌, inl, inr, ℕ, ◌+◌, ◌<◌, List, [], ◌∷◌, ◌++◌, length, take, refl, sym, ap, ◌∙◌}
use Rattle.std.proofs.Common.{subst, get_or}
use Rattle.std.proofs.lemmas.List.{append-nil, take_more}
use Rattle.std.specs.Io.KnownBytes.{Appends}
use Rattle.hg_store.specs.Entries.{Entry}
use Rattle.hg_connection.specs.declared.sending.Sending.{Sending}
use Rattle.hg_connection.specs.declared.sending.Sending.TheVariants.{Whole, Broken, NoMemory}
use Rattle.hg_connection.specs.Devices.{Output}
use Rattle.hg_connection.specs.Sent.{Sends}
use Rattle.hg_store_tools.specs.declared.fault.Fault.TheVariants.{NoMemory as out_of_memory, Unsent}
use Rattle.hg_store_tools.specs.Reporting.{sending_fault}

-- all of the bytes were taken
pub whole_sent : (count : ℕ) (before after : Output) (bytes : List ℕ) → Sends Whole count before after bytes
    → Appends before.taken after.taken bytes
whole_sent count before after bytes sends =
    let is : bytes ≡ sends.gone = sends.sent.reply_is ∙ ap (λ (l : List ℕ). sends.gone ++ l) sends.sent.ends.0
    ∙ append-nil sends.gone in
    subst (λ (l : List ℕ). Appends before.taken after.taken l) (sym is) sends.bytes

pub take_next : (rs : List Entry) (i : ℕ) (r : Entry) → i < length rs → r ≡ get_or rs i r
    → take (i + 1) rs ≡ take i rs ++ r ∷ []
take_next rs i r lt is = take_more rs i r lt ∙ ap (λ (x : Entry). take i rs ++ x ∷ []) (sym is)

pub fault_told : (sending : Sending) → (sending_fault sending ≡ Unsent) ⊎ (sending_fault sending ≡ out_of_memory)
fault_told Whole = inl refl
fault_told Broken = inl refl
fault_told NoMemory = inr refl
