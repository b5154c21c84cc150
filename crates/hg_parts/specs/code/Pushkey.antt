-- How code refuses a `pushkey` part.
use Rattle.std.specs.Prelude.{ℕ}
use Rattle.hg_keys.specs.declared.fault.KeyFault.{KeyFault}
use Rattle.hg_keys.specs.declared.fault.KeyFault.TheVariants.{NoMemory}
use Rattle.hg_parts.specs.declared.refusal.Refusal.{Refusal}
use Rattle.hg_parts.specs.declared.refusal.Refusal.TheVariants.{BadPart, NoMemory as OutOfMemory}

-- a fault as the refusal of its part; out of memory is reported as such
abbrev pub refusal_of : {A : Type 0} → ℕ → KeyFault → Refusal A
refusal_of place NoMemory = OutOfMemory
refusal_of place fault = BadPart place
