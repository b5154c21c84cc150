-- The numbers of the stream's faults.
use Rattle.std.specs.Prelude.{ℕ}
use Rattle.hg_stream.specs.declared.fault.StreamFault.{StreamFault}
use Rattle.hg_stream.specs.declared.fault.StreamFault.TheVariants.{BadMagic, NegativeSize, Params, Header}
use Rattle.hg_stream.specs.declared.fault.StreamFault.TheVariants.{Chunk, NestedInterrupt, ClientAbort}
use Rattle.hg_stream.specs.declared.fault.StreamFault.TheVariants.{Unsupported, TooLarge, Truncated, NoMemory}

-- the number that a reply gives for a fault
abbrev pub number_of : StreamFault → ℕ
number_of BadMagic = 1
number_of NegativeSize = 2
number_of (Params fault) = 3
number_of (Header fault) = 4
number_of (Chunk fault) = 5
number_of NestedInterrupt = 6
number_of ClientAbort = 7
number_of Unsupported = 8
number_of TooLarge = 9
number_of Truncated = 10
number_of NoMemory = 11
