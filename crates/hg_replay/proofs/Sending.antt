-- What was sent, and that nothing was where memory was refused.
use Rattle.std.proofs.Common.{ℕ, ◌≡◌, ◌∙◌, List, [], refl, rules, subst}
use Rattle.std.proofs.KnownBytes.{Appends-nil}
use Rattle.hg_connection.specs.declared.sending.Sending.{Sending}
use Rattle.hg_connection.specs.declared.sending.Sending.TheVariants.{NoMemory}
use Rattle.hg_connection.specs.Devices.{Output}
use Rattle.hg_connection.specs.Sent.{Sends}
use Rattle.hg_connection.proofs.DeviceLemmas.{Adds-nil}
use Rattle.hg_replay.specs.Answering.{IsSentTo}

pub unsent : (writer : Output) (bytes : List ℕ) → IsSentTo NoMemory writer writer bytes
unsent writer bytes = (
  0,
  record {
    gone = [];
    uses = [];
    sent = record {
      pieces = [];
      rest = bytes;
      last = [];
      each = search rules;
      gone_is = refl;
      uses_are = refl;
      reply_is = refl;
      ends = (refl, refl);
    };
    count_is = refl;
    bytes = Appends-nil writer.taken;
    told = Adds-nil writer.uses;
  },
)

pub sent_so : (sending : Sending) (count : ℕ) (before after : Output) (bytes all reply : List ℕ)
    → bytes ≡ all → all ≡ reply → Sends sending count before after bytes
    → IsSentTo sending before after reply
sent_so sending count before after bytes all reply same is sends =
    (count, subst (λ b. Sends sending count before after b) (same ∙ is) sends)
