-- Replies that tell a number, and those to a call of pushkey.
use Rattle.std.proofs.Common.{◌≡◌, ℕ, ◌<◌, ◌^◌, Bool, true, false, length, decimal, Option, Some, Result, Ok}
use Rattle.std.proofs.Common.{Err, cond, sym, ap, ◌∙◌, arith}
use Rattle.std.proofs.lemmas.Fmt.{length-decimal-le}
use Rattle.hg_types.specs.declared.part.Part.{Part}
use Rattle.hg_keys.specs.declared.keys.KeyCall.{KeyCall}
use Rattle.hg_keys.specs.PushKey.{Keys}
use Rattle.hg_parts.specs.declared.refusal.Refusal.{Refusal}
use Rattle.hg_parts.specs.declared.refusal.Refusal.TheVariants.{KeyFailed}
use Rattle.hg_parts.specs.Repository.{Repository}
use Rattle.hg_parts.specs.Handled.{Handled}
use Rattle.hg_parts.specs.Replies.{reply_where}
use Rattle.hg_parts.specs.parts.Pushkey.{is_refused, handle_done, reply_to_key, with_keys}

-- a number of 64 bits has at most twenty digits
pub number_short : (count : ℕ) → count < 2 ^ 64 → length (decimal count) < 256
number_short count few =
    let short = length-decimal-le 20 count (omega arith) (omega arith) few in
    omega arith

pub replied : {A : Type 0} (replying : Bool) (reply made : Part A) → replying ≡ true → reply ≡ made
    → Some reply ≡ reply_where replying made
replied true reply made on is = ap Some is
replied false reply made on is = absurd cc

-- a call that does not refuse the push, and its reply
pub key_done : {A : Type 0} (repo : Repository A) (replying : Bool) (place : ℕ) (part : Part A)
    (call : KeyCall A) (keys : Keys A) (done : Bool) (reply : Option (Part A)) {test : Bool}
    → test ≡ is_refused part done → test ≡ false → reply ≡ reply_where replying (reply_to_key part.id done)
    → handle_done repo replying place part call keys done ≡ Ok
    (record { repo = with_keys repo keys; reply = reply })
key_done {A} repo replying place part call keys done reply is not told =
    ap (λ (b : Bool). cond {A = Result (Handled A) (Refusal A)} b (Err (KeyFailed place part.id call))
    (Ok (record {
      repo = with_keys repo keys;
      reply = reply_where replying (reply_to_key part.id done);
    }))) (sym is ∙ not)
    ∙ ap (λ (r : Option (Part A)). Ok (record { repo = with_keys repo keys; reply = r })) (sym told)
