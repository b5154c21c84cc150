-- A service that was closed.
use Rattle.std.proofs.Common.{◌≡◌, ℕ, List, [], ◌∷◌, Bool, ◌||◌, inr, subst, sym, refl, arith, length}
use Rattle.std.proofs.Common.{Option}
use Rattle.std.proofs.KnownBytes.{Appends-nil}
use Rattle.std.specs.Prelude.{All, nat_lt}
use mathlib.Core.List.{IsPrefix}
use Rattle.atomic_table.specs.Seated.{TableId}
use Rattle.hg_parts.specs.declared.item.Taken.{Taken}
use Rattle.hg_parts.specs.Repository.{Repository}
use Rattle.hg_queue.specs.declared.seat.Taker.{Taker}
use Rattle.hg_queue.specs.Words.{IsTakerIn, history}
use Rattle.hg_push.specs.History.{IsHistory}
use Rattle.hg_serve.specs.Histories.{newest_first, serial_run}
use Rattle.hg_connection.specs.Devices.{TellsMore, Output}
use Rattle.hg_connection.specs.Sent.{Sends}
use Rattle.hg_connection.specs.declared.sending.Sending.{Sending}
use Rattle.hg_connection.specs.declared.sending.Sending.TheVariants.{NoMemory}
use Rattle.hg_connection.proofs.DeviceLemmas.{Adds-nil, Adds-trans}
use Rattle.hg_tcp.specs.declared.terms.ServeTerms.{ServeTerms}
use Rattle.hg_tcp.specs.Accepting.{AdmitsAll, AllOver, DoorUse}
use Rattle.hg_tcp.specs.Closing.{EndsOn, closing_text, end_status}
use Rattle.hg_tcp.specs.Served.{WasServed}

pub closes : {A : Type 0} (first named repo : Repository A) (terms : ServeTerms) (capacity bundles : ℕ)
    (heard : List (List (Taken A)) → Type 0) (door mid shut : Option (List DoorUse)) (before after : Output) (status count : ℕ) (table : TableId)
    (taker : Taker A) (at : ServeTerms) (journal shown : List ℕ) (sending : Sending) (failed missed no_memory : Bool) (left : ℕ)
    (clients : List (List (Taken A))) → first ≡ named → terms.capacity ≡ capacity → terms.bundles ≡ bundles
    → serial_run named (history taker) ≡ record { repo = repo; journal = journal }
    → IsHistory (newest_first (history taker)) → shown ≡ journal
    → Sends sending count before after (closing_text repo shown) → status ≡ end_status failed no_memory sending
    → IsTakerIn table capacity taker
    → heard clients → All (WasServed capacity named bundles) clients
    → All (λ c. IsPrefix c (history taker)) clients → left ≡ length clients
    → no_memory ≡ (missed || nat_lt left terms.connections)
    → at ≡ terms → AdmitsAll door mid at failed
    → TellsMore mid shut (AllOver missed ∷ [])
    → EndsOn first terms heard door shut before after status
closes {A} first named repo terms capacity bundles heard door mid shut before after status count table taker at journal shown
    sending failed missed no_memory left clients same room most run legal all sent is of hears served earlier counted lacks
    on admits last =
    let asks = subst (λ (t : ServeTerms). AdmitsAll door mid t failed) on admits in
    inr (record {
      history = history taker;
      repo = repo;
      journal = journal;
      serial = subst (λ f. serial_run f (history taker) ≡ record { repo = repo; journal = journal })
          (sym same) run;
      legal = legal;
      sending = sending;
      count = count;
      sent = subst (λ j. Sends sending count before after (closing_text repo j)) all sent;
      failed = failed;
      no_memory = no_memory;
      status_is = is;
      asked = asks.0;
      asks = asks.2;
      missed = missed;
      uses = Adds-trans door mid shut asks.0 (AllOver missed ∷ []) asks.1 last;
      clients = clients;
      hears = hears;
      served = subst (λ f. All (WasServed terms.capacity f terms.bundles) clients) (sym same)
          (subst (λ (n : ℕ). All (WasServed n named terms.bundles) clients) (sym room)
          (subst (λ (n : ℕ). All (WasServed capacity named n) clients) (sym most) served));
      earlier = earlier;
      memory = subst (λ (n : ℕ). no_memory ≡ (missed || nat_lt n terms.connections)) counted lacks;
      table = table;
      taker = taker;
      queue = subst (λ (n : ℕ). IsTakerIn table n taker) (sym room) of;
      taken = refl;
    })

-- where memory was refused for it, nothing of a text is sent
pub nothing_sent : (out : Output) (text : List ℕ) → Sends NoMemory 0 out out text
nothing_sent out text = record {
  gone = [];
  uses = [];
  sent = record {
    pieces = [];
    rest = text;
    last = [];
    each = λ k d less. absurd (omega (arith, less));
    gone_is = refl;
    uses_are = refl;
    reply_is = refl;
    ends = (refl, refl);
  };
  count_is = refl;
  bytes = Appends-nil out.taken;
  told = Adds-nil out.uses;
}
