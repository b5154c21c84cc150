-- What is reported of a closed server, and by which status.
use Rattle.std.specs.Prelude.{ℕ, ◌≡◌, ◌⊎◌, List, [], ◌∷◌, ◌++◌, Bool, true, false, ◌||◌}
use Rattle.std.specs.Prelude.{All, Option, length, nat_lt}
use Rattle.std.specs.List.{flat_map}
use mathlib.Core.List.{IsPrefix}
use Rattle.atomic_table.specs.Seated.{TableId}
use Rattle.hg_parts.specs.declared.item.Taken.{Taken}
use Rattle.hg_parts.specs.Repository.{Repository}
use Rattle.hg_queue.specs.declared.seat.Taker.{Taker}
use Rattle.hg_queue.specs.Words.{IsTakerIn, history as taken_by}
use Rattle.hg_push.specs.History.{IsHistory}
use Rattle.hg_serve.specs.Histories.{newest_first, serial_run}
use Rattle.hg_connection.specs.Devices.{TellsMore, Output}
use Rattle.hg_connection.specs.Sent.{Sends}
use Rattle.hg_connection.specs.declared.sending.Sending.{Sending}
use Rattle.hg_connection.specs.declared.sending.Sending.TheVariants.{Whole, Broken, NoMemory}
use Rattle.hg_repo.specs.Report.{journal_line, report_of}
use Rattle.hg_tcp.specs.declared.terms.ServeTerms.{ServeTerms}
use Rattle.hg_tcp.specs.Accepting.{AllOver, AsksFor, DoorUse, IsBounded}
use Rattle.hg_tcp.specs.Served.{WasServed}

-- The report of the repository, and after it a line for each push of the journal, in its order.
abbrev pub closing_text : {A : Type 0} → Repository A → List ℕ → List ℕ
closing_text repo journal = report_of repo ++ flat_map journal_line journal

-- The status of a service: 3 where a device failed, else 4 where memory was refused.
abbrev pub end_status : Bool → Bool → Sending → ℕ
end_status failed no_memory Broken = 3
end_status true no_memory Whole = 3
end_status true no_memory NoMemory = 3
end_status false no_memory NoMemory = 4
end_status false true Whole = 4
end_status false false Whole = 0

-- A service of a repository, on these terms, was closed. The door was asked for as many connections as the
-- terms have, or up to one that failed. It heard then whether memory was refused for one, and of these clients.
-- Each of them was served from this first repository, on these terms. The queue has the capacity of the terms, and
-- the history of what its Taker took is one that could have happened, and goes on from what each client has seen.
-- That history gives this repository and this journal, run one by one from the first repository. So much of their
-- text was written. The status says whether a device failed, or memory was refused: for a connection, as the door
-- heard or where one has no client, or for the text.
pub record Closes {A : Type 0} (first : Repository A) (terms : ServeTerms)
    (heard : List (List (Taken A)) → Type 0) (door shut : Option (List DoorUse)) (before after : Output)
    (status : ℕ) : Type 0 where
  pub history : List (Taken A)
  pub repo : Repository A
  pub journal : List ℕ
  pub serial : serial_run first history ≡ record { repo = repo; journal = journal }
  pub legal : IsHistory (newest_first history)
  pub sending : Sending
  pub count : ℕ
  pub sent : Sends sending count before after (closing_text repo journal)
  pub failed : Bool
  pub no_memory : Bool
  pub status_is : status ≡ end_status failed no_memory sending
  pub asked : List DoorUse
  pub asks : AsksFor terms failed asked
  pub missed : Bool
  pub uses : TellsMore door shut (asked ++ AllOver missed ∷ [])
  pub clients : List (List (Taken A))
  pub hears : heard clients
  pub served : All (WasServed terms.capacity first terms.bundles) clients
  pub earlier : All (λ c. IsPrefix c history) clients
  pub memory : no_memory ≡ (missed || nat_lt (length clients) terms.connections)
  pub table : TableId
  pub taker : Taker A
  pub queue : IsTakerIn table terms.capacity taker
  pub taken : taken_by taker ≡ history

-- A service on these terms ended: nothing began, for lack of memory, or it was closed.
abbrev pub EndsOn : {A : Type 0} → Repository A → ServeTerms → (List (List (Taken A)) → Type 0) →
    Option (List DoorUse) → Option (List DoorUse) → Output → Output → ℕ → Type 0
EndsOn first terms heard door shut before after status = ((status ≡ 4) × (shut ≡ door) × (after ≡ before))
    ⊎ Closes first terms heard door shut before after status

-- A service ended that was asked for on these terms.
abbrev pub EndsService : {A : Type 0} → Repository A → ServeTerms → (List (List (Taken A)) → Type 0) →
    Option (List DoorUse) → Option (List DoorUse) → Output → Output → ℕ → Type 0
EndsService first terms heard door shut before after status = (used : ServeTerms) × IsBounded terms used
    × EndsOn first used heard door shut before after status
