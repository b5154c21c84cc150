-- What the client of a connection has seen.
use Rattle.std.specs.Prelude.{List, [], ◌∷◌, Option, Some, None}
use Rattle.hg_commit.specs.Clients.{KeptSeen}
use Rattle.hg_commit.specs.Orders.{no_receipt}
use Rattle.hg_http.specs.Policies.{Asked}

abbrev pub nothing_seen : {A : Type 0} → KeptSeen A
nothing_seen = record { history = []; receipt = no_receipt }

abbrev pub seen_by : {A : Type 0} → Option (KeptSeen A) → KeptSeen A
seen_by None = nothing_seen
seen_by (Some client) = client

-- what it had seen when the last request was answered, which is noted alone
abbrev pub seen_last : {A P : Type 0} → List (KeptSeen A × P) → KeptSeen A
seen_last [] = nothing_seen
seen_last (noted ∷ more) = noted.0

-- what its policy had been asked by then
abbrev pub asked_last : {A P : Type 0} → (P → Asked A) → List (KeptSeen A × P) → Asked A
asked_last asked [] = None
asked_last asked (noted ∷ more) = asked noted.1
