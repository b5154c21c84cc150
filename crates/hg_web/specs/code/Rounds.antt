-- What is said of a round of `hg_durable`.
use Rattle.std.specs.Prelude.{◌≡◌, Option, Some, None, IfSome, Result, Ok, Err}
use Rattle.hg_push.specs.Reply.{reply_of}
use Rattle.hg_commit.specs.Clients.{KeptSeen, KeptView}
use Rattle.hg_web.specs.Pushes.{How}
use Rattle.hg_web.specs.declared.push.KeptPush.{KeptPush}

-- What is answered to a push that ended so: its reply, if there was memory for it, where that is kept for its client;
-- and nothing where the store failed. The client comes back.
abbrev pub IsOfRound : {A E F : Type 0} → Result (KeptView A) (KeptSeen A × E) → How A →
    Result (Option (KeptPush A)) F → KeptSeen A → Type 0
IsOfRound (Ok kept) how (Ok (Some push)) client =
    (client ≡ kept.client) × (push.outcome ≡ how) × IfSome push.reply (λ reply. reply ≡ reply_of how)
IsOfRound (Ok kept) how (Ok None) client = ⊥
IsOfRound (Ok kept) how (Err fault) client = ⊥
IsOfRound (Err back) how (Ok push) client = ⊥
IsOfRound (Err back) how (Err fault) client = client ≡ back.0
