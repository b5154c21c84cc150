-- A connection is served with the beats that the name of its service says.
use Rattle.std.proofs.Common.{◌≡◌, ℕ, Bool, List, Option, subst}
use Rattle.hg_parts.specs.Repository.{Repository}
use Rattle.hg_push.specs.Run.{RepositoryOf}
use Rattle.hg_commit.specs.Clients.{KeptSeen}
use Rattle.hg_commit.specs.Orders.{ReceiptView}
use Rattle.hg_http.specs.Policies.{Asked}
use Rattle.hg_web.specs.declared.serve.ConnectionEnd.{ConnectionEnd}
use Rattle.hg_web.specs.declared.terms.WebTerms.{WebTerms}
use Rattle.hg_web.specs.Serving.{ServesHttp}

pub by_beats : {A S : Type 0} (capacity : ℕ) (first : RepositoryOf A)
    (kept : Bool → ReceiptView → KeptSeen A → ℕ → Type 0) (page metrics : S → Repository A → List ℕ → Type 0)
    (terms : WebTerms S) (asked said : Asked A) (before : KeptSeen A) (input left out sent : Option (List ℕ))
    (end : ConnectionEnd) (after : KeptSeen A) (has beats : Bool) → has ≡ beats
    → ServesHttp capacity first kept page metrics terms has asked said before input left out sent end after
    → ServesHttp capacity first kept page metrics terms beats asked said before input left out sent end after
by_beats capacity first kept page metrics terms asked said before input left out sent end after has beats same serves =
    subst (λ (b : Bool). ServesHttp capacity first kept page metrics terms b asked said before input left out sent end
    after) same serves
