-- A wire whose client was answered.
use Rattle.std.proofs.Common.{◌≡◌, ℕ, ◌+◌, Bool, false, List, [], ◌∷◌}
use Rattle.std.proofs.Common.{◌++◌, Option, Some, refl, sym, ap, subst, ◌∙◌}
use Rattle.std.specs.Option.{IsSome}
use Rattle.http.specs.declared.request.Request.{Request}
use Rattle.http_server.specs.declared.response.Response.{Response}
use Rattle.hg_parts.specs.Repository.{Repository}
use Rattle.hg_push.specs.Run.{RepositoryOf}
use Rattle.hg_commit.specs.Clients.{IsLater, KeptSeen}
use Rattle.hg_commit.specs.Orders.{ReceiptView}
use Rattle.hg_http.specs.Policies.{Asked, AsksOnce, HasAsked}
use Rattle.hg_http.specs.declared.answer.HttpAnswer.{HttpAnswer}
use Rattle.hg_http.specs.Responses.{CarriesAnswer}
use Rattle.hg_web.specs.Answering.{around_of, AnswersRequest, Responds, WireView}
use Rattle.hg_web.specs.code.Wires.{asked_last, seen_by, seen_last}
use Rattle.hg_web.specs.declared.terms.WebTerms.{WebTerms}
use Rattle.hg_web.proofs.Later.{answered_later, is_as_late}

-- what is noted in an empty log is what was told last
pub last_noted : {A P : Type 0} (empty items : List (KeptSeen A × P)) (client : KeptSeen A) (policy : P) →
    empty ≡ [] → items ≡ empty ++ (client, policy) ∷ [] → seen_last items ≡ client
last_noted empty items client policy none noted =
    ap seen_last (noted ∙ ap (λ l. l ++ (client, policy) ∷ []) none)

-- and what a policy had been asked
pub last_asked : {A P : Type 0} (asked : P → Asked A) (empty items : List (KeptSeen A × P)) (client : KeptSeen A)
    (policy : P) → empty ≡ [] → items ≡ empty ++ (client, policy) ∷ [] → asked policy ≡ asked_last asked items
last_asked asked empty items client policy none noted =
    sym (ap (asked_last asked) (noted ∙ ap (λ l. l ++ (client, policy) ∷ []) none))

-- what its client has seen was told
pub told_all : {A : Type 0} (place : Option (KeptSeen A)) (told client : KeptSeen A) (asked noted : Asked A)
    (failed : Bool) → place ≡ Some client → told ≡ client → asked ≡ noted →
    IsSome place × IsLater told (seen_by place) × (failed ≡ false → (seen_by place ≡ told) × (asked ≡ noted))
told_all place told client asked noted failed is same even =
    let seen : seen_by place ≡ told = ap seen_by is ∙ sym same in (
      subst IsSome (sym is) refl,
      subst (λ s. IsLater told s) (sym seen) (is_as_late told),
      λ _. (seen, even),
    )

module _ {A S : Type 0} (capacity : ℕ) (first : RepositoryOf A) (kept : Bool → ReceiptView → KeptSeen A → ℕ → Type 0)
    (page metrics : S → Repository A → List ℕ → Type 0)
  where
    -- the answer to a request tells on from what was told last
    pub responds : (old new : WireView A S) (request : Request (List ℕ)) (response : Response)
        (answer : HttpAnswer A) (terms : WebTerms S) (beats : Bool) (told client after seen : KeptSeen A)
        (asked given said ended : Asked A) (before now : ℕ) →
        record { seen = told; asked = asked; terms = terms; beats = beats; answered = before } ≡ old →
        new ≡ record { seen = seen; asked = said; terms = terms; beats = beats; answered = now } → now ≡ before + 1 →
        client ≡ told → seen ≡ after → given ≡ asked → ended ≡ said →
        AnswersRequest capacity first (around_of (kept beats) page metrics terms) (HasAsked given ended) request client answer
        after → AsksOnce given ended → CarriesAnswer answer response →
        Responds capacity first kept page metrics old request response new
    responds old new request response answer terms beats told client after seen asked given said ended before now was is one
        same last knew notes answers asks tells =
        let around = around_of (kept beats) page metrics terms in
        subst (λ (o : WireView A S). Responds capacity first kept page metrics o request response new) was
        (subst (λ (n : WireView A S). Responds capacity first kept page metrics
        (record { seen = told; asked = asked; terms = terms; beats = beats; answered = before }) request response n) (sym is) (record {
          answer = answer;
          answers = subst (λ a. AnswersRequest capacity first around (HasAsked a said) request told answer seen) knew
              (subst (λ s. AnswersRequest capacity first around (HasAsked given s) request told answer seen) notes
              (subst (λ c. AnswersRequest capacity first around (HasAsked given ended) request c answer seen) same
              (subst (λ s. AnswersRequest capacity first around (HasAsked given ended) request client answer s)
              (sym last) answers)));
          asks = subst (λ a. AsksOnce a said) knew (subst (λ s. AsksOnce given s) notes asks);
          later = subst (λ c. IsLater c seen) same (subst (λ s. IsLater client s) (sym last)
              (answered_later capacity first around (HasAsked given ended) client answer after request answers));
          tells = tells;
          same = (refl, refl);
          counts = one;
        }))
