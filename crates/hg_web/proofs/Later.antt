-- Whatever a client is answered, it has seen no less then, and has all promises that it had.
use Rattle.std.proofs.Common.{◌≡◌, ℕ, ◌⊎◌, inl, inr, Bool, true, false, List}
use Rattle.std.proofs.Common.{[], ◌∷◌, ◌++◌, Option, None, Some, ◌+◌, Result, Ok, Err}
use Rattle.std.proofs.Common.{append_assoc, append-nil, ap, arith, refl, sym, ◌∙◌, subst}
use Rattle.std.specs.Prelude.{IfOk, MatchResult}
use mathlib.Core.List.{IsPrefix}
use Rattle.http.specs.declared.request.Request.{Request}
use Rattle.hg_parts.specs.Repository.{Repository}
use Rattle.hg_push.specs.Run.{RepositoryOf}
use Rattle.hg_store.specs.Entries.{Stamp}
use Rattle.hg_commit.specs.Clients.{IsLater, KeptSeen}
use Rattle.hg_commit.specs.Orders.{Came, Comes, HasGrown, ReceiptView}
use Rattle.hg_commit.specs.Records.{done_in}
use Rattle.hg_durable.specs.Kept.{CatchesUp}
use Rattle.hg_wireproto.specs.declared.batch.BatchCommand.{BatchCommand as Asked}
use Rattle.hg_wireproto.specs.declared.form.Field.{Field}
use Rattle.hg_http.specs.declared.address.AddressFault.{AddressFault}
use Rattle.hg_http.specs.declared.answer.HttpAnswer.{HttpAnswer}
use Rattle.hg_http.specs.declared.answer.HttpAnswer.TheVariants.{Refused, Shown, Text}
use Rattle.hg_http.specs.declared.answer.RequestRefusal.{RequestRefusal}
use Rattle.hg_http.specs.declared.answer.RequestRefusal.TheVariants.{NoMemory}
use Rattle.hg_http.specs.declared.command.Command.{Command}
use Rattle.hg_http.specs.declared.command.Command.TheVariants.{ReadOnly, Capabilities, Batch, Unbundle}
use Rattle.hg_http.specs.declared.command.Command.TheVariants.{GetBundle, PushKey}
use Rattle.hg_http.specs.declared.view.StatusView.{StatusView}
use Rattle.hg_http.specs.Addresses.{fault_of}
use Rattle.hg_http.specs.Commands.{command_of}
use Rattle.hg_http.specs.Requests.{arguments_of, is_from_client, name_of}
use Rattle.hg_http.specs.declared.hook.policy.Verdict.{Verdict}
use Rattle.hg_web.specs.code.Budgets.{IsHeld}
use Rattle.hg_web.specs.Letting.{denial_of, IfLet}
use Rattle.hg_web.specs.Answering.{AnswersAddressed, AnswersAsked, AnswersBatch, AnswersCommand, AnswersForced, AnswersKey}
use Rattle.hg_web.specs.Answering.{AnswersPush, AnswersRequest}
use Rattle.hg_queries.specs.Views.{finished, IsShown}
use Rattle.hg_web.specs.Answering.{AnswersView, Around, IfFromClient, IsSaid, IsSaidAt, IsTextAt, LacksMemory, OrLacks}
use Rattle.hg_web.specs.Looking.{LooksKept}
use Rattle.hg_web.specs.Pushes.{How, IsPushAnswered, Pushes}
use Rattle.hg_web.specs.declared.push.KeptPush.{KeptPush}

pub prefix_again : {X : Type 0} (xs ys zs : List X) → IsPrefix xs ys → IsPrefix ys zs → IsPrefix xs zs
prefix_again xs ys zs p q = (p.0 ++ q.0, sym (append_assoc xs p.0 q.0) ∙ (ap (λ l. l ++ q.0) p.1 ∙ q.1))

-- a receipt has what it has
as_before : (r : ReceiptView) → HasGrown r r
as_before r = record {
  promises = ([], append-nil r.promises);
  order = ([], append-nil r.order);
  came = omega arith;
}

-- and what it has after a request came, and whatever came after that
pub came_and_grew : (before asked after : ReceiptView) (promised : ℕ) → Comes before asked promised → HasGrown asked after
    → HasGrown before after
came_and_grew before asked after promised t g =
    let one = t.number in
    let more = g.came in
    record {
      promises = subst (λ l. IsPrefix l after.promises) t.same g.promises;
      order = prefix_again before.order asked.order after.order
          (t.between ++ Came t.seat ∷ [], sym (append_assoc before.order t.between (Came t.seat ∷ [])) ∙ sym t.last)
          g.order;
      came = omega (arith, one, more);
    }

-- a client has seen what it has seen
pub is_as_late : {A : Type 0} (client : KeptSeen A) → IsLater client client
is_as_late client = record { seen = ([], append-nil client.history); grows = as_before client.receipt }

same_later : {A : Type 0} (before after : KeptSeen A) → after ≡ before → IsLater before after
same_later before after is = subst (λ c. IsLater before c) (sym is) (is_as_late before)

-- what is said, and changes nothing, or that memory was refused
pub said_or_lacks : {A : Type 0} (looks : Bool) (said answer : HttpAnswer A) (client : KeptSeen A)
    → (answer ≡ said) ⊎ (answer ≡ Refused NoMemory) → OrLacks looks (IsSaid said) client answer client
said_or_lacks looks said answer client (inl is) = inl (is, refl)
said_or_lacks looks said answer client (inr none) = inr (record {
  refused = none;
  earlier = is_as_late client;
  same = λ _. refl;
})

-- whose request came, and who saw what was promised, has seen what it had seen
come_later : {A : Type 0} (first : RepositoryOf A) (before after : KeptSeen A) → CatchesUp first before after →
    IsLater before after
come_later first before after is = record {
  seen = is.earlier;
  grows = came_and_grew before.receipt after.receipt after.receipt is.promised is.comes (as_before after.receipt);
}

-- whoever looked has seen what it had seen, or more
pub looked_later : {A : Type 0} (first : RepositoryOf A) (kept : ReceiptView → KeptSeen A → ℕ → Type 0)
    (before after : KeptSeen A) (Answers : Repository A → Type 0) → LooksKept first kept before after Answers →
    IsLater before after
looked_later first kept before after Answers look = record {
  seen = look.looks.earlier;
  grows = came_and_grew before.receipt look.asked after.receipt look.promised look.comes look.grows;
}

-- what holds of a call that went well
pub went : {T E : Type 0} (P : T → Type 0) (Q : E → Type 0) (r : Result T E) (t : T) → r ≡ Ok t → MatchResult r P Q → P t
went P Q r t is told = let there : MatchResult (Ok t) P Q = subst (λ x. MatchResult x P Q) is told in there

-- who looked may have seen more, and there was no memory for the answer
looked_in_vain : {A : Type 0} (first : RepositoryOf A) (kept : ReceiptView → KeptSeen A → ℕ → Type 0) (before : KeptSeen A)
    (answer : HttpAnswer A) (after : KeptSeen A) (Answers : Repository A → Type 0) →
    LooksKept first kept before after Answers → answer ≡ Refused NoMemory → LacksMemory true before answer after
looked_in_vain first kept before answer after Answers look is = record {
  refused = is;
  earlier = looked_later first kept before after Answers look;
  same = λ (wrong : true ≡ false). absurd (let e : true ≡ false = wrong in cc);
}

-- who looked is answered the text that it found, or there was no memory for it
pub text_or_lacks : {A E : Type 0} (first : RepositoryOf A) (kept : ReceiptView → KeptSeen A → ℕ → Type 0) (before : KeptSeen A)
    (answer : HttpAnswer A) (after : KeptSeen A) (Finds : Repository A → Result (List ℕ) E → Type 0)
    (text : Result (List ℕ) E) → LooksKept first kept before after (λ repo. Finds repo text)
    → MatchResult text (λ t. answer ≡ Text t) (λ _. answer ≡ Refused NoMemory)
    → OrLacks true (IsTextAt first kept (λ repo t. Finds repo (Ok t))) before answer after
text_or_lacks first kept before answer after Finds (Ok t) look is =
    inl (record { text = t; looks = look; answer_is = is })
text_or_lacks first kept before answer after Finds (Err e) look is =
    inr (looked_in_vain first kept before answer after _ look is)

-- the same of an answer for which there may be no room
pub held_or_lacks : {A : Type 0} (first : RepositoryOf A) (kept : ReceiptView → KeptSeen A → ℕ → Type 0)
    (Says : KeptSeen A → HttpAnswer A → KeptSeen A → Type 0) (before : KeptSeen A) (answer held : HttpAnswer A)
    (after : KeptSeen A) (Finds : Repository A → Type 0) (was now : ℕ) → LooksKept first kept before after Finds
    → OrLacks true Says before answer after → IsHeld answer was held now → OrLacks true Says before held after
held_or_lacks first kept Says before answer held after Finds was now look is (inl room) =
    subst (λ a. OrLacks true Says before a after) (sym room.0) is
held_or_lacks first kept Says before answer held after Finds was now look is (inr none) =
    inr (looked_in_vain first kept before held after Finds look none.0)

module _ {A E : Type 0} (first : RepositoryOf A) (kept : ReceiptView → KeptSeen A → ℕ → Type 0) (before : KeptSeen A)
    (answer : HttpAnswer A) (after : KeptSeen A) (IsText : Repository A → List ℕ → Type 0)
  where
    -- who looked is shown the view that it found, or there was no memory for it
    pub shown_or_lacks : (view : StatusView) (stored rests : ℕ) (text : Result (List ℕ) E)
        → LooksKept first kept before after (λ repo. IfOk text (λ t. IsText repo t))
        → rests ≡ done_in first after.history
        → IsShown view (stored + rests) text answer
        → IsSaidAt first kept (λ t. Shown view (finished view (stored + done_in first after.history) t)) IsText before
        answer after ⊎ LacksMemory true before answer after
    shown_or_lacks view stored rests (Ok t) look even (inl is) = inl (record {
      text = t;
      looks = look;
      answer_is = subst (λ (n : ℕ). answer ≡ Shown view (finished view (stored + n) t)) even is;
    })
    shown_or_lacks view stored rests (Ok t) look even (inr is) =
        inr (looked_in_vain first kept before answer after _ look is)
    shown_or_lacks view stored rests (Err e) look even is =
        inr (looked_in_vain first kept before answer after _ look is)

module _ {A : Type 0} (capacity : ℕ) (first : RepositoryOf A) (kept : ReceiptView → KeptSeen A → ℕ → Type 0)
    (asks : List ℕ → Verdict A → Type 0) (before : KeptSeen A) (answer : HttpAnswer A) (after : KeptSeen A)
  where
    said_later : (said : HttpAnswer A) → IsSaid said before answer after → IsLater before after
    said_later said is = same_later before after is.1

    said_at_later : (says : List ℕ → HttpAnswer A) (IsText : Repository A → List ℕ → Type 0) →
        IsSaidAt first kept says IsText before answer after → IsLater before after
    said_at_later says IsText is =
        looked_later first kept before after (λ repo. IsText repo is.text) is.looks

    pushes_later : (stamp : Stamp) (body : List ℕ) (ended : Option (KeptPush A)) →
        Pushes capacity first kept stamp before body ended after → IsLater before after
    pushes_later stamp body None (inl is) = same_later before after is
    pushes_later stamp body None (inr is) = come_later first before after is
    pushes_later stamp body (Some told) is = subst (λ c. IsLater before c) is.3 (record {
      seen = prefix_again before.history is.1.opened.history is.0.after.history is.1.catches_up.earlier
          is.1.answers.earlier;
      grows = came_and_grew before.receipt is.1.opened.receipt is.0.after.receipt is.1.catches_up.promised
          is.1.catches_up.comes is.1.grows;
    })

    pushed_later : (stamp : Stamp) (body : List ℕ) (reply : How A → List ℕ) →
        IsPushAnswered capacity first kept stamp body reply before answer after → IsLater before after
    pushed_later stamp body reply is = pushes_later stamp body is.ended is.pushes

    let_later : (user bundle : List ℕ) (reply : How A → List ℕ) (denial : Option (HttpAnswer A)) →
        IfLet denial (λ b a n. (time : ℕ) × IsPushAnswered capacity first kept
        (record { time = time; name = user }) bundle reply b a n) before answer after →
        IsLater before after
    let_later user bundle reply None is = pushed_later (record { time = is.0; name = user }) bundle reply is.1
    let_later user bundle reply (Some denial) is = same_later before after is.1

    push_later : (user bundle : List ℕ) (reply : How A → List ℕ) →
        AnswersPush capacity first kept asks user bundle reply before answer after → IsLater before after
    push_later user bundle reply is = let_later user bundle reply (denial_of is.verdict) is.answers

    from_later : (is_from : Bool) (Says : KeptSeen A → HttpAnswer A → KeptSeen A → Type 0) →
        (Says before answer after → IsLater before after) →
        IfFromClient is_from Says before answer after → IsLater before after
    from_later false Says later is = same_later before after is.1
    from_later true Says later is = later is

    batch_later : (commands : List (Asked A)) (why : Option RequestRefusal) →
        AnswersBatch first kept commands why before answer after → IsLater before after
    batch_later commands (Some why) is = same_later before after is.1
    batch_later commands None is = said_at_later _ _ is

    forced_later : (user body : List ℕ) (forced : Bool) →
        AnswersForced capacity first kept asks user body forced before answer after → IsLater before after
    forced_later user body false is = same_later before after is.1
    forced_later user body true is = push_later user body _ is

    key_later : (user namespace key old new : List ℕ) (fits : Bool) →
        AnswersKey capacity first kept asks user namespace key old new fits before answer after → IsLater before after
    key_later user namespace key old new false is = same_later before after is.1
    key_later user namespace key old new true is = push_later user _ _ is

    command_later : (believed pull also : Option (List ℕ)) (command : Command) (fields : List (Field A))
        (r : Request (List ℕ)) →
        AnswersCommand capacity first kept asks believed pull also command fields r before answer after →
        IsLater before after
    command_later believed pull also Capabilities fields r is = said_later _ is
    command_later believed pull also GetBundle fields r is = said_later _ is
    command_later believed pull also (ReadOnly read) fields r is = said_at_later _ _ is
    command_later believed pull also Batch fields r is = batch_later _ _ is
    command_later believed pull also Unbundle fields r is = from_later (is_from_client r) _ (forced_later _ _ _) is
    command_later believed pull also PushKey fields r is = from_later (is_from_client r) _ (key_later _ _ _ _ _ _) is

module _ {A : Type 0} (capacity : ℕ) (first : RepositoryOf A) (around : Around A)
    (asks : List ℕ → Verdict A → Type 0) (before : KeptSeen A) (answer : HttpAnswer A) (after : KeptSeen A)
  where
    view_later : (view : Option StatusView) → AnswersView first around view before answer after →
        IsLater before after
    view_later None is = same_later before after is.1
    view_later (Some view) is = said_at_later capacity first around.kept asks before answer after _ _ is

    asked_later : (command : Option Command) (fields : List (Field A)) (r : Request (List ℕ)) →
        AnswersAsked capacity first around asks command fields r before answer after → IsLater before after
    asked_later None fields r is = view_later _ is
    asked_later (Some command) fields r is =
        command_later capacity first around.kept asks before answer after around.believed around.pull around.also command fields r is

    addressed_later : (fault : Option AddressFault) (command : Option Command) (fields : List (Field A))
        (r : Request (List ℕ)) →
        AnswersAddressed capacity first around asks fault command fields r before answer after → IsLater before after
    addressed_later (Some fault) command fields r is = same_later before after is.1
    addressed_later None command fields r is = asked_later command fields r is

    pub answered_later : (r : Request (List ℕ)) → AnswersRequest capacity first around asks r before answer after →
        IsLater before after
    answered_later r (inl is) =
        addressed_later (fault_of around.address (command_of (name_of A r)) r) (command_of (name_of A r))
        (arguments_of r) r is
    answered_later r (inr lacks) = lacks.earlier
