-- What each request is answered.
use Rattle.std.specs.Prelude.{ℕ, ◌≡◌, ◌⊎◌, ◌+◌, Bool, true, false, List, ◌∷◌, ◌++◌, Option, Some, None, codes, bytes_eq, take}
use Rattle.std.specs.Option.{option_copied}
use Rattle.http.specs.declared.request.Request.{Request}
use Rattle.http.specs.Request.{body_of}
use Rattle.http_server.specs.declared.response.Response.{Response}
use Rattle.hg_stream.specs.Written.{bundle_bytes}
use Rattle.hg_parts.specs.Repository.{Repository}
use Rattle.hg_push.specs.Reply.{reply_of}
use Rattle.hg_push.specs.Run.{RepositoryOf}
use Rattle.hg_commit.specs.Clients.{IsLater, KeptSeen}
use Rattle.hg_commit.specs.Orders.{ReceiptView}
use Rattle.hg_commit.specs.Records.{done_in}
use Rattle.hg_web.specs.Looking.{LooksKept}
use Rattle.hg_wireproto.specs.declared.batch.BatchCommand.{BatchCommand as Asked}
use Rattle.hg_wireproto.specs.declared.form.Field.{Field}
use Rattle.hg_wireproto.specs.Batch.{commands_of}
use Rattle.hg_wireproto.specs.Capabilities.{capabilities_told}
use Rattle.hg_http.specs.declared.address.Address.{Address}
use Rattle.hg_http.specs.declared.address.AddressFault.{AddressFault}
use Rattle.hg_http.specs.declared.answer.HttpAnswer.{HttpAnswer}
use Rattle.hg_http.specs.declared.answer.HttpAnswer.TheVariants.{Text, Refused, Forbidden, NotFound}
use Rattle.hg_http.specs.declared.answer.HttpAnswer.TheVariants.{Misaddressed, Shown, Moved}
use Rattle.hg_http.specs.declared.view.StatusView.{StatusView}
use Rattle.hg_http.specs.Views.{moved_to, view_of}
use Rattle.hg_http.specs.declared.answer.RequestRefusal.{RequestRefusal}
use Rattle.hg_http.specs.declared.answer.RequestRefusal.TheVariants.{NotForced, PushesAlone}
use Rattle.hg_http.specs.declared.answer.RequestRefusal.TheVariants.{NoMemory}
use Rattle.hg_http.specs.declared.command.Command.{Command}
use Rattle.hg_http.specs.declared.command.Command.TheVariants.{ReadOnly, Capabilities, Batch, Unbundle}
use Rattle.hg_http.specs.declared.command.Command.TheVariants.{GetBundle, PushKey}
use Rattle.hg_http.specs.Addresses.{fault_of}
use Rattle.hg_http.specs.Commands.{command_of, subject_of}
use Rattle.hg_http.specs.Keys.{fits, key_parts}
use Rattle.hg_http.specs.Requests.{argument_in, arguments_of, is_from_client, name_of, user_of}
use Rattle.hg_http.specs.Responses.{CarriesAnswer}
use Rattle.hg_queries.specs.Texts.{refusal_of, IsBatchText, IsTextOf}
use Rattle.hg_queries.specs.Views.{finished, IsViewed}
use Rattle.hg_http.specs.Policies.{Asked as AskedPolicy, AsksOnce, HasAsked}
use Rattle.hg_http.specs.declared.hook.policy.Verdict.{Verdict}
use Rattle.hg_web.specs.Letting.{AnswersIfLet}
use Rattle.hg_web.specs.Pushes.{How, IsPushAnswered, key_line, set_line}
use Rattle.hg_web.specs.declared.terms.WebTerms.{WebTerms}

-- What answers say and rest on beside the repository: which text may be the page and which the counters, of a
-- repository; that so many done pushes of what a client has seen are on the device, whose request came as it had that
-- receipt; how many pushes the store had when it was
-- opened; what the server answers to; which field says who pushes; where pulls go; and what is told behind the capabilities.
pub record Around (A : Type 0) : Type 1 where
  pub page : Repository A → List ℕ → Type 0
  pub metrics : Repository A → List ℕ → Type 0
  pub kept : ReceiptView → KeptSeen A → ℕ → Type 0
  pub stored : ℕ
  pub address : Address
  pub believed : Option (List ℕ)
  pub pull : Option (List ℕ)
  pub also : Option (List ℕ)

-- what answers say beside the repository, on these terms
abbrev pub around_of : {A S : Type 0} → (ReceiptView → KeptSeen A → ℕ → Type 0) → (S → Repository A → List ℕ → Type 0) →
    (S → Repository A → List ℕ → Type 0) → WebTerms S → Around A
around_of kept page metrics terms = record {
  page = page terms.shown.now;
  metrics = metrics terms.shown.now;
  kept = kept;
  stored = terms.stored;
  address = terms.address;
  believed = option_copied terms.user;
  pull = option_copied terms.pull;
  also = option_copied terms.also;
}

-- nothing changed, and this is the answer
abbrev pub IsSaid : {A : Type 0} → HttpAnswer A → KeptSeen A → HttpAnswer A → KeptSeen A → Type 0
IsSaid said before answer after = (answer ≡ said) × (after ≡ before)

-- what is asked looks at the repository and does nothing more: it is a view, or a command that reads
abbrev pub is_look : Option Command → Bool
is_look None = true
is_look (Some (ReadOnly read)) = true
is_look (Some Batch) = true
is_look (Some Capabilities) = false
is_look (Some Unbundle) = false
is_look (Some PushKey) = false
is_look (Some GetBundle) = false

-- Memory was refused before anything changed. Who looked may have seen more than before; else nothing was done, and
-- the client has seen what it had.
pub record LacksMemory {A : Type 0} (looks : Bool) (before : KeptSeen A) (answer : HttpAnswer A)
    (after : KeptSeen A) : Type 0 where
  pub refused : answer ≡ Refused NoMemory
  pub earlier : IsLater before after
  pub same : looks ≡ false → after ≡ before

-- it is answered so, or memory was refused before anything changed
abbrev pub OrLacks : {A : Type 0} → Bool → (KeptSeen A → HttpAnswer A → KeptSeen A → Type 0) → KeptSeen A →
    HttpAnswer A → KeptSeen A → Type 0
OrLacks looks Says before answer after = Says before answer after ⊎ LacksMemory looks before answer after

-- The answer is a text that the repository gives so at one point of the serial order, and not before
-- what the client was answered; all pushes that were done by then were on the device.
pub record IsSaidAt {A : Type 0} (first : RepositoryOf A) (kept : ReceiptView → KeptSeen A → ℕ → Type 0)
    (says : List ℕ → HttpAnswer A) (IsText : Repository A → List ℕ → Type 0) (before : KeptSeen A)
    (answer : HttpAnswer A) (after : KeptSeen A) : Type 0 where
  pub text : List ℕ
  pub looks : LooksKept first kept before after (λ repo. IsText repo text)
  pub answer_is : answer ≡ says text

abbrev pub IsTextAt : {A : Type 0} → RepositoryOf A → (ReceiptView → KeptSeen A → ℕ → Type 0) →
    (Repository A → List ℕ → Type 0) → KeptSeen A → HttpAnswer A → KeptSeen A → Type 0
IsTextAt first kept IsText before answer after = IsSaidAt first kept Text IsText before answer after

-- a batch that is not refused is answered from one repository
abbrev pub AnswersBatch : {A : Type 0} → RepositoryOf A → (ReceiptView → KeptSeen A → ℕ → Type 0) → List (Asked A) →
    Option RequestRefusal → KeptSeen A → HttpAnswer A → KeptSeen A → Type 0
AnswersBatch first kept commands (Some why) before answer after = IsSaid (Refused why) before answer after
AnswersBatch first kept commands None before answer after =
    IsTextAt first kept (λ repo text. IsBatchText repo commands text) before answer after

-- a push of a bundle by that user, at some time, where it was let through, with such a text for its outcome
abbrev pub AnswersPush : {A : Type 0} → ℕ → RepositoryOf A → (ReceiptView → KeptSeen A → ℕ → Type 0) →
    (List ℕ → Verdict A → Type 0) → List ℕ → List ℕ → (How A → List ℕ) → KeptSeen A → HttpAnswer A → KeptSeen A → Type 0
AnswersPush capacity first kept asks user bundle reply before answer after =
    AnswersIfLet asks bundle (λ b a n. (time : ℕ) × IsPushAnswered capacity first kept
    (record { time = time; name = user }) bundle reply b a n) before answer after

-- a push of the body, where its heads are forced: `force` in hexadecimal digits
abbrev pub AnswersForced : {A : Type 0} → ℕ → RepositoryOf A → (ReceiptView → KeptSeen A → ℕ → Type 0) →
    (List ℕ → Verdict A → Type 0) → List ℕ → List ℕ → Bool → KeptSeen A → HttpAnswer A → KeptSeen A → Type 0
AnswersForced capacity first kept asks user body false before answer after =
    IsSaid (Refused NotForced) before answer after
AnswersForced capacity first kept asks user body true before answer after =
    AnswersPush capacity first kept asks user body reply_of before answer after

-- a push that sets the key
abbrev pub AnswersFitting : {A : Type 0} → ℕ → RepositoryOf A → (ReceiptView → KeptSeen A → ℕ → Type 0) →
    (List ℕ → Verdict A → Type 0) → List ℕ → List ℕ → List ℕ → List ℕ → List ℕ → KeptSeen A → HttpAnswer A → KeptSeen A →
    Type 0
AnswersFitting {A} capacity first kept asks user namespace key old new before answer after =
    AnswersPush capacity first kept asks user (bundle_bytes (key_parts {A = A} namespace key old new)) key_line before
    answer after

-- the same where a part can hold the values; else it is not set
abbrev pub AnswersKey : {A : Type 0} → ℕ → RepositoryOf A → (ReceiptView → KeptSeen A → ℕ → Type 0) →
    (List ℕ → Verdict A → Type 0) → List ℕ → List ℕ → List ℕ → List ℕ → List ℕ → Bool → KeptSeen A → HttpAnswer A →
    KeptSeen A → Type 0
AnswersKey capacity first kept asks user namespace key old new false before answer after =
    IsSaid (Text (set_line false)) before answer after
AnswersKey capacity first kept asks user namespace key old new true before answer after =
    AnswersFitting capacity first kept asks user namespace key old new before answer after

-- a change of a key is answered by a push, where its values fit; else as not set
abbrev pub AnswersChange : {A : Type 0} → ℕ → RepositoryOf A → (ReceiptView → KeptSeen A → ℕ → Type 0) →
    (List ℕ → Verdict A → Type 0) → List ℕ → List ℕ → List ℕ → List ℕ → List ℕ → KeptSeen A → HttpAnswer A → KeptSeen A →
    Type 0
AnswersChange capacity first kept asks user namespace key old new before answer after =
    AnswersKey capacity first kept asks user namespace key old new (fits namespace key old new) before answer after

-- the change that the arguments ask for
abbrev pub AnswersPushKey : {A : Type 0} → ℕ → RepositoryOf A → (ReceiptView → KeptSeen A → ℕ → Type 0) →
    (List ℕ → Verdict A → Type 0) → List ℕ → List (Field A) → KeptSeen A → HttpAnswer A → KeptSeen A → Type 0
AnswersPushKey capacity first kept asks user fields before answer after =
    AnswersChange capacity first kept asks user (argument_in fields (codes "namespace"))
    (argument_in fields (codes "key")) (argument_in fields (codes "old")) (argument_in fields (codes "new"))
    before answer after

-- what no page in a browser sent is answered so; what one could have sent is forbidden
abbrev pub IfFromClient : {A : Type 0} → Bool → (KeptSeen A → HttpAnswer A → KeptSeen A → Type 0) →
    KeptSeen A → HttpAnswer A → KeptSeen A → Type 0
IfFromClient false Answers before answer after = IsSaid Forbidden before answer after
IfFromClient true Answers before answer after = Answers before answer after

-- where a pull goes: to another address with the same query, if there is one
abbrev pub pull_answer : {A : Type 0} → Option (List ℕ) → Request (List ℕ) → HttpAnswer A
pull_answer None r = Refused PushesAlone
pull_answer (Some address) r = Moved (moved_to address r)

-- the capabilities, and behind a space what is told besides
abbrev pub capabilities_with : Option (List ℕ) → List ℕ
capabilities_with None = capabilities_told
capabilities_with (Some also) = capabilities_told ++ 32 ∷ also

-- the name of who pushes, by the field that is believed: at most 255 bytes, cut behind that
abbrev pub user_named : Option (List ℕ) → Request (List ℕ) → List ℕ
user_named believed r = take 255 (user_of believed r)

-- the answer to a command with these arguments, and what its client has seen then
abbrev pub AnswersCommand : {A : Type 0} → ℕ → RepositoryOf A → (ReceiptView → KeptSeen A → ℕ → Type 0) →
    (List ℕ → Verdict A → Type 0) → Option (List ℕ) → Option (List ℕ) → Option (List ℕ) → Command → List (Field A) →
    Request (List ℕ) → KeptSeen A → HttpAnswer A → KeptSeen A → Type 0
AnswersCommand capacity first kept asks believed pull also Capabilities fields r before answer after =
    IsSaid (Text (capabilities_with also)) before answer after
AnswersCommand capacity first kept asks believed pull also GetBundle fields r before answer after =
    IsSaid (pull_answer pull r) before answer after
AnswersCommand capacity first kept asks believed pull also (ReadOnly read) fields r before answer after =
    IsTextAt first kept (λ repo text. IsTextOf repo read (argument_in fields (subject_of read)) text)
    before answer after
AnswersCommand capacity first kept asks believed pull also Batch fields r before answer after =
    let commands = commands_of (argument_in fields (codes "cmds")) in
    AnswersBatch first kept commands (refusal_of commands) before answer after
AnswersCommand capacity first kept asks believed pull also Unbundle fields r before answer after =
    IfFromClient (is_from_client r) (AnswersForced capacity first kept asks (user_named believed r) (body_of r)
    (bytes_eq (argument_in fields (codes "heads")) (codes "666f726365"))) before answer after
AnswersCommand capacity first kept asks believed pull also PushKey fields r before answer after =
    IfFromClient (is_from_client r) (AnswersPushKey capacity first kept asks (user_named believed r) fields) before answer after

-- The answer without a command: a view, of the repository at one point of the serial order. A report names so
-- many pushes as the store had, and those that were done here.
abbrev pub AnswersView : {A : Type 0} → RepositoryOf A → Around A → Option StatusView → KeptSeen A → HttpAnswer A →
    KeptSeen A → Type 0
AnswersView first around None before answer after = IsSaid NotFound before answer after
AnswersView first around (Some view) before answer after =
    IsSaidAt first around.kept
    (λ text. Shown view (finished view (around.stored + done_in first after.history) text))
    (IsViewed around.page around.metrics view) before answer after

abbrev pub AnswersAsked : {A : Type 0} → ℕ → RepositoryOf A → Around A → (List ℕ → Verdict A → Type 0) →
    Option Command → List (Field A) → Request (List ℕ) → KeptSeen A → HttpAnswer A → KeptSeen A → Type 0
AnswersAsked capacity first around asks None fields r before answer after =
    AnswersView first around (view_of around.address r) before answer after
AnswersAsked capacity first around asks (Some command) fields r before answer after =
    AnswersCommand capacity first around.kept asks around.believed around.pull around.also command fields r before answer after

-- what is for this server is answered so; what is not is told why, and nothing changes
abbrev pub AnswersAddressed : {A : Type 0} → ℕ → RepositoryOf A → Around A → (List ℕ → Verdict A → Type 0) →
    Option AddressFault → Option Command → List (Field A) → Request (List ℕ) → KeptSeen A → HttpAnswer A →
    KeptSeen A → Type 0
AnswersAddressed capacity first around asks (Some fault) command fields r before answer after =
    IsSaid (Misaddressed fault) before answer after
AnswersAddressed capacity first around asks None command fields r before answer after =
    AnswersAsked capacity first around asks command fields r before answer after

-- The answer to a request: that to its command with its arguments, or memory was refused before anything
-- changed. What a policy was asked about it, and said, is told by `asks`.
abbrev pub AnswersRequest : {A : Type 0} → ℕ → RepositoryOf A → Around A → (List ℕ → Verdict A → Type 0) →
    Request (List ℕ) → KeptSeen A → HttpAnswer A → KeptSeen A → Type 0
AnswersRequest {A} capacity first around asks r before answer after =
    let command = command_of (name_of A r) in
    OrLacks (is_look command) (AnswersAddressed capacity first around asks (fault_of around.address command r)
    command (arguments_of r) r) before answer after

-- what contracts see of a connection's service: what its client had seen when the last request was answered, what its
-- policy had been asked by then, the terms, whether its answers rest on beats, and how many requests were answered
pub record WireView (A S : Type 0) : Type 0 where
  pub seen : KeptSeen A
  pub asked : AskedPolicy A
  pub terms : WebTerms S
  pub beats : Bool
  pub answered : ℕ

-- The response reports the answer. Its client has seen no less than before, and has all promises that it had. The
-- policy was asked once at most: about the push that the request is.
pub record Responds {A S : Type 0} (capacity : ℕ) (first : RepositoryOf A)
    (kept : Bool → ReceiptView → KeptSeen A → ℕ → Type 0) (page metrics : S → Repository A → List ℕ → Type 0)
    (old : WireView A S) (r : Request (List ℕ)) (response : Response) (new : WireView A S) : Type 0 where
  pub answer : HttpAnswer A
  pub answers : AnswersRequest capacity first (around_of (kept old.beats) page metrics old.terms)
      (λ bundle verdict. HasAsked old.asked new.asked bundle verdict) r old.seen answer new.seen
  pub asks : AsksOnce old.asked new.asked
  pub later : IsLater old.seen new.seen
  pub tells : CarriesAnswer answer response
  pub same : (new.terms ≡ old.terms) × (new.beats ≡ old.beats)
  pub counts : new.answered ≡ old.answered + 1
