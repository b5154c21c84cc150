-- The part `pushkey`: a key of a namespace that is to have another value.
use Rattle.std.specs.Prelude.{ℕ, Bool, true, false, not, ◌&&◌, List, codes, Option, Some, None, Result, Ok}
use Rattle.std.specs.Prelude.{Err, if◌then◌else◌}
use Rattle.hg_types.specs.declared.part.Part.{Part}
use Rattle.hg_types.specs.declared.part.Param.{Param}
use Rattle.hg_keys.specs.declared.fault.KeyFault.{KeyFault}
use Rattle.hg_keys.specs.declared.keys.KeyCall.{KeyCall}
use Rattle.hg_keys.specs.PushKey.{Keys, key_pushed}
use Rattle.hg_parts.specs.declared.refusal.Refusal.TheVariants.{BadPart, KeyFailed}
use Rattle.hg_parts.specs.Repository.{Repository}
use Rattle.hg_parts.specs.Handled.{Outcome}
use Rattle.hg_parts.specs.Params.{value_of}
use Rattle.hg_parts.specs.PartTypes.{is_mandatory}
use Rattle.hg_parts.specs.Replies.{reply_part, reply_where}

-- all four parameters are there
abbrev pub call_in : {A : Type 0} → Option (List ℕ) → Option (List ℕ) → Option (List ℕ) → Option (List ℕ) →
    Option (KeyCall A)
call_in (Some namespace) (Some key) (Some old) (Some new) =
    Some (record { namespace = namespace; key = key; old = old; new = new })
call_in (Some namespace) (Some key) (Some old) None = None
call_in (Some namespace) (Some key) None new = None
call_in (Some namespace) None old new = None
call_in None key old new = None

-- the call that the parameters are
unfoldable pub call_of : {A : Type 0} → List (Param A) → Option (KeyCall A)
call_of params =
    call_in (value_of (codes "namespace") params) (value_of (codes "key") params)
    (value_of (codes "old") params) (value_of (codes "new") params)

-- what keys are of
abbrev pub keys_of : {A : Type 0} → Repository A → Keys A
keys_of repo = record { phases = repo.phases; markers = repo.markers; bookmarks = repo.bookmarks }

-- the repository with other phases, bookmarks and markers
abbrev pub with_keys : {A : Type 0} → Repository A → Keys A → Repository A
with_keys repo keys = record repo { phases = keys.phases; markers = keys.markers; bookmarks = keys.bookmarks }

-- 1 where the call took effect, and else 0
abbrev pub result_text : Bool → List ℕ
result_text true = codes "1"
result_text false = codes "0"

-- the reply: 1 where the call was content, else 0
abbrev pub reply_to_key : {A : Type 0} → ℕ → Bool → Part A
reply_to_key id done = reply_part (codes "reply:pushkey") id (codes "return") (result_text done)

-- a mandatory part whose call did not take effect
abbrev pub is_refused : {A : Type 0} → Part A → Bool → Bool
is_refused part done = not done && is_mandatory part.kind

-- done, unless the part is mandatory and its call was not content
abbrev pub handle_done : {A : Type 0} → Repository A → Bool → ℕ → Part A → KeyCall A → Keys A → Bool →
    Outcome A
handle_done repo replying place part call keys done =
    if is_refused part done
    then Err (KeyFailed place part.id call)
    else Ok (record { repo = with_keys repo keys; reply = reply_where replying (reply_to_key part.id done) })

-- as `handle_done`, where the call's text can be read
abbrev pub handle_pushed : {A : Type 0} → Repository A → Bool → ℕ → Part A → KeyCall A →
    Result (Keys A × Bool) KeyFault → Outcome A
handle_pushed repo replying place part call (Ok (keys, done)) =
    handle_done repo replying place part call keys done
handle_pushed repo replying place part call (Err fault) = Err (BadPart place)

-- as `handle_pushed`, where the part has all parameters of a call
abbrev pub handle_call : {A : Type 0} → Repository A → Bool → ℕ → Part A → Option (KeyCall A) → Outcome A
handle_call repo replying place part (Some call) =
    handle_pushed repo replying place part call (key_pushed repo.rows (keys_of repo) call)
handle_call repo replying place part None = Err (BadPart place)

-- what a `pushkey` part makes of a repository
abbrev pub handle_pushkey : {A : Type 0} → Repository A → Bool → ℕ → Part A → Outcome A
handle_pushkey repo replying place part = handle_call repo replying place part (call_of part.params)
