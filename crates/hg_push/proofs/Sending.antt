-- A bundle can carry the part that tells why a push was aborted.
use Rattle.std.proofs.Common.{ℕ, ◌≡◌, ◌≢◌, ◌<◌, List, [], ◌∷◌, ◌++◌, refl, ap, arith, take, length, get_or}
use Rattle.std.proofs.Common.{true, All}
use Rattle.std.specs.Prelude.{codes, decimal}
use Rattle.std.proofs.lemmas.List.{length-take}
use Rattle.std.proofs.lemmas.List.Elements.{All-cons, All-from_recursion}
use Rattle.hg_parts.specs.declared.item.CutReason.{CutReason}
use Rattle.hg_parts.specs.declared.item.CutReason.TheVariants.{Stream, ReadFailed, GaveUp}
use Rattle.hg_keys.specs.declared.keys.KeyCall.{KeyCall}
use Rattle.hg_params.specs.Header.{AreDistinct, is_kind}
use Rattle.hg_params.specs.Writing.{FitsParam}
use Rattle.hg_stream.specs.Written.{CanBeWritten}
use Rattle.hg_parts.specs.declared.refusal.Refusal.{Refusal}
use Rattle.hg_parts.specs.declared.refusal.Refusal.TheVariants.{Unsupported, Raced, KeyFailed, BadPart}
use Rattle.hg_parts.specs.declared.refusal.Refusal.TheVariants.{BadChangeset, UnknownNode, ClientAbort}
use Rattle.hg_parts.specs.declared.refusal.Refusal.TheVariants.{NoMemory}
use Rattle.hg_parts.specs.Refusal.{message_of}
use Rattle.hg_push.specs.declared.outcome.Reason.{Reason}
use Rattle.hg_push.specs.declared.outcome.Reason.TheVariants.{Refused, Cut, WrongIndex}
use Rattle.hg_push.specs.declared.outcome.Reason.TheVariants.{NoMemory as without_memory}
use Rattle.hg_push.specs.Reply.{error_part, telling, unsupported_part, key_part, refusal_part, cut_part}
use Rattle.hg_push.specs.Reply.{reason_part}

short : (value : List ℕ) → length (take 255 value) < 256
short value = omega (arith, length-take 255 value)

one_key : (key : List ℕ) → AreDistinct (key ∷ [])
unfolding AreDistinct
one_key key = (tt, tt)

two_keys : (key other : List ℕ) → key ≢ other → AreDistinct (key ∷ other ∷ [])
unfolding AreDistinct
two_keys key other differ = ((differ, tt), (tt, tt))

-- a part with one parameter, whose value was cut
one_stands : {A : Type 0} (kind key value : List ℕ) → is_kind kind ≡ true → length kind < 256
    → length key < 256 → CanBeWritten {A = A} (error_part kind (telling key value ∷ []))
one_stands kind key value is_one kind_fits key_fits = record {
  header = record {
    kind_is = is_one;
    kind_fits = kind_fits;
    in_order = refl;
    mandatory_fit = omega arith;
    advisory_fit = omega arith;
    params_fit = All-from_recursion FitsParam (telling key value ∷ [])
        (record { key = key_fits; value = short value }, tt);
    distinct = one_key key;
  };
  payload = omega arith;
}

two_stand : {A : Type 0} (kind key value key' value' : List ℕ) → is_kind kind ≡ true → length kind < 256
    → length key < 256 → length key' < 256 → key ≢ key'
    → CanBeWritten {A = A} (error_part kind (telling key value ∷ telling key' value' ∷ []))
two_stand kind key value key' value' is_one kind_fits key_fits key_fits' differ = record {
  header = record {
    kind_is = is_one;
    kind_fits = kind_fits;
    in_order = refl;
    mandatory_fit = omega arith;
    advisory_fit = omega arith;
    params_fit = All-from_recursion FitsParam (telling key value ∷ telling key' value' ∷ []) (
      record { key = key_fits; value = short value },
      (record { key = key_fits'; value = short value' }, tt),
    );
    distinct = two_keys key key' differ;
  };
  payload = omega arith;
}

abort_stands : {A : Type 0} (message : List ℕ)
    → CanBeWritten {A = A} (error_part (codes "ERROR:ABORT") (telling (codes "message") message ∷ []))
abort_stands message = one_stands _ _ message refl (omega arith) (omega arith)

race_stands : {A : Type 0} (message : List ℕ)
    → CanBeWritten {A = A} (error_part (codes "ERROR:PUSHRACED") (telling (codes "message") message ∷ []))
race_stands message = one_stands _ _ message refl (omega arith) (omega arith)

unlike : codes "parttype" ≢ codes "params"
unlike e = let n : 8 ≡ 6 = ap length e in omega (arith, n)

unsupported_stands : {A : Type 0} (kind : List ℕ) (names : List (List ℕ))
    → CanBeWritten {A = A} (unsupported_part kind names)
unsupported_stands kind [] = one_stands _ _ kind refl (omega arith) (omega arith)
unsupported_stands kind (name ∷ names) =
    two_stand _ _ kind _ _ refl (omega arith) (omega arith) (omega arith) unlike

first : List ℕ → ℕ
first bytes = get_or bytes 0 0

key_new : codes "key" ≢ codes "new"
unfolding first
key_new e = let n : 107 ≡ 110 = ap first e in omega (arith, n)

key_old : codes "key" ≢ codes "old"
unfolding first
key_old e = let n : 107 ≡ 111 = ap first e in omega (arith, n)

new_old : codes "new" ≢ codes "old"
unfolding first
new_old e = let n : 110 ≡ 111 = ap first e in omega (arith, n)

-- the five names of the parameters of `error:pushkey`
key_names : AreDistinct (codes "in-reply-to" ∷ codes "namespace" ∷ codes "key" ∷ codes "new" ∷ codes "old"
    ∷ [])
unfolding AreDistinct
key_names = (
  ((λ e. cc), ((λ e. cc), ((λ e. cc), ((λ e. cc), tt)))),
  (
    ((λ e. cc), ((λ e. cc), ((λ e. cc), tt))),
    (
      (key_new, (key_old, tt)),
      ((new_old, tt), (tt, tt)),
    ),
  ),
)

key_stands : {A : Type 0} (id : ℕ) (call : KeyCall A) → CanBeWritten {A = A} (key_part id call)
key_stands id call = record {
  header = record {
    kind_is = refl;
    kind_fits = omega arith;
    in_order = refl;
    mandatory_fit = omega arith;
    advisory_fit = omega arith;
    params_fit = All-from_recursion FitsParam (key_part id call).params (
      record { key = omega arith; value = short (decimal id) },
      (
        record { key = omega arith; value = short call.namespace },
        (
          record { key = omega arith; value = short call.key },
          (
            record { key = omega arith; value = short call.new },
            (
              record { key = omega arith; value = short call.old },
              tt,
            ),
          ),
        ),
      ),
    );
    distinct = key_names;
  };
  payload = omega arith;
}

refusal_stands : {A : Type 0} (refusal : Refusal A) → CanBeWritten (refusal_part refusal)
refusal_stands (Unsupported place kind params) = unsupported_stands kind params
refusal_stands (Raced place text) = race_stands (message_of text)
refusal_stands (KeyFailed place id call) = key_stands id call
refusal_stands (BadPart place) = abort_stands (codes "part " ++ decimal place ++ codes " is malformed")
refusal_stands (BadChangeset place fault) =
    abort_stands (codes "part " ++ decimal place ++ codes " holds a bad changeset")
refusal_stands (UnknownNode place) =
    abort_stands (codes "part " ++ decimal place ++ codes " names an unknown node")
refusal_stands (ClientAbort place) = abort_stands (codes "client aborted")
refusal_stands NoMemory = abort_stands (codes "out of memory")

cut_stands : {A : Type 0} (reason : CutReason) → CanBeWritten {A = A} (cut_part reason)
cut_stands (Stream fault) = abort_stands (codes "stream fault " ++ decimal fault)
cut_stands ReadFailed = abort_stands (codes "connection lost")
cut_stands GaveUp = abort_stands (codes "push dropped")

pub reason_stands : {A : Type 0} (reason : Reason (Refusal A)) → CanBeWritten (reason_part reason)
reason_stands (Refused refusal) = refusal_stands refusal
reason_stands (Cut reason) = cut_stands reason
reason_stands WrongIndex = abort_stands (codes "bad end mark")
reason_stands without_memory = abort_stands (codes "out of memory")

pub reason_sent : {A : Type 0} (reason : Reason (Refusal A)) → All CanBeWritten (reason_part reason ∷ [])
reason_sent reason = All-cons CanBeWritten (reason_part reason) [] (reason_stands reason)
    (λ k d within. absurd (omega arith))
