-- One more write of a reply, and its flush.
use Rattle.std.proofs.Common.{ℕ, ◌≡◌, ◌≢◌, ◌≤◌, ◌<◌, ◌+◌, ◌-◌, ◌⊎◌, inl, inr, List, [], ◌∷◌, ◌++◌, All, refl}
use Rattle.std.proofs.Common.{sym, ◌∙◌, ap, subst, arith, rules, length, map, take, drop, take-append-drop}
use Rattle.std.proofs.Common.{length-drop}
use Rattle.std.specs.List.{concat}
use Rattle.std.proofs.lemmas.List.{append-nil, length-take, map-append, take_all, drop_all}
use Rattle.std.proofs.lemmas.List.Elements.{All-append, All-cons}
use Rattle.std.proofs.lemmas.List.Folds.{concat-append}
use Rattle.std.proofs.Math.Seq.{take-add, take-length}
use Rattle.std.proofs.KnownBytes.{Appends-nil, Appends-trans}
use Rattle.std.specs.Io.KnownBytes.{Appends}
use Rattle.hg_connection.specs.Devices.{Output, WriteAnswer, Took, Refused, TellsMore, Uses}
use Rattle.hg_connection.specs.Devices.{taken_by}
use Rattle.hg_connection.specs.declared.sending.Sending.{Sending}
use Rattle.hg_connection.specs.declared.sending.Sending.TheVariants.{Broken}
use Rattle.hg_connection.specs.Sent.{LastUse, Sends, Writes}
use Rattle.hg_connection.proofs.DeviceLemmas.{Adds-nil, Adds-trans}

-- so many bytes were written, some at each write
pub record WritesOn (before now : Output) (all : List ℕ) (sent : ℕ) : Type 0 where
  pub pieces : List (List ℕ)
  pub each : All (λ piece. 1 ≤ length piece) pieces
  pub sent_is : concat pieces ≡ take sent all
  pub bound : sent ≤ length all
  pub bytes : Appends before.taken now.taken (concat pieces)
  pub uses : TellsMore before.uses now.uses (map Took pieces)

pub starts : (writer : Output) (bytes : List ℕ) → WritesOn writer writer bytes 0
starts writer bytes = record {
  pieces = [];
  each = search rules;
  sent_is = refl;
  bound = omega arith;
  bytes = Appends-nil writer.taken;
  uses = Adds-nil writer.uses;
}

joined_more : (pieces : List (List ℕ)) (piece : List ℕ) → concat (pieces ++ piece ∷ []) ≡ concat pieces
    ++ piece
joined_more pieces piece = concat-append pieces (piece ∷ []) ∙ ap (λ l. concat pieces ++ l) (append-nil piece)

-- what a write is given
rest_of : (bytes : List ℕ) (sent : ℕ) → take (length bytes - sent) (drop sent bytes) ≡ drop sent bytes
rest_of bytes sent = ap (λ (k : ℕ). take k (drop sent bytes)) (sym (length-drop sent bytes))
    ∙ take-length (drop sent bytes)

-- after a write of n bytes more
pub more_sent : (before mid now : Output) (bytes : List ℕ) (sent n : ℕ) → WritesOn before mid bytes sent
    → 1 ≤ n → n ≤ length (take (length bytes - sent) (drop sent bytes))
    → Uses mid now (Took (take n (take (length bytes - sent) (drop sent bytes))))
    → WritesOn before now bytes (sent + n)
more_sent before mid now bytes sent n w some bound step =
    let piece = take n (drop sent bytes) in
    let left : take n (take (length bytes - sent) (drop sent bytes)) ≡ piece = ap (λ (l : List ℕ). take n l)
    (rest_of bytes sent) in
    let used : Uses mid now (Took piece) = subst (λ (l : List ℕ). Uses mid now (Took l)) left step in
    let joined = joined_more w.pieces piece in
    let few : n ≤ length (drop sent bytes) = omega
    (arith, bound, ap (λ (l : List ℕ). length l) (rest_of bytes sent)) in record {
      pieces = w.pieces ++ piece ∷ [];
      each = All-append (λ p. 1 ≤ length p) w.pieces (piece ∷ []) w.each
          (All-cons (λ p. 1 ≤ length p) piece [] (omega (arith, some, few, length-take n (drop sent bytes)))
          (search rules));
      sent_is = joined ∙ ap (λ l. l ++ piece) w.sent_is ∙ sym (take-add sent n bytes);
      bound = omega (arith, w.bound, few, length-drop sent bytes);
      bytes = subst (Appends before.taken now.taken) (sym joined)
          (Appends-trans before.taken mid.taken now.taken (concat w.pieces) piece w.bytes used.bytes);
      uses = subst (TellsMore before.uses now.uses) (sym (map-append Took w.pieces (piece ∷ [])))
          (Adds-trans before.uses mid.uses now.uses (map Took w.pieces) (Took piece ∷ []) w.uses used.told);
    }

-- all was written
pub all_written : (before now : Output) (bytes : List ℕ) (sent : ℕ) → WritesOn before now bytes sent
    → length bytes ≤ sent → Writes before now bytes sent
all_written before now bytes sent w all = record {
  pieces = w.pieces;
  last = [];
  each = w.each;
  sent_is = w.sent_is;
  bytes = w.bytes;
  uses = subst (TellsMore before.uses now.uses) (sym (append-nil (map Took w.pieces))) w.uses;
  ends = inl (omega (arith, w.bound, all), refl);
}

is_left : (bytes : List ℕ) (sent : ℕ) → sent < length bytes → drop sent bytes ≢ []
is_left bytes sent less =
    λ e. (let none : length (drop sent bytes) ≡ 0 = ap (λ (l : List ℕ). length l) e in
    absurd (omega (arith, none, less, length-drop sent bytes)))

-- a write took nothing, or failed
pub stops : (before mid after : Output) (bytes : List ℕ) (sent : ℕ) (answer : WriteAnswer)
    → WritesOn before mid bytes sent → sent < length bytes → Uses mid after answer → (answer ≡ Took [])
    ⊎ (answer ≡ Refused)
    → Writes before after bytes sent
stops before mid after bytes sent answer w less step how =
    let none : taken_by answer ≡ [] = elim how [
      | inl took ↦ ap taken_by took
      | inr refused ↦ ap taken_by refused
    ] in record {
      pieces = w.pieces;
      last = answer ∷ [];
      each = w.each;
      sent_is = w.sent_is;
      bytes = subst (Appends before.taken after.taken) (ap (λ l. concat w.pieces ++ l) none
          ∙ append-nil (concat w.pieces))
          (Appends-trans before.taken mid.taken after.taken (concat w.pieces)
          (taken_by answer) w.bytes step.bytes);
      uses = Adds-trans before.uses mid.uses after.uses (map Took w.pieces) (answer ∷ []) w.uses step.told;
      ends = inr (
        omega (arith, less),
        (
          is_left bytes sent less,
          elim how [
            | inl took ↦ inl (ap (λ a. a ∷ []) took)
            | inr refused ↦ inr (ap (λ a. a ∷ []) refused)
          ],
        ),
      );
    }

-- so many bytes went out
counted : (bytes : List ℕ) (sent : ℕ) (pieces : List (List ℕ)) → concat pieces ≡ take sent bytes
    → sent ≤ length bytes → sent ≡ length (concat pieces)
counted bytes sent pieces is bound =
    let e : length (concat pieces) ≡ length (take sent bytes) = ap (λ (l : List ℕ). length l) is in
    omega (arith, e, bound, length-take sent bytes)

parted : (bytes : List ℕ) (sent : ℕ) (pieces : List (List ℕ)) → concat pieces ≡ take sent bytes
    → bytes ≡ concat pieces ++ drop sent bytes
parted bytes sent pieces is = sym (take-append-drop sent bytes) ∙ ap (λ l. l ++ drop sent bytes) (sym is)

-- the writer took a front of the bytes and no more
pub breaks_off : (before after : Output) (bytes : List ℕ) (sent : ℕ) → Writes before after bytes sent
    → sent < length bytes → Sends Broken sent before after bytes
breaks_off before after bytes sent w less = record {
  gone = concat w.pieces;
  uses = map Took w.pieces ++ w.last;
  sent = record {
    pieces = w.pieces;
    rest = drop sent bytes;
    last = w.last;
    each = w.each;
    gone_is = refl;
    uses_are = refl;
    reply_is = parted bytes sent w.pieces w.sent_is;
    ends = inl (elim w.ends [ inl whole ↦ absurd (omega (arith, less, whole.0)) | inr short ↦ short.1 ]);
  };
  count_is = counted bytes sent w.pieces w.sent_is (omega (arith, less));
  bytes = w.bytes;
  told = w.uses;
}

-- all was written, and the writer used once more
pub finishes : (sending : Sending) (before mid after : Output) (bytes : List ℕ) (sent : ℕ)
    (answer : WriteAnswer) → Writes before mid bytes sent → length bytes ≤ sent → Uses mid after answer
    → taken_by answer ≡ []
    → ((pieces : List (List ℕ)) → LastUse sending pieces [] (answer ∷ []))
    → Sends sending sent before after bytes
finishes sending before mid after bytes sent answer w all step none ends =
    let nothing : w.last ≡ [] = elim w.ends [
      | inl whole ↦ whole.1
      | inr short ↦ absurd (short.1.0 (drop_all sent bytes all))
    ] in
    let wrote : TellsMore before.uses mid.uses (map Took w.pieces) = subst (TellsMore before.uses mid.uses)
    (ap (λ l. map Took w.pieces ++ l) nothing ∙ append-nil (map Took w.pieces)) w.uses in
    let whole : concat w.pieces ≡ bytes = w.sent_is ∙ take_all sent bytes all in
    let bound : sent ≤ length bytes = elim w.ends [
      | inl same ↦ omega (arith, same.0)
      | inr short ↦ short.0
    ] in record {
      gone = concat w.pieces;
      uses = map Took w.pieces ++ answer ∷ [];
      sent = record {
        pieces = w.pieces;
        rest = [];
        last = answer ∷ [];
        each = w.each;
        gone_is = refl;
        uses_are = refl;
        reply_is = sym whole ∙ sym (append-nil (concat w.pieces));
        ends = ends w.pieces;
      };
      count_is = counted bytes sent w.pieces w.sent_is bound;
      bytes = subst (Appends before.taken after.taken) (ap (λ l. concat w.pieces ++ l) none
          ∙ append-nil (concat w.pieces))
          (Appends-trans before.taken mid.taken after.taken (concat w.pieces)
          (taken_by answer) w.bytes step.bytes);
      told = Adds-trans before.uses mid.uses after.uses (map Took w.pieces) (answer ∷ []) wrote step.told;
    }
